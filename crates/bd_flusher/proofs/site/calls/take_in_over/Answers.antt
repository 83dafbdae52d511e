use Rattle.std.proofs.Common.{◌≡◌, ℕ, List, [], ◌++◌, length, map, ap, subst, ◌∙◌, arith, rules}
use Rattle.st_records.specs.declared.version.Form.{Form}
use Rattle.st_records.specs.declared.record.Record.{Record}
use Rattle.bd_ledger.specs.Sheet.{AreWritableIn}
use Rattle.bd_flusher.specs.Over.{over_facts}
use Rattle.bd_flusher.proofs.SiteLemmas.{length_zero, each_record, taken_site}
use Rattle.bd_flusher.proofs.site.calls.take_in_over.Goals as goal

-- what was drained is held, with the room that was made for it
pub returns-clause-site : goal.returns-clause-site
returns-clause-site g c =
    let old = over_facts g.S.AnyStore.parts_of c.args.site.now in
    let notes : List (ℕ × Record) = (g.B.Waiting.sheet_of c.args.board.now).notes in
    let is = c.requires.site.0 in
    let call = c.in_ok-take_in.ensures in
    let none : c.args.site.now.records.held.items ≡ [] = length_zero _ (search rules) in
    let no_tickets : c.args.site.now.records.tickets.items ≡ [] = length_zero _ (is.each_ticket ∙ ap length none) in
    let tickets : c.take_in.new.self.tickets.items ≡ map (λ n. n.0) notes = call.tickets ∙ ap (λ xs. xs ++ map (λ n. n.0) notes) no_tickets in
    let held : c.take_in.new.self.held.items ≡ map (λ n. n.1) notes = call.held ∙ ap (λ xs. xs ++ map (λ n. n.1) notes) none in
    let long : length c.take_in.new.self.told.items ≡ length c.args.site.now.records.told.items = ap length call.told in
    let writable : AreWritableIn old.newest notes = subst (λ (f : Form). AreWritableIn f notes) c.requires.form call.writable in
    rw call.ends (
      taken_site g.D.Disk.honest g.D.Disk.moments old notes _ _ _ is none writable (omega (arith, call.few, long)) call.told tickets held,
      omega (arith, call.room, ap length held, each_record notes),
    )
