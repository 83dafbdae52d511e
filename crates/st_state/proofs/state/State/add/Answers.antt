use Rattle.std.proofs.Common.{ap, subst, sym, ◌∙◌}
use Rattle.std.specs.FinMap as map
use Rattle.st_state.specs.State.{by_name}
use Rattle.st_state.specs.Ends.{AreEndsOf}
use Rattle.st_state.proofs.EndsLemmas.{ends_marked, ends_set}
use Rattle.st_state.proofs.StateLemmas.{by_name-insert_entry}
use Rattle.st_state.proofs.state.State.add.Goals as goal

pub returns-clause-ok : goal.returns-clause-ok
returns-clause-ok c =
    ap (by_name (λ k. k)) c.in_ok-insert.ensures.entries
    ∙ by_name-insert_entry (λ k. k) c.in_ok-from_slice.field-0 c.args.entry c.self.inside.entries.entries
    ∙ ap (λ m. map.insert m c.in_ok-from_slice.field-0 c.args.entry) c.self.view_is
    ∙ ap (λ n. map.insert c.args.self.now n c.args.entry) c.in_ok-from_slice.ensures

pub invariant_of-self-in_err-insert : goal.invariant_of-self-in_err-insert
invariant_of-self-in_err-insert c =
    subst (λ es. AreEndsOf c.mark.new.self (by_name (λ k. k) es)) (sym c.in_err-insert.ensures.err)
    (ends_marked c.self.inside.ends c.mark.new.self (by_name (λ k. k) c.self.inside.entries.entries) c.mark.ensures.kept c.self.invariant)

pub invariant_of-self-2 : goal.invariant_of-self-2
invariant_of-self-2 c =
    ends_set c.self.inside.ends c.mark.new.self (by_name (λ k. k) c.self.inside.entries.entries) _ c.args.name.now c.args.entry c.mark.ensures.kept c.mark.ensures.marked c.self.invariant
    (ap (by_name (λ k. k)) c.in_ok-insert.ensures.entries
    ∙ by_name-insert_entry (λ k. k) c.in_ok-from_slice.field-0 c.args.entry c.self.inside.entries.entries
    ∙ ap (λ n. map.insert (by_name (λ k. k) c.self.inside.entries.entries) n c.args.entry) c.in_ok-from_slice.ensures)
