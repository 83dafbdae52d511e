use Rattle.std.proofs.Common.{◌≡◌, ◌<◌, false, length, arith, rules}
use Rattle.bd_flusher.specs.Over.{over_facts}
use Rattle.bd_flusher.proofs.AnswerLemmas.{early_turn, refused_early, none_to_write}
use Rattle.bd_flusher.proofs.site.calls.flush_over.Goals as goal

pub returns-then-is_empty-clause-answer : goal.returns-then-is_empty-clause-answer
returns-then-is_empty-clause-answer g c =
    none_to_write _ g.D.Disk.honest g.D.Disk.moments g.D.Disk.seen g.D.Disk.faults (over_facts g.S.AnyStore.parts_of c.args.site.now) _ c.requires.0 (search rules) (search rules)

pub returns-in-Some-clause-answer : goal.returns-in-Some-clause-answer
returns-in-Some-clause-answer g c =
    let old = over_facts g.S.AnyStore.parts_of c.args.site.now in
    let alive : old.dead ≡ false = search rules in
    let some : 0 < length c.args.site.now.records.held.items = search rules in
    let long : c.len.result ≡ length c.args.site.now.records.told.items = search rules in
    refused_early _ g.D.Disk.honest g.D.Disk.moments g.D.Disk.seen g.D.Disk.faults old _ c.requires.0 (λ nothing still. omega (arith, some, nothing))
    (early_turn _ _ _ _ _ alive (rw (long, c.deref.ensures.value) at c.in-Some.ensures))
