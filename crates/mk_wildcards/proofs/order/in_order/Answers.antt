use Rattle.std.proofs.Common.{sym, ◌∙◌}
use Rattle.mk_wildcards.specs.Found.{in_order}
use Rattle.mk_wildcards.proofs.OrderLemmas.{word_ordered}
use Rattle.mk_wildcards.proofs.order.in_order.Goals as goal

pub loop-name-preserved-in_ok-insert : goal.loop-name-preserved-in_ok-insert
loop-name-preserved-in_ok-insert c =
    word_ordered c.loop-name.those.keys c.insert.new.self.keys c.in_ok-from_slice.field-0 c.in-Some.name.now c.loop-name.name-iterator c.next.new.self (in_order c.args.names.now)
    c.in-Some.ensures.steps (sym c.is_word.ensures ∙ c.if-is_word.true) c.in_ok-from_slice.ensures.items c.in_ok-insert.ensures.keys c.loop-name.invariant
