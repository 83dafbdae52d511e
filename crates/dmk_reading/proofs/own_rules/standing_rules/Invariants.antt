use Rattle.std.proofs.Common.{drop}
use Rattle.mk_macros.specs.Ranks.{defined_by}
use Rattle.dmk_reading.specs.BuiltIn.{texts, rules}
use Rattle.dmk_reading.proofs.OwnLemmas.{SoFar}
use Rattle.dmk_reading.proofs.own_rules.standing_rules.Given as goal

abbrev pub invariant-loop-item : goal.invariant-loop-item
invariant-loop-item l =
    SoFar (λ rule. rule.0) rules (defined_by l.fn.macros) l.items (defined_by l.macros) (drop l.item-index l.items)
    (texts l.left.items)
