use Rattle.std.proofs.Common.{◌≡◌, length}
use Rattle.byte_strings.specs.Blanks.{words}
use Rattle.mk_macros.specs.Ranks.{Defined}
use Rattle.mk_eval.specs.Makefile.{unmoved, with_items, TargetItems}
use Rattle.mk_eval.proofs.MakefileLemmas.{Reaches}
use Rattle.mk_eval.proofs.static_rule.each_target.Given as goal

abbrev pub invariant-loop-target : goal.invariant-loop-target
invariant-loop-target l = record {
  gathered : Reaches unmoved (λ _. TargetItems l.rule l.pattern (words l.prerequisites)) tt (words l.targets) tt l.items.items (words l.rest);
  loose : (given : Defined) → with_items given l.items.items ≡ given;
}

abbrev pub decreases-loop-target : goal.decreases-loop-target
decreases-loop-target l = length l.rest
