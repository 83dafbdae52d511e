use Rattle.std.proofs.Common.{◌≡◌}
use Rattle.mk_plan.specs.ExplicitWords.{stem_left}
use Rattle.mk_plan.proofs.explicit_words.stem_left.Given as goal

abbrev pub invariant-loop-suffix : goal.invariant-loop-suffix
invariant-loop-suffix l = stem_left l.suffix-iterator l.name ≡ stem_left l.suffixes l.name
