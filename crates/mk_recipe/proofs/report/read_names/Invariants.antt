use Rattle.std.proofs.Common.{map}
use Rattle.mk_short_names.specs.Short.{name_in}
use Rattle.mk_recipe.specs.Report.{names_in}
use Rattle.mk_recipe.proofs.AnswerLemmas.{ReadsSoFar}
use Rattle.mk_recipe.proofs.report.read_names.Given as goal

abbrev pub invariant-loop-word : goal.invariant-loop-word
invariant-loop-word l = ReadsSoFar (names_in l.profile l.text) (map (name_in l.profile) l.word-iterator) l.initial.seen l.initial.hidden l.seen l.hidden l.left_out
