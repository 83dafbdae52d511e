use Rattle.std.proofs.Common.{◌≡◌}
use Rattle.mk_names.specs.Names.{all_added}
use Rattle.st_answers.proofs.drawing.mention_all.Given as goal

abbrev pub invariant-loop-name : goal.invariant-loop-name
invariant-loop-name l = all_added l.names l.name-iterator ≡ all_added l.fn.names l.fn.mentioned
