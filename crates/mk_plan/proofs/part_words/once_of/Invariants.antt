use Rattle.std.proofs.Common.{◌≡◌}
use Rattle.mk_names.specs.Names.{all_added}
use Rattle.mk_nodes.specs.Prerequisites.{distinct}
use Rattle.mk_plan.proofs.part_words.once_of.Given as goal

abbrev pub invariant-loop-name : goal.invariant-loop-name
invariant-loop-name l = all_added l.once l.name-iterator ≡ distinct l.written
