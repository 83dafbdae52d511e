use Rattle.std.proofs.Common.{◌≡◌, take}
use Rattle.mk_names.specs.Names.{all_added}
use Rattle.mk_sources.proofs.made.mention_front.Given as goal

abbrev pub invariant-loop-number : goal.invariant-loop-number
invariant-loop-number l = l.names ≡ all_added l.fn.names (take l.number l.mentioned)
