use Rattle.std.proofs.Common.{◌≡◌, drop}
use Rattle.mk_nodes.specs.Groups.{earliest, times_counted}
use Rattle.mk_sources.proofs.several.earliest.Given as goal

abbrev pub invariant-loop-look : goal.invariant-loop-look
invariant-loop-look l = earliest l.time (times_counted (drop l.look-index l.looks)) ≡ earliest l.fn.first (times_counted l.looks)
