use Rattle.std.proofs.Common.{◌≡◌, ◌++◌, drop}
use Rattle.bl_log.specs.Spans.{ranked_from}
use Rattle.bl_log.proofs.times.numbered.Given as goal

abbrev pub invariant-loop-number : goal.invariant-loop-number
invariant-loop-number l = l.all.items ++ ranked_from l.number (drop l.number l.spans) ≡ ranked_from 0 l.spans
