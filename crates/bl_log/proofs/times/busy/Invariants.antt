use Rattle.std.proofs.Common.{◌≡◌, ◌<◌, ◌^◌, take}
use Rattle.std.specs.Prelude.{sum_by}
use Rattle.bl_log.specs.Spans.{time}
use Rattle.bl_log.proofs.times.busy.Given as goal

abbrev pub invariant-loop-span : goal.invariant-loop-span
invariant-loop-span l = record {
  sum : l.sum ≡ sum_by time (take l.span-index l.spans);
  fits : l.sum < 2 ^ 64;
}
