use Rattle.std.proofs.Common.{◌≡◌, ℕ, ◌<◌, length, Some, slice_get, unwrap_or}
use Rattle.bd_places.specs.Settling.{end_of}
use Rattle.bd_places.specs.declared.end.End.TheVariants.{Abandoned}
use Rattle.jb_runner.proofs.pool.ends_of.Given as goal

-- the ends of the nodes so far
abbrev pub invariant-loop-number : goal.invariant-loop-number
invariant-loop-number l = record {
  each : length l.ends.items ≡ l.number;
  end : (node : ℕ) → node < l.number → slice_get l.ends.items node ≡ Some (unwrap_or (end_of l.board.standing node) Abandoned);
}
