use Rattle.std.proofs.Common.{◌≡◌, ◌+◌, ◌≤◌, false, length}
use Rattle.mk_depfiles.specs.Lines.{line_len}
use Rattle.mk_depfiles.proofs.lines.line_len.Given as goal

abbrev pub invariant-loop-byte : goal.invariant-loop-byte
invariant-loop-byte l = record {
  within : length l.rest ≤ length l.text;
  value : line_len false l.text + length l.rest ≡ line_len l.is_quoted l.rest + length l.text;
}

abbrev pub decreases-loop-byte : goal.decreases-loop-byte
decreases-loop-byte l = length l.rest
