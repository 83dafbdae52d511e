use Rattle.std.proofs.Common.{◌≡◌, ◌+◌, ◌≤◌, length}
use Rattle.mk_depfiles.specs.Words.{words}
use Rattle.mk_depfiles.specs.Gathering.{read, held_count}
use Rattle.mk_depfiles.proofs.words.words.Given as goal

abbrev pub invariant-loop-byte : goal.invariant-loop-byte
invariant-loop-byte l = record {
  held : held_count l.gathering.held + length l.rest ≤ length l.line;
  value : read l.gathering l.rest ≡ words l.line;
}

abbrev pub decreases-loop-byte : goal.decreases-loop-byte
decreases-loop-byte l = length l.rest
