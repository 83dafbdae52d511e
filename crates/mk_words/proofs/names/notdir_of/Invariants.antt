use Rattle.std.proofs.Common.{◌≡◌, ◌≤◌, length}
use Rattle.mk_words.specs.Names.{behind_slash, notdir_of}
use Rattle.mk_words.proofs.names.notdir_of.Given as goal

abbrev pub invariant-loop-byte : goal.invariant-loop-byte
invariant-loop-byte l = (behind_slash l.found l.rest ≡ notdir_of l.name) × (length l.found ≤ length l.name) × (length l.rest ≤ length l.name)

abbrev pub decreases-loop-byte : goal.decreases-loop-byte
decreases-loop-byte l = length l.rest
