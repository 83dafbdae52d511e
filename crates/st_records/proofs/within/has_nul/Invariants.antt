use Rattle.std.proofs.Common.{◌≡◌, ◌||◌, drop}
use Rattle.st_records.specs.Tests.{has_byte}
use Rattle.st_records.proofs.within.has_nul.Given as goal

-- what was found so far, or what is left to find, is what there is
abbrev pub invariant-loop-byte : goal.invariant-loop-byte
invariant-loop-byte l = (l.found || has_byte 0 (drop l.byte-index l.command)) ≡ has_byte 0 l.command
