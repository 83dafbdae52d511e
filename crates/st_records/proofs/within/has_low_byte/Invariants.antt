use Rattle.std.proofs.Common.{◌≡◌, ◌||◌, drop, nat_lt}
use Rattle.std.specs.List.{list_any}
use Rattle.st_records.proofs.within.has_low_byte.Given as goal

-- what was found so far, or what is left to find, is what there is
abbrev pub invariant-loop-byte : goal.invariant-loop-byte
invariant-loop-byte l = (l.found || list_any (λ byte. nat_lt byte 11) (drop l.byte-index l.name)) ≡ list_any (λ byte. nat_lt byte 11) l.name
