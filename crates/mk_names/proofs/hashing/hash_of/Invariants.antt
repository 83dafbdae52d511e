use Rattle.std.proofs.Common.{◌≡◌, drop}
use Rattle.mk_names.specs.Hashing.{stirred_by}
use Rattle.mk_names.proofs.hashing.hash_of.Given as goal

-- what is left of the name leads to the same state
abbrev pub invariant-loop-byte : goal.invariant-loop-byte
invariant-loop-byte l = stirred_by l.state (drop l.byte-index l.name) ≡ stirred_by 0xcbf2_9ce4_8422_2325 l.name
