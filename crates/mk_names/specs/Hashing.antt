-- The hash of a name. Own.
use Rattle.std.specs.Prelude.{ℕ, ◌*◌, ◌/◌, ◌%◌, ◌^◌, List, [], ◌∷◌, bit_xor}

-- the state once a byte is taken in
unfoldable pub stirred : (state byte : ℕ) → ℕ
stirred state byte = bit_xor ((state * 0x9e37_79b9_7f4a_7c15) % 2 ^ 64) byte

-- the state once all these bytes are
abbrev pub stirred_by : (state : ℕ) (name : List ℕ) → ℕ
stirred_by state [] = state
stirred_by state (byte ∷ name) = stirred_by (stirred state byte) name

-- the two halves of the state behind all bytes, in one. The last byte changes no more than the last eight bits, so that names that are
-- the same up to it lie beside each other
unfoldable pub hash_of : (name : List ℕ) → ℕ
hash_of name = let state = stirred_by 0xcbf2_9ce4_8422_2325 name in bit_xor (state / 2 ^ 32) (state % 2 ^ 32)
