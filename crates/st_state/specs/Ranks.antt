-- Ranks of names: numbers that tell most names apart, and that don't fall where names rise in byte order (own).
use Rattle.std.specs.Prelude.{◌≡◌, ℕ, zero, suc, ◌+◌, ◌-◌, ◌*◌, ◌^◌, ◌<◌, ◌==◌, List, [], ◌∷◌, cond, nat_lt, slice_index}

-- n bytes from place i on as one number, the first worth most, with zeros in place of bytes that aren't there
unfoldable pub number_from : ℕ → ℕ → List ℕ → ℕ
number_from zero i name = 0
number_from (suc n) i name = slice_index name i * 256 ^ n + number_from n (suc i) name

-- the rank of a name after some beginning: the eight bytes behind it as a number. A name that begins otherwise has the
-- least rank or the greatest, as it stands below or above that beginning
unfoldable pub rank : List ℕ → List ℕ → ℕ
rank [] name = number_from 8 0 name
rank (b ∷ beginning) [] = 0
rank (b ∷ beginning) (x ∷ name) = cond (nat_lt x b) 0 (cond (x == b) (rank beginning name) (2 ^ 64 - 1))

-- this is the rank of a name, which is made of bytes
pub record HasRank (beginning name : List ℕ) (r : ℕ) : Type 0 where
  pub is : r ≡ rank beginning name
  pub bytes : (i : ℕ) → slice_index name i < 256
