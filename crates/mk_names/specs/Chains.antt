-- Hashes in buckets, each bucket a chain from its last hash to its first. Own.
use Rattle.std.specs.Prelude.{◌≡◌, ◌≢◌, ℕ, ◌-◌, ◌<◌, ◌≤◌, ◌^◌, List, length, slice_index, bit_and}

-- the bucket of a hash, where there are so many
unfoldable pub bucket : (buckets hash : ℕ) → ℕ
bucket buckets hash = bit_and hash (buckets - 1)

-- the place, counted from 1, of the last of the first `count` hashes that fall into a bucket; 0 where none does
pub record IsLast (hashes : List ℕ) (buckets b count place : ℕ) : Type 0 where
  pub within : place ≤ count
  pub there : 0 < place → bucket buckets (slice_index hashes (place - 1)) ≡ b
  pub others : (i : ℕ) → place ≤ i → i < count → bucket buckets (slice_index hashes i) ≢ b

-- each head is the last place of its bucket, and with each hash stands the last place of its bucket before it
pub record AreChained (hashes befores heads : List ℕ) : Type 0 where
  pub long : length befores ≡ length hashes
  pub room : length hashes ≤ length heads
  pub few : length heads ≤ 2 ^ 31
  pub last : (b : ℕ) → b < length heads → IsLast hashes (length heads) b (length hashes) (slice_index heads b)
  pub before : (i : ℕ) → i < length hashes → IsLast hashes (length heads) (bucket (length heads) (slice_index hashes i)) i (slice_index befores i)
