-- Numbers and bytes that are there in full, or not.
use Rattle.std.proofs.Common.{◌≡◌, ℕ, ◌+◌, ◌<◌, ◌⊎◌, List, length, take, drop, Ok, Err, refl, inl, inr, arith}
use Rattle.std.specs.Int.{Width, w32, byte_len, from_le_bytes}
use Rattle.std.proofs.lemmas.Bool.{cases_lt, lt-ltb, le-ltb}
use Rattle.std.proofs.lemmas.List.{length-drop}
use Rattle.st_records.specs.declared.fault.DecodeFault.TheVariants.{Short}
use Rattle.st_records.specs.Reading.{uint_at, number_at, bytes_at}

uint_cases : (w : Width) (bytes : List ℕ) → ((x : ℕ × List ℕ) × (uint_at w bytes ≡ Ok x) × (length x.1 + byte_len w ≡ length bytes)) ⊎ ((uint_at w bytes ≡ Err Short) × (length bytes < byte_len w))
uint_cases w bytes =
    elim (cases_lt (length bytes) (byte_len w)) [
      | inl lt ↦ inr (rw (lt-ltb (length bytes) (byte_len w) lt) refl, lt)
      | inr le ↦ inl ((from_le_bytes w (take (byte_len w) bytes), drop (byte_len w) bytes), rw (le-ltb (length bytes) (byte_len w) le) refl, omega (arith, length-drop (byte_len w) bytes))
    ]

pub number_cases : (bytes : List ℕ) → ((x : ℕ × List ℕ) × (number_at bytes ≡ Ok x) × (length x.1 + 4 ≡ length bytes)) ⊎ ((number_at bytes ≡ Err Short) × (length bytes < 4))
number_cases bytes = uint_cases w32 bytes

pub bytes_cases : (n : ℕ) (bytes : List ℕ) → ((bytes_at n bytes ≡ Ok (take n bytes, drop n bytes)) × (length (drop n bytes) + n ≡ length bytes)) ⊎ ((bytes_at n bytes ≡ Err Short) × (length bytes < n))
bytes_cases n bytes =
    elim (cases_lt (length bytes) n) [
      | inl lt ↦ inr (rw (lt-ltb (length bytes) n lt) refl, lt)
      | inr le ↦ inl (rw (le-ltb (length bytes) n le) refl, omega (arith, length-drop n bytes))
    ]
