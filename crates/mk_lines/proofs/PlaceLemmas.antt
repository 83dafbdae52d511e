-- Where a byte stands first.
use Rattle.std.proofs.Common.{◌≡◌, ℕ, ◌<◌, Bool, true, false, ◌==◌, List, length, get_or, refl, sym, arith, Option, Some, None}
use Rattle.std.specs.List.{position_or_len}
use Rattle.std.proofs.lemmas.List.Sums.{position_or_len_is}
use Rattle.memchr.specs.Find.{IsFirstByte, is_byte}

fails : (b : Bool) → (b ≡ true → ⊥) → b ≡ false
fails true refuted = absurd (refuted refl)
fails false refuted = refl

-- what a search came to
abbrev pub place_or : ℕ → Option ℕ → ℕ
place_or none None = none
place_or none (Some at) = at

pub first_place : (byte : ℕ) (bytes : List ℕ) (found : Option ℕ) → IsFirstByte (is_byte byte) bytes found → place_or (length bytes) found ≡ position_or_len (λ b. b == byte) bytes
first_place byte bytes None nowhere =
    sym (position_or_len_is (λ b. b == byte) bytes (length bytes) 0 (omega arith) (λ k below. fails (get_or bytes k 0 == byte) (nowhere k (omega arith) below)) (λ below. absurd (omega arith)))
first_place byte bytes (Some at) found =
    let within : at < length bytes = found.0.high in
    sym (position_or_len_is (λ b. b == byte) bytes at 0 (omega arith) (λ k below. fails (get_or bytes k 0 == byte) (found.0.before k (omega arith) below)) (λ _. found.1))
