-- What a crash may leave of a side that was settled before one write.
use Rattle.std.specs.Prelude.{◌≡◌, ℕ, ◌+◌, ◌<◌, ◌≤◌, max, List, [], ◌∷◌, length, take, drop, slice_index}
use Rattle.std.proofs.Common.{inl, inr, sym, ◌∙◌, arith, length-take, length-drop}
use Rattle.std.proofs.lemmas.List.{ext_get_or, get_or-take, get_or-drop}
use Rattle.st_disk.specs.Crash.{IsWritten, IsCrashImage, settled, written_at}

module _ (old : List ℕ) (at n : ℕ) {image : List ℕ} (is : IsCrashImage (written_at at n (settled old)) image) where
  pub torn_no_shorter : length old ≤ length image
  torn_no_shorter = is.no_shorter

  pub torn_no_longer : length image ≤ max (length old) (at + n)
  torn_no_longer = is.no_longer

  -- the bytes before the write and behind it stay
  pub torn_before : (place : ℕ) → place < length old → place < at → slice_index image place ≡ slice_index old place
  torn_before place within before = is.kept place within within (λ written. outside written)
    where
      outside : IsWritten ((at, n) ∷ []) place → ⊥
      outside (inl here) = omega (arith, before, here.0)
      outside (inr none) = none

  pub torn_behind : (place : ℕ) → place < length old → at + n ≤ place → slice_index image place ≡ slice_index old place
  torn_behind place within behind = is.kept place within within (λ written. outside written)
    where
      outside : IsWritten ((at, n) ∷ []) place → ⊥
      outside (inl here) = omega (arith, behind, here.1)
      outside (inr none) = none

  pub torn_front : at ≤ length old → take at image ≡ take at old
  torn_front within = ext_get_or 0 (take at image) (take at old) (omega (arith, length-take at image, length-take at old, within, is.no_shorter))
      (λ place below.
      let before : place < at = omega (arith, below, length-take at image) in
      get_or-take at image place 0 before ∙ torn_before place (omega (arith, before, within)) before ∙ sym (get_or-take at old place 0 before))

  -- a write within the old bytes
  pub torn_length : at + n ≤ length old → length image ≡ length old
  torn_length within = omega (arith, within, is.no_shorter, is.no_longer)

  pub torn_back : at + n ≤ length old → drop (at + n) image ≡ drop (at + n) old
  torn_back within = ext_get_or 0 (drop (at + n) image) (drop (at + n) old) (omega (arith, length-drop (at + n) image, length-drop (at + n) old, torn_length within))
      (λ place below.
      get_or-drop (at + n) image place 0
      ∙ torn_behind (at + n + place) (omega (arith, below, length-drop (at + n) image, torn_length within)) (omega arith)
      ∙ sym (get_or-drop (at + n) old place 0))
