-- The bytes of a side after a write.
use Rattle.std.specs.Prelude.{◌≡◌, ℕ, ◌+◌, ◌-◌, ◌<◌, ◌≤◌, max, List, ◌++◌, length, take, drop, get_or, slice_index}
use Rattle.std.proofs.Common.{◌∙◌, ap, arith, length-append, length-take, length-drop}
use Rattle.std.proofs.lemmas.List.{get_or-take, get_or-drop, get_or_append_left, get_or-append_right}
use Rattle.st_disk.specs.Crash.{overwritten}

module _ (old : List ℕ) (at : ℕ) (bytes : List ℕ) (within : at ≤ length old) where
  front : length (take at old ++ bytes) ≡ at + length bytes
  front = omega (arith, length-append (take at old) bytes, length-take at old, within)

  pub length-overwritten : length (overwritten old at bytes) ≡ max (length old) (at + length bytes)
  length-overwritten =
      omega (arith, front, length-append (take at old ++ bytes) (drop (at + length bytes) old), length-drop (at + length bytes) old)

  -- before the write, in it and behind it
  pub overwritten_before : (place : ℕ) → place < at → slice_index (overwritten old at bytes) place ≡ slice_index old place
  overwritten_before place before =
      get_or_append_left (take at old ++ bytes) (drop (at + length bytes) old) 0 place (omega (arith, front))
      ∙ get_or_append_left (take at old) bytes 0 place (omega (arith, length-take at old, within))
      ∙ get_or-take at old place 0 before

  pub overwritten_in : (place : ℕ) → place < length bytes → slice_index (overwritten old at bytes) (at + place) ≡ slice_index bytes place
  overwritten_in place below =
      get_or_append_left (take at old ++ bytes) (drop (at + length bytes) old) 0 (at + place) (omega (arith, front))
      ∙ get_or-append_right (take at old) bytes at (at + place) 0 (omega (arith, length-take at old, within)) (omega arith)
      ∙ (let e : at + place - at ≡ place = omega arith in ap (λ (k : ℕ). get_or bytes k 0) e)

  pub overwritten_behind : (place : ℕ) → at + length bytes ≤ place → slice_index (overwritten old at bytes) place ≡ slice_index old place
  overwritten_behind place behind =
      get_or-append_right (take at old ++ bytes) (drop (at + length bytes) old) (at + length bytes) place 0 front behind
      ∙ get_or-drop (at + length bytes) old (place - (at + length bytes)) 0
      ∙ (let e : at + length bytes + (place - (at + length bytes)) ≡ place = omega (arith, behind) in ap (λ (k : ℕ). get_or old k 0) e)
