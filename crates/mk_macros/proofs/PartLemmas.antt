-- The parts of a word at its last slash, in terms of what the word is joined from.
use Rattle.std.proofs.Common.{◌≡◌, ℕ, ◌≤◌, Bool, true, false, not, List, [], ◌∷◌, ◌++◌, length, Some, None, refl, ap, arith, add-one, one-add}
use Rattle.std.specs.List.{prefix_len}
use Rattle.std.proofs.lemmas.List.{take_at}
use Rattle.mk_macros.specs.Words.{place_of, is_byte, last_slash, directory_of, file_of}
use Rattle.mk_macros.proofs.WordLemmas.{position-none}
use Rattle.mk_macros.proofs.PatternLemmas.{drop-behind}

abbrev WithoutSlash : List ℕ → Type 0
WithoutSlash f = length f ≤ prefix_len (λ x. not (is_byte 47 x)) f → last_slash f ≡ None

without_slash_at : (b : ℕ) (f : List ℕ) (t : Bool) → is_byte 47 b ≡ t → WithoutSlash f → WithoutSlash (b ∷ f)
without_slash_at b f true e ih h = let g = simp e at h in absurd (omega arith)
without_slash_at b f false e ih h =
    let g = simp (e, one-add) at h in
    let none : last_slash f ≡ None = ih (omega arith) in
    simp (none, e) refl

without_slash : (f : List ℕ) → WithoutSlash f
without_slash [] h = refl
without_slash (b ∷ f) h = without_slash_at b f (is_byte 47 b) refl (without_slash f) h

last_slash-none : (f : List ℕ) → place_of 47 f ≡ None → last_slash f ≡ None
last_slash-none f none = without_slash f (position-none (is_byte 47) f none)

last_slash-behind : (d f : List ℕ) → last_slash f ≡ None → last_slash (d ++ 47 ∷ f) ≡ Some (length d)
last_slash-behind [] f none = rw none refl
last_slash-behind (b ∷ d) f none = rw (last_slash-behind d f none) (ap Some (add-one (length d)))

pub directory_of-behind : (b : ℕ) (d f : List ℕ) → place_of 47 f ≡ None → directory_of (b ∷ (d ++ 47 ∷ f)) ≡ b ∷ d
directory_of-behind b d f none =
    rw (last_slash-behind (b ∷ d) f (last_slash-none f none)) (ap (λ t. b ∷ t) (take_at d (47 ∷ f) (length d) refl))

pub directory_of-root : (f : List ℕ) → place_of 47 f ≡ None → directory_of (47 ∷ f) ≡ 47 ∷ []
directory_of-root f none = rw (last_slash-behind [] f (last_slash-none f none)) refl

pub file_of-behind : (d f : List ℕ) → place_of 47 f ≡ None → file_of (d ++ 47 ∷ f) ≡ f
file_of-behind d f none = rw (last_slash-behind d f (last_slash-none f none)) (drop-behind d 47 f)

pub no_slash : (w : List ℕ) → place_of 47 w ≡ None → (directory_of w ≡ 46 ∷ []) × (file_of w ≡ w)
no_slash w none = let e = last_slash-none w none in (rw e refl, rw e refl)
