-- A line up to its colon, word by word.
use Rattle.std.proofs.Common.{◌≡◌, ℕ, zero, suc, ◌<◌, ◌≤◌, Bool, List, [], length, refl, sym, subst, Some, None, arith}
use Rattle.mk_functions.specs.Variables.{Variables}
use Rattle.mk_functions.specs.Values.{Answers}
use Rattle.mk_target_lines.specs.Parts.{Parted, ended, goes_on, stops, AtWord, Parts}
use Rattle.mk_target_lines.specs.Words.{next_word}

module _ (w : Answers) (variables : Variables) (has_recipe : Bool) (text : List ℕ) where
  -- what the whole line comes to is what is left of it comes to, behind these names
  abbrev pub IsLeft : (names rest : List ℕ) → Type 0
  IsLeft names rest =
      (size : ℕ) × (length rest ≤ size) × ((parted : Parted) → Parts w variables has_recipe size names rest parted → Parts w variables has_recipe (length text) [] text parted)

  pub begins : IsLeft [] text
  begins = (length text, omega arith, λ parted h. h)

  pub ends : (names rest : List ℕ) → IsLeft names rest → next_word rest ≡ None → Parts w variables has_recipe (length text) [] text (ended names)
  ends names rest (zero, within, leads) is = leads (ended names) refl
  ends names rest (suc size, within, leads) is =
      leads (ended names) (stops (ended names), subst (λ f. AtWord w variables has_recipe names f (stops (ended names))) (sym is) refl, refl)

  pub stopped : (names rest : List ℕ) (found : List ℕ × List ℕ) (it : Parted) → IsLeft names rest → next_word rest ≡ Some found → length found.1 < length rest →
      AtWord w variables has_recipe names (Some found) (stops it) → Parts w variables has_recipe (length text) [] text it
  stopped names rest found it (zero, within, leads) is less at = absurd (omega (arith, within, less))
  stopped names rest found it (suc size, within, leads) is less at =
      leads it (stops it, subst (λ f. AtWord w variables has_recipe names f (stops it)) (sym is) at, refl)

  pub next : (names rest : List ℕ) (found : List ℕ × List ℕ) (now : List ℕ) → IsLeft names rest → next_word rest ≡ Some found → length found.1 < length rest →
      AtWord w variables has_recipe names (Some found) (goes_on now found.1) → IsLeft now found.1
  next names rest found now (zero, within, leads) is less at = absurd (omega (arith, within, less))
  next names rest found now (suc size, within, leads) is less at = (
    size,
    omega (arith, within, less),
    λ parted h. leads parted (goes_on now found.1, subst (λ f. AtWord w variables has_recipe names f (goes_on now found.1)) (sym is) at, h),
  )
