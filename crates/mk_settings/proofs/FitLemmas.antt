-- When a target is of a pattern, part by part.
use Rattle.std.specs.Prelude.{Contains}
use Rattle.std.specs.Bool.{Decides}
use Rattle.std.specs.List.{list_any}
use Rattle.std.specs.Option.{option_map_or}
use Rattle.std.proofs.Common.{◌≡◌, ◌≢◌, ◌⊎◌, ◌∙◌, ℕ, ◌-◌, Bool, true, false, not, cond, ◌&&◌, ◌||◌, List, [], ◌∷◌, ◌++◌, filter, length, take, drop, Some, None, refl, sym, ap, arith, bytes_eq}
use Rattle.std.proofs.lemmas.Bool.{both_ways}
use Rattle.std.proofs.lemmas.Bool.Decides.{Decides-and, Decides-or, Decides-not, Decides-like}
use Rattle.std.proofs.lemmas.List.{take_at, drop_at, take-append-drop, length-append}
use Rattle.std.proofs.lemmas.Slice.Eq.{bytes_eq-Decides}
use Rattle.mk_macros.specs.Words.{without_end}
use Rattle.mk_lines.specs.Text.{is_empty}
use Rattle.mk_rule_lines.specs.Patterns.{before_percent, behind_percent}
use Rattle.mk_settings.specs.Marks.{left_aside, held_against, IsOfPattern, is_of_pattern}
use Rattle.mk_rule_lines.specs.Rules.{has_percent}
use Rattle.mk_rule_lines.proofs.KindLemmas.{behind_decides}
use Rattle.mk_rule_lines.proofs.KindLemmas.{byte_decides, empty_decides}

module _ (q : List ℕ → Bool) (Q : List ℕ → Type 0) (each : (stem : List ℕ) → Decides (q stem) (Q stem)) (after : List ℕ) where
  abbrev IsAhead : List ℕ → Type 0
  IsAhead word = (stem : List ℕ) × (word ≡ stem ++ after) × Q stem

  ends_so : (stem : List ℕ) → without_end after (stem ++ after) ≡ Some stem
  ends_so stem =
      let test : bytes_eq after after ≡ true = (bytes_eq-Decides after after).1 refl in
      let n : length stem ≡ length (stem ++ after) - length after = (let l = length-append stem after in omega arith) in
      rw (take_at stem after (length (stem ++ after) - length after) n, drop_at stem after (length (stem ++ after) - length after) n, test) refl

  ahead_at : (word : List ℕ) (b : Bool) → bytes_eq (drop (length word - length after) word) after ≡ b → option_map_or q (without_end after word) false ≡ true → IsAhead word
  ahead_at word true e h =
      let n : ℕ = length word - length after in
      let stem : List ℕ = take n word in
      let found : q stem ≡ true = ap (λ (b : Bool). option_map_or q (cond b (Some stem) None) false) (sym e) ∙ h in
      let tail : drop n word ≡ after = (bytes_eq-Decides (drop n word) after).0 e in
      (stem, sym (take-append-drop n word) ∙ ap (λ t. stem ++ t) tail, (each stem).0 found)
  ahead_at word false e h =
      let stem : List ℕ = take (length word - length after) word in
      let none : false ≡ true = ap (λ (b : Bool). option_map_or q (cond b (Some stem) None) false) (sym e) ∙ h in
      absurd (both_ways false refl none)

  -- what stands before an end passes a test
  ahead_decides : (word : List ℕ) → Decides (option_map_or q (without_end after word) false) (IsAhead word)
  ahead_decides word = (
    ahead_at word (bytes_eq (drop (length word - length after) word) after) refl,
    λ (stem, is, passes).
        ap (λ w. option_map_or q (without_end after w) false) is ∙ ap (λ o. option_map_or q o false) (ends_so stem) ∙ (each stem).1 passes,
  )

module _ (target pattern : List ℕ) where
  abbrev IsStem : List ℕ → Type 0
  IsStem stem = (left_aside pattern target ≢ []) ⊎ (stem ≢ [])

  abbrev is_stem : List ℕ → Bool
  is_stem stem = not (is_empty (left_aside pattern target)) || not (is_empty stem)

  stem_decides : (stem : List ℕ) → Decides (is_stem stem) (IsStem stem)
  stem_decides stem =
      Decides-or (not (is_empty (left_aside pattern target))) (not (is_empty stem))
      (Decides-not (is_empty (left_aside pattern target)) (empty_decides (left_aside pattern target)))
      (Decides-not (is_empty stem) (empty_decides stem))

  abbrev IsRest : List ℕ → Type 0
  IsRest rest = (stem : List ℕ) × (rest ≡ stem ++ behind_percent pattern) × IsStem stem

  abbrev IsHeld : Type 0
  IsHeld = (rest : List ℕ) × (held_against pattern target ≡ before_percent pattern ++ rest) × IsRest rest

  held_decides : Decides (is_of_pattern target pattern) IsHeld
  held_decides =
      behind_decides (λ rest. option_map_or is_stem (without_end (behind_percent pattern) rest) false) IsRest
      (λ rest. ahead_decides is_stem IsStem stem_decides (behind_percent pattern) rest) (before_percent pattern) (held_against pattern target)

  is_of : (percent : Contains pattern 37) → IsHeld → IsOfPattern pattern target
  is_of percent (rest, held, (stem, rest_is, is)) =
      record { percent = percent; stem = stem; target_is = held ∙ ap (λ r. before_percent pattern ++ r) rest_is; something = is }

  is_held : IsOfPattern pattern target → IsHeld
  is_held is = (is.stem ++ behind_percent pattern, is.target_is, (is.stem, refl, is.something))

  pub fits_decides : Decides (has_percent pattern && is_of_pattern target pattern) (IsOfPattern pattern target)
  fits_decides =
      Decides-like (has_percent pattern && is_of_pattern target pattern) (λ h. is_of h.0 h.1) (λ is. (is.percent, is_held is))
      (Decides-and (has_percent pattern) (is_of_pattern target pattern) (byte_decides 37 pattern) held_decides)

-- ---- filters

any_one : {X : Type 0} (p : X → Bool) (x : X) (some : List X) (rest b : Bool) → list_any p some ≡ rest → list_any p (cond b (x ∷ some) some) ≡ ((b && p x) || rest)
any_one p x some rest true e = ap (λ t. p x || t) e
any_one p x some rest false e = e

-- what some element passes of those that were left
pub any_filter : {X : Type 0} (p q : X → Bool) (xs : List X) → list_any p (filter q xs) ≡ list_any (λ x. q x && p x) xs
any_filter p q [] = refl
any_filter p q (x ∷ xs) = any_one p x (filter q xs) (list_any (λ y. q y && p y) xs) (q x) (any_filter p q xs)
