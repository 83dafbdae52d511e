-- Bytes outside references: steps along a text, and one that stands before each dollar.
use Rattle.std.proofs.Common.{◌≡◌, ℕ, zero, suc, ◌+◌, ◌<◌, ◌≤◌, Bool, true, false, cond, ◌&&◌, ◌||◌, ◌==◌, List, ◌∷◌, length, drop, get_or, refl, sym, ap, ◌∙◌, arith, true≢false, Option, Some, None, option_map}
use Rattle.std.proofs.lemmas.List.{drop_more, drop_all}
use Rattle.memchr.specs.Find.{Nowhere, NoneBefore, Passes, is_byte3}
use Rattle.mk_lines.specs.declared.reference.Place.{Place}
use Rattle.mk_lines.specs.declared.reference.Place.TheVariants.{Outside, Dollar}
use Rattle.mk_lines.specs.References.{next_place, is_outside, first_outside}

shifted_more : (at : ℕ) (o : Option ℕ) → option_map (λ i. i + at) (option_map (λ i. i + 1) o) ≡ option_map (λ i. i + (at + 1)) o
shifted_more at None = refl
shifted_more at (Some i) = let e : i + 1 + at ≡ i + (at + 1) = omega arith in ap Some e

-- the byte is one of the two
pub first_outside-here : (one other at b : ℕ) (place : Place) (bs : List ℕ) → at < length bs → b ≡ get_or bs at 0 → (is_outside place && (b == one || b == other)) ≡ true → option_map (λ i. i + at) (first_outside one other place (drop at bs)) ≡ Some at
first_outside-here one other at b place bs h e test =
    ap (λ xs. option_map (λ i. i + at) (first_outside one other place xs)) (drop_more bs at 0 h ∙ ap (λ x. x ∷ drop (at + 1) bs) (sym e))
    ∙ ap (λ t. option_map (λ i. i + at) (cond t (Some 0) (option_map (λ i. i + 1) (first_outside one other (next_place place b) (drop (at + 1) bs))))) test
    ∙ ap Some (omega arith)

-- the byte is none of the two, or stands in a reference
pub first_outside-further : (one other at b : ℕ) (place : Place) (bs : List ℕ) → at < length bs → b ≡ get_or bs at 0 → (is_outside place && (b == one || b == other)) ≡ false → option_map (λ i. i + at) (first_outside one other place (drop at bs)) ≡ option_map (λ i. i + (at + 1)) (first_outside one other (next_place place b) (drop (at + 1) bs))
first_outside-further one other at b place bs h e test =
    ap (λ xs. option_map (λ i. i + at) (first_outside one other place xs)) (drop_more bs at 0 h ∙ ap (λ x. x ∷ drop (at + 1) bs) (sym e))
    ∙ ap (λ t. option_map (λ i. i + at) (cond t (Some 0) (option_map (λ i. i + 1) (first_outside one other (next_place place b) (drop (at + 1) bs))))) test
    ∙ shifted_more at (first_outside one other (next_place place b) (drop (at + 1) bs))

-- at the end of the line there is none
pub first_outside-none : (one other at : ℕ) (place : Place) (bs : List ℕ) → length bs ≤ at → option_map (λ i. i + at) (first_outside one other place (drop at bs)) ≡ None
first_outside-none one other at place bs h = ap (λ xs. option_map (λ i. i + at) (first_outside one other place xs)) (drop_all at bs h)

none_of : (p q r : Bool) → ((p || q || r) ≡ true → ⊥) → ((p || q) ≡ false) × (r ≡ false)
none_of true q r refuted = absurd (refuted refl)
none_of false true r refuted = absurd (refuted refl)
none_of false false true refuted = absurd (refuted refl)
none_of false false false refuted = (refl, refl)

one_of : (p q r : Bool) → (p || q || r) ≡ true → r ≡ false → (p || q) ≡ true
one_of true q r is other = refl
one_of false true r is other = refl
one_of false false r is other = absurd (true≢false (sym is ∙ other))

unmoved : (found : Option ℕ) → option_map (λ i. i + 0) found ≡ found
unmoved None = refl
unmoved (Some i) = let e : i + 0 ≡ i = omega arith in ap Some e

module _ (one other : ℕ) (bs : List ℕ) where
  -- up to a place before which neither the two nor a dollar stand
  reach : (k : ℕ) → k ≤ length bs → Nowhere (Passes (is_byte3 one other 36) bs) 0 k → first_outside one other Outside bs ≡ option_map (λ i. i + k) (first_outside one other Outside (drop k bs))
  unfolding next_place
  reach zero within none = sym (unmoved (first_outside one other Outside bs))
  reach (suc k) within none =
      let b = get_or bs k 0 in
      let fails = none_of (b == one) (b == other) (b == 36) (none k (omega arith) (omega arith)) in
      let next : k + 1 ≡ suc k = omega arith in
      reach k (omega arith) (λ j low high. none j low (omega arith))
      ∙ first_outside-further one other k b Outside bs (omega arith) refl fails.0
      ∙ ap (λ t. option_map (λ i. i + (k + 1)) (first_outside one other (cond t Dollar Outside) (drop (k + 1) bs))) fails.1
      ∙ ap (λ n. option_map (λ i. i + n) (first_outside one other Outside (drop n bs))) next

  pub none_outside : Nowhere (Passes (is_byte3 one other 36) bs) 0 (length bs) → None ≡ first_outside one other Outside bs
  none_outside none =
      let within : length bs ≤ length bs = omega arith in
      sym (reach (length bs) within none ∙ first_outside-none one other (length bs) Outside bs within)

  pub some_outside : (at : ℕ) → NoneBefore (Passes (is_byte3 one other 36) bs) 0 (length bs) at → Passes (is_byte3 one other 36) bs at → (get_or bs at 0 == 36) ≡ false → Some at ≡ first_outside one other Outside bs
  some_outside at none is apart =
      let b = get_or bs at 0 in
      let within : at ≤ length bs = omega (arith, none.high) in
      sym (reach at within none.before ∙ first_outside-here one other at b Outside bs none.high refl (one_of (b == one) (b == other) (b == 36) is apart))
