-- A text refers to newer prerequisites where its first piece does, or what is read next.
use Rattle.std.proofs.Common.{◌≡◌, ◌≤◌, ◌∙◌, ◌⊎◌, inl, inr, ℕ, Bool, true, false, List, ◌∷◌, drop, length, refl, sym, ap, subst, arith}
use Rattle.mk_macros.specs.Reference.{Piece, plain, reference, unclosed, nested, nothing, first, front}
use Rattle.mk_macros.specs.Spelled.{SpellsFront, SpellsPiece}
use Rattle.mk_macros.specs.Mention.{names_newer, holds_references, RefersToNewer, in_front, behind, in_brackets}
use Rattle.mk_macros.proofs.SpelledLemmas.{front_said}

piece_is : (p q : Piece) (x y : List ℕ) → first p x ≡ first q y → p ≡ q
piece_is p q x y e = cc

rest_is : (p q : Piece) (x y : List ℕ) → first p x ≡ first q y → x ≡ y
rest_is p q x y e = cc

some_piece : (p : Piece) (x : List ℕ) → nothing ≡ first p x → ⊥
some_piece p x e = cc

pub clash : (b : Bool) → b ≡ true → b ≡ false → ⊥
clash b e f = cc

-- brackets begin with a `$` and the opening one
abbrev pub IsBracketed : List ℕ → Type 0
IsBracketed text = (opening : ℕ) × (inner : List ℕ) × (text ≡ 36 ∷ opening ∷ inner)

bracketed_piece : (wide : Bool) (text : List ℕ) (piece : Piece) (rest : List ℕ) → holds_references piece ≡ true → SpellsPiece wide text piece rest → IsBracketed text
bracketed_piece wide text (plain bytes) rest h spelled = absurd (cc h)
bracketed_piece wide text (reference name use_of) rest h spelled = absurd (cc h)
bracketed_piece wide text unclosed rest h (inl (inner, e, never), end) = (40, inner, e)
bracketed_piece wide text unclosed rest h (inr (inner, e, never), end) = (123, inner, e)
bracketed_piece wide text (nested inner) rest h (inl (e, fits), dollar) = (40, _, e)
bracketed_piece wide text (nested inner) rest h (inr (e, fits), dollar) = (123, _, e)

module _ (wide : Bool) (text rest : List ℕ) (piece : Piece) (at : front wide text ≡ first piece rest) where
  pub bracketed : holds_references piece ≡ true → IsBracketed text
  bracketed h = bracketed_piece wide text piece rest h (subst (SpellsFront wide text) at (front_said wide text))

  pub long_enough : holds_references piece ≡ true → 2 ≤ length text
  long_enough h = let b = bracketed h in let long = ap length b.2 in omega (arith, long)

  -- what stands behind the opening bracket refers to them
  pub enters : wide ≡ true → holds_references piece ≡ true → RefersToNewer wide (drop 2 text) → RefersToNewer wide text
  enters w h refers =
      let b = bracketed h in
      in_brackets piece rest b.0 b.1 w at h b.2 (subst (RefersToNewer wide) (ap (drop 2) b.2) refers)

  same_piece : (p : Piece) (x : List ℕ) → front wide text ≡ first p x → p ≡ piece
  same_piece p x e = piece_is p piece x rest (sym e ∙ at)

  pub entered : names_newer piece ≡ false → wide ≡ true → holds_references piece ≡ true → RefersToNewer wide text → RefersToNewer wide (drop 2 text)
  entered none w h (in_front p x e newer) = absurd (clash (names_newer piece) (subst (λ (q : Piece). names_newer q ≡ true) (same_piece p x e) newer) none)
  entered none w h (behind p x e holds refers) = absurd (clash (holds_references piece) h (subst (λ (q : Piece). holds_references q ≡ false) (same_piece p x e) (holds w)))
  entered none w h (in_brackets p x opening inner v e holds spelled refers) = subst (RefersToNewer wide) (sym (ap (drop 2) spelled)) refers

  -- the first piece is no such reference, and isn't entered
  pub goes_on : names_newer piece ≡ false → (wide ≡ true → holds_references piece ≡ false) → RefersToNewer wide text → RefersToNewer wide rest
  goes_on none whole (in_front p x e newer) = absurd (clash (names_newer piece) (subst (λ (q : Piece). names_newer q ≡ true) (same_piece p x e) newer) none)
  goes_on none whole (behind p x e holds refers) = subst (RefersToNewer wide) (rest_is p piece x rest (sym e ∙ at)) refers
  goes_on none whole (in_brackets p x opening inner w e holds spelled refers) =
      absurd (clash (holds_references piece) (subst (λ (q : Piece). holds_references q ≡ true) (same_piece p x e) holds) (whole w))

-- no text is left
pub none_left : (wide : Bool) (text : List ℕ) → front wide text ≡ nothing → RefersToNewer wide text → ⊥
none_left wide text e (in_front piece rest is newer) = some_piece piece rest (sym e ∙ is)
none_left wide text e (behind piece rest is holds refers) = some_piece piece rest (sym e ∙ is)
none_left wide text e (in_brackets piece rest opening inner w is holds spelled refers) = some_piece piece rest (sym e ∙ is)
