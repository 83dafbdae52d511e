-- Texts that are cut at a byte.
use Rattle.std.proofs.Common.{◌≡◌, ℕ, ◌+◌, Bool, true, false, not, ◌||◌, ◌==◌, List, [], ◌∷◌, ◌++◌, length, take, drop, refl, sym, ap, ◌∙◌, arith, append_assoc, length-append, subst, Option, Some, None, slice_index}
use Rattle.std.proofs.lemmas.Bool.Decides.{Decides-eqb}
use Rattle.std.proofs.lemmas.List.{take_at}
use Rattle.std.proofs.Math.Seq.{drop-append_seam, get_or-append_seam}
use Rattle.mk_lines.specs.References.{Whole, Without, first_outside}
use Rattle.mk_lines.specs.declared.reference.Place.TheVariants.{Outside}
use Rattle.mk_lines.proofs.ReferenceLemmas.{either, Said, said}

pub one_of : (c b : ℕ) → (b == c || b == c) ≡ true → b ≡ c
one_of c b h = either _ (b == c) (λ e. (Decides-eqb b c).0 e) (λ e. absurd (cc (ap (λ t. t || t) e, h)))

pub not_true : (t : Bool) → not t ≡ true → t ≡ false
not_true true h = absurd (cc h)
not_true false h = refl

-- a text that is cut at a byte
module _ (text left : List ℕ) (b : ℕ) (right : List ℕ) (n : ℕ) (e : text ≡ left ++ b ∷ right) (long : length left ≡ n) where
  pub cut_left : take n text ≡ left
  cut_left = ap (take n) e ∙ take_at left (b ∷ right) n (omega (arith, long))

  pub cut_right : drop (n + 1) text ≡ right
  cut_right =
      let on : n + 1 ≡ length (left ++ b ∷ []) = omega (arith, long, length-append left (b ∷ [])) in
      ap (drop (n + 1)) (e ∙ sym (append_assoc left (b ∷ []) right)) ∙ ap (λ k. drop k ((left ++ b ∷ []) ++ right)) on ∙ drop-append_seam (left ++ b ∷ []) right

  pub cut_byte : slice_index text n ≡ b
  cut_byte = ap (λ k. slice_index text k) (sym long) ∙ ap (λ xs. slice_index xs (length left)) e ∙ get_or-append_seam left b right 0

-- what stands around the first such byte outside references
module _ (byte : ℕ) (dollar : (36 == byte) ≡ false) (text : List ℕ) where
  apart : (36 == byte || 36 == byte) ≡ false
  apart = ap (λ t. t || (36 == byte)) dollar ∙ dollar

  pub split_none : (o : Option ℕ) → o ≡ first_outside byte byte Outside text → o ≡ None → Without byte byte text
  split_none o is e = subst (λ p. Said byte byte apart p text) (sym is ∙ e) (said byte byte apart text)

  pub split_some : (o : Option ℕ) (n : ℕ) → o ≡ first_outside byte byte Outside text → o ≡ Some n → (text ≡ take n text ++ byte ∷ drop (n + 1) text) × Whole byte byte (take n text)
  split_some o n is e =
      let (left, b, right, cut, whole, found, long) = subst (λ p. Said byte byte apart p text) (sym is ∙ e) (said byte byte apart text) in
      let front : take n text ≡ left = cut_left text left b right n cut long in
      let back : drop (n + 1) text ≡ right = cut_right text left b right n cut long in (
        cut ∙ ap (λ c. left ++ c ∷ right) (one_of byte b found) ∙ ap (λ xs. xs ++ byte ∷ right) (sym front) ∙ ap (λ xs. take n text ++ byte ∷ xs) (sym back),
        subst (λ xs. Whole byte byte xs) (sym front) whole,
      )
