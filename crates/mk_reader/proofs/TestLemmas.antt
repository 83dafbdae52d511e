-- Tests, and what a line is told as by one.
use Rattle.std.proofs.Common.{◌≡◌, ℕ, Bool, true, false, cond, not, List, [], ◌∷◌, drop, refl, ap, Result}
use Rattle.std.proofs.lemmas.Bool.Decides.{Decides-eqb}
use Rattle.mk_lines.specs.Text.{is_empty, begins_with}
use Rattle.mk_reader.specs.declared.fault.Refusal.{Refusal}
use Rattle.mk_reader.specs.declared.form.Form.{Form}

abbrev pub Told : Type 0
Told = Result Form Refusal

pub by_test : (P : Told → Type 0) (t : Bool) (x y : Told) → (t ≡ true → P x) → (t ≡ false → P y) → P (cond t x y)
by_test P true x y h g = h refl
by_test P false x y h g = g refl

pub empty_is : (xs : List ℕ) → is_empty xs ≡ true → xs ≡ []
empty_is [] h = refl
empty_is (b ∷ bs) h = absurd (cc h)

pub cut_first : (byte : ℕ) (text : List ℕ) → begins_with byte text ≡ true → text ≡ byte ∷ drop 1 text
cut_first byte [] h = absurd (cc h)
cut_first byte (b ∷ bs) h = ap (λ c. c ∷ bs) ((Decides-eqb b byte).0 h)

pub not_false : (t : Bool) → not t ≡ false → t ≡ true
not_false true h = refl
not_false false h = absurd (cc h)
