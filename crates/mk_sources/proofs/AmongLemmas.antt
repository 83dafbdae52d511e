-- Which names are in a list.
use Rattle.std.proofs.Common.{◌≡◌, ℕ, Bool, true, false, List, ◌∷◌, refl}
use Rattle.std.specs.Prelude.{◌||◌, bytes_eq}
use Rattle.std.proofs.lemmas.Slice.Eq.{bytes_eq-Decides}
use Rattle.mk_rule_lines.specs.Rules.{has}

pub has_first : (name : List ℕ) (left : List (List ℕ)) → has name (name ∷ left) ≡ true
has_first name left = let same : bytes_eq name name ≡ true = (bytes_eq-Decides name name).1 refl in simp same refl

or_later : (b c : Bool) → c ≡ true → (b || c) ≡ true
or_later true c e = refl
or_later false c e = e

pub has_later : (n name : List ℕ) (left : List (List ℕ)) → has n left ≡ true → has n (name ∷ left) ≡ true
has_later n name left e = or_later (bytes_eq n name) (has n left) e
