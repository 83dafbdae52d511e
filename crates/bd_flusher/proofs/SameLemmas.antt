-- What `==` says of byte strings and of lists of them.
use Rattle.std.proofs.Common.{◌≡◌, ℕ, nat_eq, List, refl, Decides}
use Rattle.std.proofs.lemmas.Bool.Decides.{Decides-eqb}
use Rattle.std.proofs.lemmas.Slice.Eq.{slice_eq-Decides}
use Rattle.std.specs.Cmp.Lexicographic.{pointwise}

pub same_bytes : (a b : List ℕ) → Decides (pointwise nat_eq a b) (a ≡ b)
same_bytes a b = slice_eq-Decides Decides-eqb a b (pointwise nat_eq a b) refl

pub same_strings : (a b : List (List ℕ)) → Decides (pointwise (pointwise nat_eq) a b) (a ≡ b)
same_strings a b = slice_eq-Decides same_bytes a b (pointwise (pointwise nat_eq) a b) refl
