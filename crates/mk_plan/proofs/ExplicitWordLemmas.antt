-- The first of two lists of names, or of the first one alone.
use Rattle.std.specs.Prelude.{slice_get, Bool, true, false, if◌then◌else◌}
use Rattle.std.proofs.Common.{◌≡◌, ℕ, List, [], ◌∷◌, ◌++◌, Some, None, refl}
use Rattle.mk_plan.specs.ExplicitWords.{first_of}

pub first_some : (names more : List (List ℕ)) (name : List ℕ) → slice_get names 0 ≡ Some name → first_of (names ++ more) ≡ name
first_some [] more name is = cc
first_some (x ∷ xs) more name is = cc

pub first_none : (names more : List (List ℕ)) → slice_get names 0 ≡ None → first_of (names ++ more) ≡ first_of more
first_none [] more is = refl
first_none (x ∷ xs) more is = cc

-- the first of these, where the other ones count or don't
pub first_chosen : (alone : Bool) (names more : List (List ℕ)) (name : List ℕ) → slice_get names 0 ≡ Some name →
    first_of (if alone then names else names ++ more) ≡ name
first_chosen true [] more name is = cc
first_chosen true (x ∷ xs) more name is = cc
first_chosen false names more name is = first_some names more name is

pub none_alone : (alone : Bool) (names more : List (List ℕ)) → alone ≡ true → slice_get names 0 ≡ None → first_of (if alone then names else names ++ more) ≡ []
none_alone true [] more e is = refl
none_alone true (x ∷ xs) more e is = cc
none_alone false names more e is = cc

pub none_before : (alone : Bool) (names more : List (List ℕ)) → alone ≡ false → slice_get names 0 ≡ None → first_of (if alone then names else names ++ more) ≡ first_of more
none_before true names more e is = cc
none_before false names more e is = first_none names more is
