-- Names in a set that is seen as a list.
use Rattle.std.proofs.Common.{◌≡◌, ◌∙◌, ℕ, Bool, true, false, cond, ◌||◌, List, [], ◌∷◌, ◌++◌, map, refl, sym, ap}
use Rattle.std.proofs.lemmas.List.{map-append}
use Rattle.std.specs.Prelude.{bytes_eq}
use Rattle.std.specs.List.{list_any}
use Rattle.std.specs.Cmp.Lexicographic.{bytes_decides}
use Rattle.mk_recipe.specs.Report.{has}
use Rattle.mk_recipe.specs.Reading.{added}
use Rattle.mk_recipe.proofs.ReportLemmas.{has-behind}

-- a test on what stands for the elements
pub list_any-map : {A : Type 0} (f : A → List ℕ) (test : List ℕ → Bool) (xs : List A) → list_any (λ k. test (f k)) xs ≡ list_any test (map f xs)
list_any-map f test [] = refl
list_any-map f test (x ∷ xs) = ap (λ b. test (f x) || b) (list_any-map f test xs)

added_by : {A : Type 0} (f : A → List ℕ) (ks : List A) (k : A) (names : List (List ℕ)) → map f ks ≡ names → (b : Bool)
    → map f (cond b ks (ks ++ k ∷ [])) ≡ cond b names (names ++ f k ∷ [])
added_by f ks k names e true = e
added_by f ks k names e false = map-append f ks (k ∷ []) ∙ ap (λ l. l ++ f k ∷ []) e

-- an element that is added, and the name that it stands for
pub added-map : {A : Type 0} (f : A → List ℕ) (b : Bool) (ks : List A) (k : A) (names : List (List ℕ)) → map f ks ≡ names → b ≡ has (f k) names
    → map f (cond b ks (ks ++ k ∷ [])) ≡ added names (f k)
added-map f b ks k names e h = added_by f ks k names e b ∙ ap (λ c. cond c names (names ++ f k ∷ [])) h

in_it : (x y : Bool) → (y ≡ true → x ≡ true) → x ≡ (x || y)
in_it true y h = refl
in_it false true h = h refl
in_it false false h = refl

has_by : (name other : List ℕ) (names : List (List ℕ)) (b : Bool) → has other names ≡ b → (bytes_eq name other ≡ true → has name names ≡ has other names)
    → has name (cond b names (names ++ other ∷ [])) ≡ (has name names || bytes_eq name other)
has_by name other names true e same = in_it (has name names) (bytes_eq name other) (λ h. same h ∙ e)
has_by name other names false e same = has-behind name other names

-- the names once one is added are those that were there, and that one
has-added : (name other : List ℕ) (names : List (List ℕ)) → has name (added names other) ≡ (has name names || bytes_eq name other)
has-added name other names = has_by name other names (has other names) refl (λ h. ap (λ n. has n names) ((bytes_decides name other).0 h))

or_assoc : (x y z : Bool) → ((x || y) || z) ≡ (x || (y || z))
or_assoc true y z = refl
or_assoc false y z = refl

or_false : (x : Bool) → (x || false) ≡ x
or_false true = refl
or_false false = refl

-- the target alone was added, and the others are left
pub known_start : (target name : List ℕ) (known names none : List (List ℕ)) → none ≡ [] → names ≡ added none target → (has name names || has name known) ≡ has name (target ∷ known)
known_start target name known names none empty e =
    ap (λ l. has name l || has name known) (e ∙ ap (λ l. added l target) empty)
    ∙ ap (λ b. b || has name known) (or_false (bytes_eq name target))

-- one more was added, and is no longer left
pub known_more : (first name : List ℕ) (names names' left left' : List (List ℕ)) (whole : Bool) → names' ≡ added names first → left ≡ first ∷ left'
    → (has name names || has name left) ≡ whole → (has name names' || has name left') ≡ whole
known_more first name names names' left left' whole e l h =
    ap (λ ns. has name ns || has name left') e
    ∙ ap (λ b. b || has name left') (has-added name first names)
    ∙ or_assoc (has name names) (bytes_eq name first) (has name left')
    ∙ ap (λ ns. has name names || has name ns) (sym l)
    ∙ h
