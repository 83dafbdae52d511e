-- Which names are hidden, and that none is so twice.
use Rattle.std.proofs.Common.{◌≡◌, ◌∙◌, ℕ, Bool, true, false, cond, not, ◌&&◌, ◌||◌, List, [], ◌∷◌, filter, Some, sym, ap, refl}
use Rattle.std.specs.Prelude.{bytes_eq}
use Rattle.std.specs.List.{AllByRecursion, IsDistinct}
use Rattle.std.specs.Cmp.Lexicographic.{bytes_decides}
use Rattle.std.proofs.lemmas.Map.Views.{any-filter_same}
use Rattle.std.proofs.lemmas.Map.Keys.{IsDistinct-cons}
use Rattle.mk_profile.specs.declared.profile.Profile.{Profile}
use Rattle.mk_lines.specs.Lines.{joined_lines}
use Rattle.mk_recipe.specs.Report.{has, mentioned, first_mentions, hidden_names}

has-filter : (p : List ℕ → Bool) (name : List ℕ) (names : List (List ℕ)) → has name (filter p names) ≡ (p name && has name names)
has-filter p name names = any-filter_same (bytes_eq name) p (p name) (λ k t. ap p (sym ((bytes_decides name k).0 t))) names

or_same : (x y : Bool) → (x || (not x && y)) ≡ (x || y)
or_same true y = refl
or_same false y = refl

and_swapped : (x y : Bool) → (x && y) ≡ (y && x)
and_swapped true true = refl
and_swapped true false = refl
and_swapped false true = refl
and_swapped false false = refl

-- the first mentions are of the same names
has-first_mentions : (name : List ℕ) (names : List (List ℕ)) → has name (first_mentions names) ≡ has name names
has-first_mentions name [] = refl
has-first_mentions name (n ∷ names) =
    ap (λ (b : Bool). bytes_eq name n || b) (has-filter (λ other. not (bytes_eq other n)) name (first_mentions names)
    ∙ ap (λ (b : Bool). not (bytes_eq name n) && b) (has-first_mentions name names))
    ∙ or_same (bytes_eq name n) (has name names)

clash : (b : Bool) → b ≡ true → b ≡ false → ⊥
clash b e f = cc

turned : (a b : List ℕ) (x : Bool) → bytes_eq b a ≡ x → bytes_eq a b ≡ false → bytes_eq b a ≡ false
turned a b true e ne = absurd (clash (bytes_eq a b) ((bytes_decides a b).1 (sym ((bytes_decides b a).0 e))) ne)
turned a b false e ne = e

others_by : (n y : List ℕ) (names : List (List ℕ)) (b : Bool) → bytes_eq y n ≡ b → AllByRecursion (λ other. bytes_eq n other ≡ false) names
    → AllByRecursion (λ other. bytes_eq n other ≡ false) (cond (not b) (y ∷ names) names)
others_by n y names true e h = h
others_by n y names false e h = (turned y n (bytes_eq n y) refl e, h)

-- none of the names that are left is this one
others : (n : List ℕ) (names : List (List ℕ)) → AllByRecursion (λ other. bytes_eq n other ≡ false) (filter (λ other. not (bytes_eq other n)) names)
others n [] = tt
others n (y ∷ names) = others_by n y (filter (λ other. not (bytes_eq other n)) names) (bytes_eq y n) refl (others n names)

kept_by : (p : List ℕ → Bool) (P : List ℕ → Type 0) (y : List ℕ) (names : List (List ℕ)) (b : Bool) → P y → AllByRecursion P names → AllByRecursion P (cond b (y ∷ names) names)
kept_by p P y names true h hs = (h, hs)
kept_by p P y names false h hs = hs

kept : (p : List ℕ → Bool) (P : List ℕ → Type 0) (names : List (List ℕ)) → AllByRecursion P names → AllByRecursion P (filter p names)
kept p P [] h = tt
kept p P (y ∷ names) h = kept_by p P y (filter p names) (p y) h.0 (kept p P names h.1)

once_by : (y : List ℕ) (names : List (List ℕ)) (b : Bool) → AllByRecursion (λ other. bytes_eq y other ≡ false) names → IsDistinct bytes_eq names
    → IsDistinct bytes_eq (cond b (y ∷ names) names)
once_by y names true h d = IsDistinct-cons bytes_eq y names h d
once_by y names false h d = d

once-filter : (p : List ℕ → Bool) (names : List (List ℕ)) → IsDistinct bytes_eq names → IsDistinct bytes_eq (filter p names)
unfolding IsDistinct
once-filter p [] d = tt
once-filter p (y ∷ names) d = once_by y (filter p names) (p y) (kept p (λ other. bytes_eq y other ≡ false) names d.0) (once-filter p names d.1)

once-first_mentions : (names : List (List ℕ)) → IsDistinct bytes_eq (first_mentions names)
unfolding IsDistinct
once-first_mentions [] = tt
once-first_mentions (n ∷ names) =
    (others n (first_mentions names), once-filter (λ other. not (bytes_eq other n)) (first_mentions names) (once-first_mentions names))

pub hidden-each : (profile : Profile) (report target : List ℕ) (known : List (List ℕ)) (name : List ℕ)
    → has name (hidden_names profile report target known) ≡ (has name (mentioned profile target (joined_lines (Some report))) && not (has name (target ∷ known)))
unfolding hidden_names
hidden-each profile report target known name =
    let named = mentioned profile target (joined_lines (Some report)) in
    has-filter (λ n. not (has n (target ∷ known))) name (first_mentions named)
    ∙ ap (λ (b : Bool). not (has name (target ∷ known)) && b) (has-first_mentions name named)
    ∙ and_swapped (not (has name (target ∷ known))) (has name named)

pub hidden-once : (profile : Profile) (report target : List ℕ) (known : List (List ℕ)) → IsDistinct bytes_eq (hidden_names profile report target known)
unfolding hidden_names
hidden-once profile report target known =
    let named = mentioned profile target (joined_lines (Some report)) in
    once-filter (λ n. not (has n (target ∷ known))) (first_mentions named) (once-first_mentions named)
