-- Names that are added behind others: those that are new, each once.
use Rattle.std.proofs.Common.{◌≡◌, ℕ, Bool, true, false, not, ◌&&◌, ◌||◌, cond, List, [], ◌∷◌, ◌++◌, length, take, drop, filter, refl, sym, ap, ◌∙◌, append_assoc, append-nil}
use Rattle.std.specs.Prelude.{bytes_eq}
use Rattle.std.proofs.lemmas.List.Folds.{list_any-append}
use Rattle.std.proofs.Math.Seq.{drop-append_seam, take-append_seam}
use Rattle.mk_names.specs.Names.{has_name, all_added}
use Rattle.mk_rule_lines.specs.Rules.{has}
use Rattle.mk_rule_lines.proofs.NameLemmas.{bytes_eq-same}

-- of these names those that are new behind others, each at its first mention
abbrev pub fresh : (names mentioned : List (List ℕ)) → List (List ℕ)
fresh names [] = []
fresh names (x ∷ xs) = cond (has_name names x) (fresh names xs) (x ∷ fresh (names ++ x ∷ []) xs)

fresh_at : (names : List (List ℕ)) (x : List ℕ) (xs : List (List ℕ)) (b : Bool) → has_name names x ≡ b →
    all_added names xs ≡ names ++ fresh names xs → all_added (names ++ x ∷ []) xs ≡ (names ++ x ∷ []) ++ fresh (names ++ x ∷ []) xs →
    all_added names (x ∷ xs) ≡ names ++ fresh names (x ∷ xs)
fresh_at names x xs true e known new = simp e known
fresh_at names x xs false e known new = simp e (new ∙ append_assoc names (x ∷ []) (fresh (names ++ x ∷ []) xs))

-- names that are added stand behind the others
pub added_fresh : (names mentioned : List (List ℕ)) → all_added names mentioned ≡ names ++ fresh names mentioned
added_fresh names [] = sym (append-nil names)
added_fresh names (x ∷ xs) = fresh_at names x xs (has_name names x) refl (added_fresh names xs) (added_fresh (names ++ x ∷ []) xs)

pub front_added : (names mentioned : List (List ℕ)) → take (length names) (all_added names mentioned) ≡ names
front_added names mentioned = ap (take (length names)) (added_fresh names mentioned) ∙ take-append_seam names (fresh names mentioned)

pub behind_added : (names mentioned : List (List ℕ)) → drop (length names) (all_added names mentioned) ≡ fresh names mentioned
behind_added names mentioned = ap (drop (length names)) (added_fresh names mentioned) ∙ drop-append_seam names (fresh names mentioned)

append_at : (names : List (List ℕ)) (x : List ℕ) (xs ys : List (List ℕ)) (b : Bool) → has_name names x ≡ b →
    fresh names (xs ++ ys) ≡ fresh names xs ++ fresh (all_added names xs) ys →
    fresh (names ++ x ∷ []) (xs ++ ys) ≡ fresh (names ++ x ∷ []) xs ++ fresh (all_added (names ++ x ∷ []) xs) ys →
    fresh names (x ∷ (xs ++ ys)) ≡ fresh names (x ∷ xs) ++ fresh (all_added names (x ∷ xs)) ys
append_at names x xs ys true e known new = simp e known
append_at names x xs ys false e known new = simp e (ap (λ l. x ∷ l) new)

-- of more names those are new that are so behind the others
pub fresh-append : (names xs ys : List (List ℕ)) → fresh names (xs ++ ys) ≡ fresh names xs ++ fresh (all_added names xs) ys
fresh-append names [] ys = refl
fresh-append names (x ∷ xs) ys = append_at names x xs ys (has_name names x) refl (fresh-append names xs ys) (fresh-append (names ++ x ∷ []) xs ys)

has_more : (names : List (List ℕ)) (x q : List ℕ) → has q (names ++ x ∷ []) ≡ (has q names || (bytes_eq q x || false))
has_more names x q = list_any-append (bytes_eq q) names (x ∷ [])

-- ---- which names are new

abbrev IsNew : (names : List (List ℕ)) (q : List ℕ) → List (List ℕ) → Type 0
IsNew names q xs = has q (fresh names xs) ≡ (has q xs && not (has q names))

new_at : (names : List (List ℕ)) (q x : List ℕ) (xs : List (List ℕ)) (b t : Bool) → has_name names x ≡ b → bytes_eq q x ≡ t →
    IsNew names q xs → IsNew (names ++ x ∷ []) q xs → IsNew names q (x ∷ xs)
new_at names q x xs true true e same known new =
    let there : has q names ≡ true = ap (λ n. has n names) (bytes_eq-same q x same) ∙ e in
    simp (e, same, there) (known ∙ simp there (and_off (has q xs)))
  where
    and_off : (c : Bool) → (c && false) ≡ false
    and_off true = refl
    and_off false = refl
new_at names q x xs true false e same known new = simp (e, same) known
new_at names q x xs false true e same known new =
    let gone : has q names ≡ false = ap (λ n. has n names) (bytes_eq-same q x same) ∙ e in
    simp (e, same, gone) refl
new_at names q x xs false false e same known new =
    let alike : has q (names ++ x ∷ []) ≡ has q names = has_more names x q ∙ simp same (or_off (has q names)) in
    simp (e, same) (new ∙ ap (λ b. has q xs && not b) alike)
  where
    or_off : (c : Bool) → (c || false) ≡ c
    or_off true = refl
    or_off false = refl

-- a name is new where it is mentioned and isn't there
pub has_fresh : (names : List (List ℕ)) (q : List ℕ) (mentioned : List (List ℕ)) → IsNew names q mentioned
has_fresh names q [] = refl
has_fresh names q (x ∷ xs) = new_at names q x xs (has_name names x) (bytes_eq q x) refl refl (has_fresh names q xs) (has_fresh (names ++ x ∷ []) q xs)

filtered_at : (p : List ℕ → Bool) (q x : List ℕ) (xs : List (List ℕ)) (b t : Bool) → p x ≡ b → bytes_eq q x ≡ t → has q (filter p xs) ≡ (has q xs && p q) →
    has q (filter p (x ∷ xs)) ≡ (has q (x ∷ xs) && p q)
filtered_at p q x xs true true e same more = let here : p q ≡ true = ap p (bytes_eq-same q x same) ∙ e in simp (e, same, here) refl
filtered_at p q x xs true false e same more = simp (e, same) more
filtered_at p q x xs false true e same more =
    let here : p q ≡ false = ap p (bytes_eq-same q x same) ∙ e in
    simp (e, same, here) (more ∙ simp here (and_off (has q xs)))
  where
    and_off : (c : Bool) → (c && false) ≡ false
    and_off true = refl
    and_off false = refl
filtered_at p q x xs false false e same more = simp (e, same) more

-- which names are left of those that pass a test
pub has_filtered : (p : List ℕ → Bool) (q : List ℕ) (xs : List (List ℕ)) → has q (filter p xs) ≡ (has q xs && p q)
has_filtered p q [] = refl
has_filtered p q (x ∷ xs) = filtered_at p q x xs (p x) (bytes_eq q x) refl refl (has_filtered p q xs)

-- ---- which new names pass a test

abbrev pub AreAlike : (p : List ℕ → Bool) (judged nodes : List (List ℕ)) → Type 0
AreAlike p judged nodes = (q : List ℕ) → p q ≡ true → has q nodes ≡ has q judged

module _ (p : List ℕ → Bool) where
  both_more : (judged nodes : List (List ℕ)) (x : List ℕ) → AreAlike p judged nodes → AreAlike p (judged ++ x ∷ []) (nodes ++ x ∷ [])
  both_more judged nodes x alike q is = has_more nodes x q ∙ ap (λ b. b || (bytes_eq q x || false)) (alike q is) ∙ sym (has_more judged x q)

  one_more : (judged nodes : List (List ℕ)) (x : List ℕ) → p x ≡ false → AreAlike p judged nodes → AreAlike p (judged ++ x ∷ []) nodes
  one_more judged nodes x gone alike q is = alike q is ∙ by (bytes_eq q x) refl
    where
      by : (t : Bool) → bytes_eq q x ≡ t → has q judged ≡ has q (judged ++ x ∷ [])
      by true same = let other : p q ≡ p x = ap p (bytes_eq-same q x same) in cc
      by false same = sym (has_more judged x q ∙ simp same (or_off (has q judged)))
        where
          or_off : (c : Bool) → (c || false) ≡ c
          or_off true = refl
          or_off false = refl

  passing_at : (judged nodes : List (List ℕ)) (x : List ℕ) (xs : List (List ℕ)) (b t : Bool) → p x ≡ b → has_name judged x ≡ t → AreAlike p judged nodes →
      ((j n : List (List ℕ)) → AreAlike p j n → filter p (fresh j xs) ≡ fresh n (filter p xs)) → filter p (fresh judged (x ∷ xs)) ≡ fresh nodes (filter p (x ∷ xs))
  passing_at judged nodes x xs true true e known alike more =
      let there : has_name nodes x ≡ true = alike x e ∙ known in
      simp (e, known, there) (more judged nodes alike)
  passing_at judged nodes x xs true false e known alike more =
      let there : has_name nodes x ≡ false = alike x e ∙ known in
      simp (e, known, there) (ap (λ l. x ∷ l) (more (judged ++ x ∷ []) (nodes ++ x ∷ []) (both_more judged nodes x alike)))
  passing_at judged nodes x xs false true e known alike more = simp (e, known) (more judged nodes alike)
  passing_at judged nodes x xs false false e known alike more = simp (e, known) (more (judged ++ x ∷ []) nodes (one_more judged nodes x e alike))

  passing : (xs judged nodes : List (List ℕ)) → AreAlike p judged nodes → filter p (fresh judged xs) ≡ fresh nodes (filter p xs)
  passing [] judged nodes alike = refl
  passing (x ∷ xs) judged nodes alike = passing_at judged nodes x xs (p x) (has_name judged x) refl refl alike (λ j n so. passing xs j n so)

  -- of the names that are new, those that pass are the new ones of those that pass
  pub filter_fresh : (names xs : List (List ℕ)) → filter p (fresh names xs) ≡ fresh names (filter p xs)
  filter_fresh names xs = passing xs names names (λ q is. refl)
