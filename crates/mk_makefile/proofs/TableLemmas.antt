-- What a table of targets has of each name once one more line names a target.
use Rattle.std.proofs.Common.{arith, append-nil, eq-eqb, length-append, length, nat_eq, [], ◌∷◌, ◌++◌, ◌-◌, ◌≡◌, ℕ, Bool, true, false, cond, List, Option, Some, None, refl, sym, ap, subst, ◌∙◌}
use Rattle.std.specs.Prelude.{slice_get, option_to_list, is_some, ◌&&◌}
use Rattle.std.proofs.lemmas.Slice.Eq.{bytes_eq-Decides}
use Rattle.mk_rule_lines.specs.Rules.{has, times}
use Rattle.std.specs.Option.{option_map_or}
use Rattle.std.specs.Str.{bytes_eq}
use Rattle.mk_makefile.specs.Named.{Named}
use Rattle.mk_makefile.specs.Table.{AddsLine, IsSecond, is_last, with_line, with_target}

-- what stands behind a list is its item there
slice_get-end : {A : Type 0} (xs : List A) (x : A) → slice_get (xs ++ x ∷ []) (length xs) ≡ Some x
slice_get-end [] x = refl
slice_get-end (y ∷ ys) x = slice_get-end ys x

-- the number that was put behind is the last one
pub is_last-end : (k : ℕ) (xs : List ℕ) → is_last k (xs ++ k ∷ []) ≡ true
is_last-end k xs =
    let at : length (xs ++ k ∷ []) - 1 ≡ length xs = simp length-append (omega arith) in
    let found : slice_get (xs ++ k ∷ []) (length (xs ++ k ∷ []) - 1) ≡ Some k = ap (slice_get (xs ++ k ∷ [])) at ∙ slice_get-end xs k in
    ap (λ o. option_map_or (λ n. nat_eq n k) o false) found ∙ eq-eqb k k refl

-- a line is taken in once
with_line-twice_at : (k : ℕ) (xs : List ℕ) (b : Bool) → is_last k xs ≡ b → with_line k (with_line k xs) ≡ with_line k xs
with_line-twice_at k xs true e =
    let here : with_line k xs ≡ xs = simp e refl in ap (with_line k) here
with_line-twice_at k xs false e =
    let here : with_line k xs ≡ xs ++ k ∷ [] = simp e refl in
    let there : with_line k (xs ++ k ∷ []) ≡ xs ++ k ∷ [] = simp (is_last-end k xs) refl in
    ap (with_line k) here ∙ there ∙ sym here

pub with_line-twice : (k : ℕ) (xs : List ℕ) → with_line k (with_line k xs) ≡ with_line k xs
with_line-twice k xs = with_line-twice_at k xs (is_last k xs) refl

-- what is known of a name where some targets of a line are left
pub record Goes (k : ℕ) (has_recipe : Bool) (left targets : List (List ℕ)) (name : List ℕ) (now old : Named) : Type 0 where
  pub lines_go : cond (has name left) (with_line k now.lines) now.lines ≡ cond (has name targets) (with_line k old.lines) old.lines
  pub recipes_go : option_to_list now.recipe ++ cond has_recipe (times k name left) [] ≡ option_to_list old.recipe ++ cond has_recipe (times k name targets) []

module _ (k : ℕ) (has_recipe : Bool) (t : List ℕ) (left targets : List (List ℕ)) (name : List ℕ) (now old : Named) where
  other : bytes_eq name t ≡ false → Goes k has_recipe (t ∷ left) targets name now old → Goes k has_recipe left targets name now old
  other e goes = record {
    lines_go = simp e at goes.lines_go;
    recipes_go = simp e at goes.recipes_go;
  }

  lines_same_at : (b : Bool) → has name left ≡ b → bytes_eq name t ≡ true → Goes k has_recipe (t ∷ left) targets name now old →
      cond (has name left) (with_line k (with_line k now.lines)) (with_line k now.lines) ≡ cond (has name targets) (with_line k old.lines) old.lines
  lines_same_at true h e goes = simp h (with_line-twice k now.lines ∙ simp e at goes.lines_go)
  lines_same_at false h e goes = simp h (simp e at goes.lines_go)

  recipes_at : (r : Bool) (whole : List ℕ) → bytes_eq name t ≡ true → (r ≡ true → now.recipe ≡ None) → option_to_list now.recipe ++ cond r (times k name (t ∷ left)) [] ≡ whole →
      option_to_list (cond r (Some k) now.recipe) ++ cond r (times k name left) [] ≡ whole
  recipes_at true whole e absent h =
      let first : times k name (t ∷ left) ≡ k ∷ times k name left = simp e refl in
      let none : option_to_list now.recipe ++ times k name (t ∷ left) ≡ k ∷ times k name left =
      ap (λ o. option_to_list o ++ times k name (t ∷ left)) (absent refl) ∙ first in
      sym none ∙ h
  recipes_at false whole e absent h = h

  itself_goes : bytes_eq name t ≡ true → (has_recipe ≡ true → now.recipe ≡ None) → Goes k has_recipe (t ∷ left) targets name now old →
      Goes k has_recipe left targets name (with_target k has_recipe now) old
  itself_goes e absent goes = record {
    lines_go = lines_same_at (has name left) refl e goes;
    recipes_go = recipes_at has_recipe _ e absent goes.recipes_go;
  }

  goes_at : (after : Named) → after ≡ cond (bytes_eq name t) (with_target k has_recipe now) now → (bytes_eq name t ≡ true → has_recipe ≡ true → now.recipe ≡ None) →
      Goes k has_recipe (t ∷ left) targets name now old → (b : Bool) → bytes_eq name t ≡ b → Goes k has_recipe left targets name after old
  goes_at after is absent goes true e =
      let here : after ≡ with_target k has_recipe now = is ∙ simp e refl in
      subst (λ m. Goes k has_recipe left targets name m old) (sym here) (itself_goes e (absent e) goes)
  goes_at after is absent goes false e =
      let here : after ≡ now = is ∙ simp e refl in
      subst (λ m. Goes k has_recipe left targets name m old) (sym here) (other e goes)

  -- one target more is taken in
  pub goes_on : (after : Named) → after ≡ cond (bytes_eq name t) (with_target k has_recipe now) now → (bytes_eq name t ≡ true → has_recipe ≡ true → now.recipe ≡ None) →
      Goes k has_recipe (t ∷ left) targets name now old → Goes k has_recipe left targets name after old
  goes_on after is absent goes = goes_at after is absent goes (bytes_eq name t) refl

-- a target that has a recipe, in a line with a recipe
second_at : (k : ℕ) (r : Bool) (recipe : Option ℕ) (t : List ℕ) (left targets : List (List ℕ)) (old : Named) → (r && is_some recipe) ≡ true →
    option_to_list recipe ++ cond r (times k t (t ∷ left)) [] ≡ option_to_list old.recipe ++ cond r (times k t targets) [] → IsSecond k r targets t old
second_at k true (Some first) t left targets old both goes =
    let here : times k t (t ∷ left) ≡ k ∷ times k t left = let same : bytes_eq t t ≡ true = (bytes_eq-Decides t t).1 refl in simp same refl in
    record { has = refl; first = first; more = times k t left; whole = sym goes ∙ ap (λ more. first ∷ more) here }
second_at k true None t left targets old both goes = cc
second_at k false recipe t left targets old both goes = cc

pub second : (k : ℕ) (r : Bool) (t : List ℕ) (left targets : List (List ℕ)) (now old : Named) → (r && is_some now.recipe) ≡ true →
    Goes k r (t ∷ left) targets t now old → IsSecond k r targets t old
second k r t left targets now old both goes = second_at k r now.recipe t left targets old both goes.recipes_go

-- where that is not so, a line with a recipe meets a name without one
pub no_second : (r : Bool) (recipe : Option ℕ) → (r && is_some recipe) ≡ false → r ≡ true → recipe ≡ None
no_second true (Some first) neither has = cc
no_second true None neither has = refl
no_second false recipe neither has = cc

nothing_more : (r : Bool) (xs : List ℕ) → xs ≡ xs ++ cond r [] []
nothing_more true xs = sym (append-nil xs)
nothing_more false xs = sym (append-nil xs)

-- where no target is left, the line is taken in
pub goes_end : (k : ℕ) (r : Bool) (targets : List (List ℕ)) (name : List ℕ) (now old : Named) → Goes k r [] targets name now old → AddsLine k r targets name old now
goes_end k r targets name now old goes = record { lines_are = goes.lines_go; recipe_is = nothing_more r (option_to_list now.recipe) ∙ goes.recipes_go }

-- a line without targets changes nothing
pub adds_nothing : (k : ℕ) (r : Bool) (targets : List (List ℕ)) (name : List ℕ) (old : Named) → targets ≡ [] → AddsLine k r targets name old old
adds_nothing k r targets name old none =
    subst (λ (ts : List (List ℕ)). AddsLine k r ts name old old) (sym none) (record { lines_are = refl; recipe_is = nothing_more r (option_to_list old.recipe) })
