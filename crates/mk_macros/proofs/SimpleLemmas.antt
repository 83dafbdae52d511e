-- The pieces of a text that are expanded without a macro's value being made.
use Rattle.std.specs.Borrow.{Bor}
use Rattle.std.specs.Bool.{OnTrue}
use Rattle.std.specs.Prelude.{if◌then◌else◌, IfSome}
use Rattle.std.proofs.Common.{arith, ◌≡◌, ◌∙◌, ◌≤◌, ◌==◌, ◌||◌, ℕ, Bool, true, false, List, [], ◌∷◌, ◌++◌, length, Option, Some, None, option_map, refl, sym, ap, subst}
use Rattle.std.proofs.lemmas.Bool.{or_parts}
use Rattle.mk_macros.specs.Dynamic.{recipe_value, whole_value, part_value, dynamic_value}
use Rattle.mk_macros.specs.Expansion.{gives, limit, is_undefined, is_dynamic, has_value, Expands, ends, goes_on}
use Rattle.mk_macros.specs.Function.{function_in}
use Rattle.mk_macros.specs.Ranks.{Defined, in_force, meaning_from, meaning_of}
use Rattle.mk_macros.specs.Reference.{Piece, reference, whole, nothing, first, front}
use Rattle.mk_macros.specs.Simple.{is_sign, begins_with_sign, AddsThere}
use Rattle.mk_macros.specs.Words.{to_directory, to_file, changed_words}
use Rattle.mk_macros.specs.declared.dynamic.Dynamic.{Dynamic}
use Rattle.mk_macros.specs.declared.dynamic.Dynamic.TheVariants.{RecipeLine}
use Rattle.mk_macros.specs.declared.dynamic.RecipeNames.{RecipeNames}
use Rattle.mk_macros.proofs.PlainLemmas.{HasNoDollar, plain_expands_in}
use Rattle.mk_profile.specs.Profile.{is_wide}

-- ---- names that are no dynamic macros

no_value : (names : RecipeNames) (b : ℕ) → is_sign b ≡ false → whole_value names b ≡ None
no_value names b none =
    let (a, r) = or_parts (b == 64) _ none in
    let (c, s) = or_parts (b == 60) _ r in
    let (d, t) = or_parts (b == 42) _ s in
    let (e, u) = or_parts (b == 63) _ t in
    let (f, v) = or_parts (b == 94) _ u in
    let (g, h) = or_parts (b == 43) (b == 124) v in
    simp (a, c, d, e, f, g, h) refl

part_of_none : (directory file : Bool) (value : Option (List ℕ)) → value ≡ None →
    (if directory then option_map (changed_words to_directory) value else (if file then option_map (changed_words to_file) value else None)) ≡ None
part_of_none true file value none = ap (option_map (changed_words to_directory)) none
part_of_none false true value none = ap (option_map (changed_words to_file)) none
part_of_none false false value none = refl

no_part : (names : RecipeNames) (b part : ℕ) → whole_value names b ≡ None → part_value names b part ≡ None
no_part names b part none = part_of_none (part == 68) (part == 70) (whole_value names b) none

no_recipe_value : (names : RecipeNames) (name : List ℕ) → begins_with_sign name ≡ false → recipe_value names name ≡ None
no_recipe_value names [] none = refl
no_recipe_value names (b ∷ []) none = no_value names b none
no_recipe_value names (b ∷ part ∷ []) none = no_part names b part (no_value names b none)
no_recipe_value names (b ∷ part ∷ c ∷ bs) none = refl

-- in a recipe line they have no value
pub no_dynamic : (line : Dynamic) (names : RecipeNames) (name : List ℕ) → line ≡ RecipeLine names → begins_with_sign name ≡ false → dynamic_value line name ≡ None
no_dynamic line names name is none = ap (λ l. dynamic_value l name) is ∙ no_recipe_value names name none

-- ---- what a reference adds

module _ (given : Defined) (line : Dynamic) where
  -- a macro that isn't defined and spells no function; one whose text has no reference
  pub undefined_adds : (name : List ℕ) → dynamic_value line name ≡ None → in_force (given.ranks name) ≡ None →
      function_in (is_wide given.language) name ≡ None → AddsThere given line (reference name whole) []
  undefined_adds name none is no_function =
      is_undefined (ap (λ value. meaning_from value (in_force (given.ranks name))) none ∙ ap (meaning_from None) is) no_function

  pub undefined_value_adds : (name : List ℕ) (found : Option (Bor (List ℕ))) → dynamic_value line name ≡ None → in_force (given.ranks name) ≡ None →
      IfSome found (λ v. (v.now ≡ []) × (function_in (is_wide given.language) name ≡ None)) →
      IfSome found (λ v. AddsThere given line (reference name whole) v.now)
  undefined_value_adds name None none is said = tt
  undefined_value_adds name (Some v) none is (empty, no_function) =
      subst (AddsThere given line (reference name whole)) (sym empty) (undefined_adds name none is no_function)

  pub defined_adds : (name text : List ℕ) → dynamic_value line name ≡ None → in_force (given.ranks name) ≡ Some text →
      HasNoDollar text → length text ≤ limit (is_wide given.language) → AddsThere given line (reference name whole) text
  defined_adds name text none is plain_text within =
      has_value text text (ap (λ value. meaning_from value (in_force (given.ranks name))) none ∙ ap (meaning_from None) is) (λ opened. opened)
      (plain_expands_in (is_wide given.language) (meaning_of given.ranks line) text plain_text within (name ∷ []))

  -- a dynamic macro
  pub dynamic_adds : (names : RecipeNames) (name : List ℕ) (found : Option (Bor (List ℕ))) → line ≡ RecipeLine names →
      IfSome found (λ v. (recipe_value names name ≡ Some v.now) × (length v.now ≤ limit (is_wide given.language))) →
      IfSome found (λ v. AddsThere given line (reference name whole) v.now)
  dynamic_adds names name None is value = tt
  dynamic_adds names name (Some v) is (value, within) =
      is_dynamic v.now (ap (λ found. meaning_from found (in_force (given.ranks name))) (ap (λ l. dynamic_value l name) is ∙ value)) within

  -- ---- piece after piece

  -- what the rest comes to behind what was made the whole text comes to
  pub record SoFar (text made rest : List ℕ) : Type 0 where
    pub within : length made ≤ limit (is_wide given.language)
    pub expands : (bytes : List ℕ) → Expands (is_wide given.language) (meaning_of given.ranks line) [] made rest (gives bytes) →
        Expands (is_wide given.language) (meaning_of given.ranks line) [] [] text (gives bytes)

  pub one_more : (text made rest after added new : List ℕ) (piece : Piece) → first piece after ≡ front (is_wide given.language) rest →
      AddsThere given line piece added → new ≡ made ++ added → length new ≤ limit (is_wide given.language) → SoFar text made rest → SoFar text new after
  one_more text made rest after added new piece at adds is within before = record {
    within = within;
    expands = λ bytes behind.
        before.expands bytes
        (goes_on piece after added (sym at) adds (subst (λ m. length m ≤ limit (is_wide given.language)) is within)
        (subst (λ m. Expands (is_wide given.language) (meaning_of given.ranks line) [] m after (gives bytes)) is behind));
  }

  pub no_more : (text made rest : List ℕ) → nothing ≡ front (is_wide given.language) rest → SoFar text made rest →
      Expands (is_wide given.language) (meaning_of given.ranks line) [] [] text (gives made)
  no_more text made rest none before = before.expands made (ends (sym none))

  pub none_yet : (text made : List ℕ) → made ≡ [] → SoFar text made text
  none_yet text made is = subst (λ m. SoFar text m text) (sym is) (record { within = omega arith; expands = λ bytes all. all })

-- what holds if a test comes out true
pub held : {P : Type 0} (b : Bool) → b ≡ true → OnTrue b P → P
held true e p = p
held false e p = absurd cc
