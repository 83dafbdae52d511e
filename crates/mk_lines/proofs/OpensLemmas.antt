-- Rule lines whose recipe begins behind a `;`: what the code looks for is what the grammar says.
use Rattle.std.proofs.Common.{◌≡◌, ℕ, ◌+◌, Bool, true, false, not, ◌&&◌, ◌==◌, List, ◌∷◌, ◌++◌, length, take, drop, refl, sym, ap, ◌∙◌, Option, Some, None, slice_index}
use Rattle.std.proofs.lemmas.Bool.Decides.{Decides-eqb}
use Rattle.std.specs.List.{list_any}
use Rattle.mk_lines.specs.Text.{is_hash}
use Rattle.mk_lines.specs.Semicolon.{ends_definition, OpensBehind, OpensAsSeen, OpensRecipe, recipe_behind, opens_at, opens_recipe}
use Rattle.mk_lines.specs.References.{first_outside}
use Rattle.mk_lines.specs.Quoted.{without_quoted}
use Rattle.mk_lines.specs.declared.reference.Place.TheVariants.{Outside}
use Rattle.mk_lines.proofs.ReferenceLemmas.{Said, said, cut_found, and_true}
use Rattle.mk_lines.proofs.CutLemmas.{one_of, not_true, cut_left, cut_right, cut_byte}

abbrev has_hash : List ℕ → Bool
has_hash text = list_any is_hash text

behind_of : (right : List ℕ) (o : Option ℕ) → Said 59 59 refl o right → recipe_behind right o ≡ true → OpensBehind right
behind_of right None s h = absurd (cc h)
behind_of right (Some n) (before, b, recipe, e, whole, is_one, long) h = (
  before,
  recipe,
  e ∙ ap (λ c. before ++ c ∷ recipe) (one_of 59 b is_one),
  whole,
  ap has_hash (sym (cut_left right before b recipe n e long)) ∙ not_true (has_hash (take n right)) h,
)

behind_is : (right : List ℕ) → OpensBehind right → recipe_behind right (first_outside 59 59 Outside right) ≡ true
behind_is right (before, recipe, e, whole, none) =
    ap (recipe_behind right) (cut_found 59 59 refl right before 59 recipe e whole refl)
    ∙ ap (λ xs. not (has_hash xs)) (cut_left right before 59 recipe (length before) e refl) ∙ ap not none

opens_of : (text : List ℕ) (o : Option ℕ) → Said 61 58 refl o text → opens_at text o ≡ true → OpensAsSeen text
opens_of text None s h = absurd (cc h)
opens_of text (Some n) (left, b, right, e, whole, is_one, long) h =
    let front : take n text ≡ left = cut_left text left b right n e long in
    let back : drop (n + 1) text ≡ right = cut_right text left b right n e long in
    let r = drop (n + 1) text in
    let behind = recipe_behind r (first_outside 59 59 Outside r) in
    let one = and_true (slice_index text n == 58) (not (ends_definition r) && (not (has_hash (take n text)) && behind)) h in
    let two = and_true (not (ends_definition r)) (not (has_hash (take n text)) && behind) one.1 in
    let three = and_true (not (has_hash (take n text))) behind two.1 in
    let colon : b ≡ 58 = sym (cut_byte text left b right n e long) ∙ (Decides-eqb (slice_index text n) 58).0 one.0 in
    let rest : recipe_behind right (first_outside 59 59 Outside right) ≡ true = ap (λ xs. recipe_behind xs (first_outside 59 59 Outside xs)) (sym back) ∙ three.1 in (
      left,
      right,
      (e ∙ ap (λ c. left ++ c ∷ right) colon, whole),
      ap ends_definition (sym back) ∙ not_true (ends_definition r) two.0,
      behind_of right (first_outside 59 59 Outside right) (said 59 59 refl right) rest,
      ap has_hash (sym front) ∙ not_true (has_hash (take n text)) three.0,
    )

pub opens_said : (text : List ℕ) → opens_recipe text ≡ true → OpensRecipe text
unfolding opens_recipe
opens_said text h = let line = without_quoted text in opens_of line (first_outside 61 58 Outside line) (said 61 58 refl line) h

as_seen : (text : List ℕ) → OpensAsSeen text → opens_at text (first_outside 61 58 Outside text) ≡ true
as_seen text (left, right, (e, whole), no_sign, behind, none) =
    let n = length left in
    let r = drop (n + 1) text in
    let back : r ≡ right = cut_right text left 58 right n e refl in
    let rest : recipe_behind r (first_outside 59 59 Outside r) ≡ true = ap (λ xs. recipe_behind xs (first_outside 59 59 Outside xs)) back ∙ behind_is right behind in
    let no_definition : ends_definition r ≡ false = ap ends_definition back ∙ no_sign in
    let no_hash : has_hash (take n text) ≡ false = ap has_hash (cut_left text left 58 right n e refl) ∙ none in
    ap (opens_at text) (cut_found 61 58 refl text left 58 right e whole refl)
    ∙ ap (λ c. c == 58 && (not (ends_definition r) && (not (has_hash (take n text)) && recipe_behind r (first_outside 59 59 Outside r)))) (cut_byte text left 58 right n e refl)
    ∙ ap (λ t. not t && (not (has_hash (take n text)) && recipe_behind r (first_outside 59 59 Outside r))) no_definition
    ∙ ap (λ t. not t && recipe_behind r (first_outside 59 59 Outside r)) no_hash ∙ rest

pub opens_is : (text : List ℕ) → OpensRecipe text → opens_recipe text ≡ true
unfolding opens_recipe
opens_is text opens = as_seen (without_quoted text) opens
