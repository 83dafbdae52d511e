-- Patterns element by element, and paths part by part.
use Rattle.std.proofs.Common.{◌≡◌, ℕ, zero, suc, ◌+◌, ◌-◌, ◌<◌, Bool, true, false, cond, not, List, [], ◌∷◌, ◌++◌, length, take, drop, refl, sym, ap, subst, ◌∙◌, arith, append_assoc}
use Rattle.std.specs.List.{onto_first, position_or_len}
use Rattle.std.proofs.lemmas.List.{take_rest}
use Rattle.std.proofs.lemmas.List.Splits.{slice_split-cons_no, slice_split_first}
use Rattle.mk_wildcards.specs.declared.element.Element.{Element}
use Rattle.mk_wildcards.specs.Pattern.{element, width, elements_behind, elements}
use Rattle.mk_wildcards.specs.Found.{is_slash, parts}

behind_drop : (n : ℕ) (bs : List ℕ) → elements_behind n bs ≡ elements (drop n bs)
behind_drop n [] = at n
  where
    at : (n : ℕ) → elements_behind n [] ≡ elements (drop n [])
    at zero = refl
    at (suc n) = refl
behind_drop zero (b ∷ bs) = refl
behind_drop (suc n) (b ∷ bs) = behind_drop n bs

-- one element more
pub element_more : (found new : List Element) (one : Element) (b : ℕ) (rest behind after pattern : List ℕ) → rest ≡ b ∷ behind → found ++ elements rest ≡ elements pattern →
    one ≡ element b behind → after ≡ drop (width b behind) behind → new ≡ found ++ one ∷ [] → new ++ elements after ≡ elements pattern
element_more found new one b rest behind after pattern at gathered is left e =
    ap (λ es. es ++ elements after) e ∙ append_assoc found (one ∷ []) (elements after)
    ∙ ap (λ x. found ++ x ∷ elements after) is
    ∙ ap (λ bs. found ++ element b behind ∷ elements bs) left
    ∙ ap (λ es. found ++ element b behind ∷ es) (sym (behind_drop (width b behind) behind))
    ∙ ap (λ bs. found ++ elements bs) (sym at) ∙ gathered

-- a path without a slash is its one part
whole_more : (b : ℕ) (bs : List ℕ) → (position_or_len is_slash bs ≡ length bs → parts bs ≡ bs ∷ []) → (t : Bool) → is_slash b ≡ t → position_or_len is_slash (b ∷ bs) ≡ length (b ∷ bs) → parts (b ∷ bs) ≡ (b ∷ bs) ∷ []
whole_more b bs more true t e =
    let none : 0 ≡ length (b ∷ bs) = ap (λ x. cond (not x) (1 + position_or_len is_slash bs) 0) (sym t) ∙ e in absurd (omega (arith, none))
whole_more b bs more false t e =
    let long : 1 + position_or_len is_slash bs ≡ length (b ∷ bs) = ap (λ x. cond (not x) (1 + position_or_len is_slash bs) 0) (sym t) ∙ e in
    slice_split-cons_no is_slash b bs t ∙ ap (onto_first b) (more (omega (arith, long)))

pub part_alone : (path : List ℕ) → position_or_len is_slash path ≡ length path → parts path ≡ path ∷ []
part_alone [] e = refl
part_alone (b ∷ bs) e = whole_more b bs (part_alone bs) (is_slash b) refl e

-- a path is cut at its first slash
pub part_cut : (path : List ℕ) (n : ℕ) → n ≡ position_or_len is_slash path → n < length path →
    parts path ≡ take n path ∷ parts (take (length path - (n + 1)) (drop (n + 1) path))
part_cut path n e within =
    slice_split_first is_slash path 0 (subst (λ m. m < length path) e within)
    ∙ ap (λ m. take m path ∷ parts (drop (m + 1) path)) (sym e)
    ∙ ap (λ bs. take n path ∷ parts bs) (sym (take_rest path (n + 1)))
