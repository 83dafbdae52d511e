-- Lines that are joined as if none were a recipe line.
use Rattle.std.proofs.Common.{◌≡◌, ◌∙◌, ℕ, Bool, false, List, [], ◌∷◌, ◌++◌, map, flat_map, Option, refl, sym, ap, append_assoc, append-nil}
use Rattle.mk_lines.specs.Lines.{Physical, lines_left, groups, rest_of_group, after_group, opening, joint, in_recipe, joined_behind, joined_text, joined_lines}
use Rattle.mk_lines.proofs.LinesLemmas.{groups-cons}

-- where each text is in a recipe, or none is, all lines are joined one way
pub joined_one_way : (recipe wide one : Bool) → ((text : List ℕ) → in_recipe recipe wide text ≡ one) → (text : List ℕ) (lines : List Physical) → joined_behind recipe wide text lines ≡ text ++ flat_map (joint one) lines
joined_one_way recipe wide one same text [] = sym (append-nil text)
joined_one_way recipe wide one same text (line ∷ more) =
    ap (λ t. joined_behind recipe wide (text ++ joint t line) more) (same text)
    ∙ joined_one_way recipe wide one same (text ++ joint one line) more
    ∙ append_assoc text (joint one line) (flat_map (joint one) more)

pub joined_plainly : (text : List ℕ) (lines : List Physical) → joined_behind false false text lines ≡ text ++ flat_map (joint false) lines
unfolding in_recipe
joined_plainly text lines = joined_one_way false false false (λ t. refl) text lines

-- the first of them, and those behind it
pub joined_lines-cons : (left after : Option (List ℕ)) (p : Physical) (ps : List Physical) (text : List ℕ) → lines_left left ≡ p ∷ ps → lines_left after ≡ after_group p ps
    → text ≡ opening false p ++ flat_map (joint false) (rest_of_group p ps) → joined_lines left ≡ text ∷ joined_lines after
unfolding joined_lines joined_text
joined_lines-cons left after p ps text here behind e =
    ap (λ ls. map (joined_text false) (groups ls)) here
    ∙ ap (map (joined_text false)) (groups-cons p ps)
    ∙ ap (λ t. t ∷ map (joined_text false) (groups (after_group p ps))) (sym e)
    ∙ ap (λ ls. text ∷ map (joined_text false) (groups ls)) (sym behind)
