-- The text of a logical line, told by the line of its group with which a recipe opens.
use Rattle.std.proofs.Common.{◌≡◌, ℕ, Bool, true, false, inl, inr, List, [], ◌∷◌, ◌++◌, flat_map, refl, sym, ap, ◌∙◌, append_assoc, append-nil}
use Rattle.std.proofs.lemmas.Grind.{flat_map-append}
use Rattle.mk_lines.specs.Semicolon.{opens_recipe, OpensRecipe}
use Rattle.mk_lines.specs.Lines.{Physical, opening, joint, joined_text, in_recipe, joined_behind, text_of}
use Rattle.mk_lines.specs.Spelling.{OpensWith, IsJoined, IsTextOf}
use Rattle.mk_lines.proofs.JoinedLemmas.{joined_one_way, joined_plainly}
use Rattle.mk_lines.proofs.SearchLemmas.{stays_open, closed_before}
use Rattle.mk_lines.proofs.OpensLemmas.{opens_said, opens_is}
use Rattle.mk_lines.proofs.ReferenceLemmas.{either}

abbrev plainly : List Physical → List ℕ
plainly lines = flat_map (joint false) lines

plainly_more : (text : List ℕ) (before : List Physical) (line : Physical) → (text ++ plainly before) ++ joint false line ≡ text ++ plainly (before ++ line ∷ [])
plainly_more text before line =
    append_assoc text (plainly before) (joint false line)
    ∙ ap (λ xs. text ++ (plainly before ++ xs)) (sym (append-nil (joint false line)))
    ∙ ap (λ xs. text ++ xs) (sym (flat_map-append (joint false) before (line ∷ [])))

-- where a recipe is open, all lines are its own
always : (text : List ℕ) (rest : List Physical) → opens_recipe text ≡ true → joined_behind false true text rest ≡ text ++ flat_map (joint true) rest
unfolding in_recipe
always text [] e = sym (append-nil text)
always text (line ∷ more) e =
    ap (λ t. joined_behind false true (text ++ joint t line) more) e
    ∙ always (text ++ joint true line) more (stays_open text (joint true line) e)
    ∙ append_assoc text (joint true line) (flat_map (joint true) more)

-- until one is open, none is
through : (text : List ℕ) (before rest : List Physical) → opens_recipe (text ++ plainly before) ≡ false → joined_behind false true text (before ++ rest) ≡ joined_behind false true (text ++ plainly before) rest
unfolding in_recipe
through text [] rest e = ap (λ xs. joined_behind false true xs rest) (sym (append-nil text))
through text (line ∷ more) rest e =
    ap (λ t. joined_behind false true (text ++ joint t line) (more ++ rest)) (closed_before text (plainly (line ∷ more)) e)
    ∙ through (text ++ joint false line) more rest (ap opens_recipe (append_assoc text (joint false line) (plainly more)) ∙ e)
    ∙ ap (λ xs. joined_behind false true xs rest) (append_assoc text (joint false line) (plainly more))

never : (text : List ℕ) (lines : List Physical) → opens_recipe (text ++ plainly lines) ≡ false → joined_behind false true text lines ≡ text ++ plainly lines
never text lines e = ap (λ ls. joined_behind false true text ls) (sym (append-nil lines)) ∙ through text lines [] e

-- from a line on with which one opens
opens_here : (text : List ℕ) (before rest : List Physical) (line : Physical) → opens_recipe (text ++ plainly before) ≡ false → opens_recipe (text ++ plainly (before ++ line ∷ [])) ≡ true
    → joined_behind false true text (before ++ line ∷ rest) ≡ (text ++ plainly (before ++ line ∷ [])) ++ flat_map (joint true) rest
unfolding in_recipe
opens_here text before rest line shut opened =
    through text before (line ∷ rest) shut
    ∙ ap (λ t. joined_behind false true ((text ++ plainly before) ++ joint t line) rest) shut
    ∙ ap (λ xs. joined_behind false true xs rest) (plainly_more text before line)
    ∙ always (text ++ plainly (before ++ line ∷ [])) rest opened

closed : (text : List ℕ) → (OpensRecipe text → ⊥) → opens_recipe text ≡ false
closed text shut = either (opens_recipe text ≡ false) (opens_recipe text) (λ t. absurd (shut (opens_said text t))) (λ f. f)

not_open : (text : List ℕ) → opens_recipe text ≡ false → OpensRecipe text → ⊥
not_open text e opens = absurd (cc (sym e ∙ opens_is text opens))

-- the text is what the relation says
split_text : (before rest : List Physical) (line : Physical) → OpensWith before line → text_of false true (before ++ line ∷ rest) ≡ joined_text false (before ++ line ∷ []) ++ flat_map (joint true) rest
unfolding text_of joined_text
split_text [] rest line (opens, shut) =
    let text = opening false line in
    always text rest (ap opens_recipe (sym (append-nil text)) ∙ opens_is (text ++ []) opens)
    ∙ ap (λ xs. xs ++ flat_map (joint true) rest) (sym (append-nil text))
split_text (first ∷ more) rest line (opens, shut) =
    let text = opening false first in
    opens_here text more rest line (closed (text ++ plainly more) shut) (opens_is (text ++ plainly (more ++ line ∷ [])) opens)

plain_text : (group : List Physical) → opens_recipe (joined_text false group) ≡ false → text_of false true group ≡ joined_text false group
unfolding text_of joined_text
plain_text [] e = refl
plain_text (first ∷ more) e = never (opening false first) more e

strict_text : (group : List Physical) → text_of false false group ≡ joined_text false group
unfolding text_of joined_text
strict_text [] = refl
strict_text (first ∷ more) = joined_plainly (opening false first) more

recipe_text : (wide : Bool) (group : List Physical) → text_of true wide group ≡ joined_text true group
unfolding text_of joined_text in_recipe
recipe_text wide [] = refl
recipe_text wide (first ∷ more) = joined_one_way true wide true (λ t. refl) (opening true first) more

joined_back : (wide : Bool) (group : List Physical) (text : List ℕ) → IsJoined wide group text → text_of false wide group ≡ text
joined_back true group text (inl (before, line, rest, is_wide, e, opens, is)) = ap (λ ls. text_of false true ls) e ∙ split_text before rest line opens ∙ sym is
joined_back true group text (inr (shut, is)) = plain_text group (closed (joined_text false group) (shut refl)) ∙ sym is
joined_back false group text (inl (before, line, rest, is_wide, e, opens, is)) = absurd (cc is_wide)
joined_back false group text (inr (shut, is)) = strict_text group ∙ sym is

pub text_back : (recipe wide : Bool) (group : List Physical) (text : List ℕ) → IsTextOf recipe wide group text → text_of recipe wide group ≡ text
text_back true wide group text is = recipe_text wide group ∙ sym is
text_back false wide group text is = joined_back wide group text is

-- the line with which a recipe opens
abbrev Found : (text : List ℕ) → List Physical → Type 0
Found text lines =
    (before : List Physical) × (line : Physical) × (rest : List Physical) × (lines ≡ before ++ line ∷ rest)
    × (opens_recipe (text ++ plainly before) ≡ false) × (opens_recipe (text ++ plainly (before ++ line ∷ [])) ≡ true)

found_later : (text : List ℕ) (line : Physical) (more : List Physical) → Found (text ++ joint false line) more → Found text (line ∷ more)
found_later text line more (before, last, rest, e, shut, opened) = (
  line ∷ before,
  last,
  rest,
  ap (λ ls. line ∷ ls) e,
  ap opens_recipe (sym (append_assoc text (joint false line) (plainly before))) ∙ shut,
  ap opens_recipe (sym (append_assoc text (joint false line) (plainly (before ++ last ∷ [])))) ∙ opened,
)

found_now : (text : List ℕ) (line : Physical) (more : List Physical) → opens_recipe text ≡ false → opens_recipe (text ++ joint false line) ≡ true → Found text (line ∷ more)
found_now text line more shut opened = (
  [],
  line,
  more,
  refl,
  ap opens_recipe (append-nil text) ∙ shut,
  ap (λ xs. opens_recipe (text ++ xs)) (append-nil (joint false line)) ∙ opened,
)

find_opening : (text : List ℕ) (lines : List Physical) → opens_recipe text ≡ false → opens_recipe (text ++ plainly lines) ≡ true → Found text lines
find_opening text [] shut opened = absurd (cc (sym shut ∙ ap opens_recipe (sym (append-nil text)) ∙ opened))
find_opening text (line ∷ more) shut opened =
    either (Found text (line ∷ more)) (opens_recipe (text ++ joint false line)) (λ t. found_now text line more shut t)
    (λ f. found_later text line more (find_opening (text ++ joint false line) more f (ap opens_recipe (append_assoc text (joint false line) (plainly more)) ∙ opened)))

nothing_opens : opens_recipe [] ≡ false
unfolding opens_recipe
nothing_opens = refl

split_said : (group before rest : List Physical) (line : Physical) → group ≡ before ++ line ∷ rest → OpensWith before line → IsJoined true group (text_of false true group)
split_said group before rest line e opens = inl (before, line, rest, refl, e, opens, ap (λ ls. text_of false true ls) e ∙ split_text before rest line opens)

opened_now : (first : Physical) (more : List Physical) → opens_recipe (opening false first) ≡ true → IsJoined true (first ∷ more) (text_of false true (first ∷ more))
unfolding joined_text
opened_now first more t =
    let text = opening false first in
    split_said (first ∷ more) [] more first refl (opens_said (text ++ []) (ap opens_recipe (append-nil text) ∙ t), not_open [] nothing_opens)

opened_later : (first : Physical) (more : List Physical) → Found (opening false first) more → IsJoined true (first ∷ more) (text_of false true (first ∷ more))
unfolding joined_text
opened_later first more (before, line, rest, at, shut, opened) =
    let text = opening false first in
    split_said (first ∷ more) (first ∷ before) rest line (ap (λ ls. first ∷ ls) at) (opens_said (text ++ plainly (before ++ line ∷ [])) opened, not_open (text ++ plainly before) shut)

opened_said : (group : List Physical) → opens_recipe (joined_text false group) ≡ true → IsJoined true group (text_of false true group)
unfolding joined_text
opened_said [] e = absurd (cc (sym nothing_opens ∙ e))
opened_said (first ∷ more) e =
    either (IsJoined true (first ∷ more) (text_of false true (first ∷ more))) (opens_recipe (opening false first)) (λ t. opened_now first more t)
    (λ f. opened_later first more (find_opening (opening false first) more f e))

none_strictly : (text : List ℕ) → false ≡ true → OpensRecipe text → ⊥
none_strictly text h opens = absurd (cc h)

pub text_said : (recipe wide : Bool) (group : List Physical) → IsTextOf recipe wide group (text_of recipe wide group)
text_said true wide group = recipe_text wide group
text_said false false group = inr (none_strictly (joined_text false group), strict_text group)
text_said false true group =
    either (IsJoined true group (text_of false true group)) (opens_recipe (joined_text false group)) (opened_said group)
    (λ f. inr ((λ w. not_open (joined_text false group) f), plain_text group f))
