-- The first line of a text, and the lines behind it.
use Rattle.std.proofs.Common.{◌≡◌, ℕ, ◌+◌, ◌<◌, ◌≤◌, min, Bool, true, false, cond, List, [], ◌∷◌, ◌++◌, length, take, drop, refl, sym, ap, ◌∙◌, ◌⊎◌, inl, inr, arith, Option, Some, None, option_copied, Bor}
use Rattle.std.specs.List.{position_or_len, before_first, after_first, slice_split, onto_first}
use Rattle.std.proofs.lemmas.List.{drop_more, length-drop, take_all}
use Rattle.std.proofs.lemmas.List.Splits.{slice_split_first, slice_split_none, length-slice_split}
use Rattle.std.proofs.lemmas.List.Sums.{fails_before_first}
use Rattle.mk_lines.specs.Text.{is_newline, begins_with}
use Rattle.mk_lines.specs.declared.line.Ending.TheVariants.{EndOfText}
use Rattle.mk_lines.specs.Lines.{Physical, physical_lines, ended_line, lines_left, goes_on, groups, rest_of_group, after_group, number_after, numbered, opening, joint, in_recipe, joined_behind, text_of, logical_line, logical_lines}
use Rattle.mk_lines.specs.declared.line.LogicalLine.{LogicalLine}

pub physical_lines-more : (text : List ℕ) (pieces : List (List ℕ)) → 0 < length pieces → physical_lines (text ∷ pieces) ≡ ended_line text ∷ physical_lines pieces
physical_lines-more text [] h = absurd (omega arith)
physical_lines-more text (piece ∷ pieces) h = refl

-- up to the first newline stands a line, and behind it the others
pub lines_left-newline : (bs after : List ℕ) (n x : ℕ) → n ≡ position_or_len is_newline bs → drop n bs ≡ x ∷ after → lines_left (Some bs) ≡ ended_line (take n bs) ∷ lines_left (Some after)
unfolding lines_left
lines_left-newline bs after n x e at =
    let within : n < length bs = omega (arith, ap length at, length-drop n bs) in
    let found : position_or_len is_newline bs < length bs = omega (arith, e) in
    let rest : after ≡ drop (n + 1) bs = cc (at, drop_more bs n 0 within) in
    let pieces = slice_split_first is_newline bs 0 found in
    let first : before_first is_newline bs ≡ take n bs = ap (λ (k : ℕ). take k bs) (sym e) in
    let others : after_first is_newline bs ≡ after = ap (λ (k : ℕ). drop (k + 1) bs) (sym e) ∙ sym rest in
    ap physical_lines pieces
    ∙ physical_lines-more (before_first is_newline bs) (slice_split is_newline (after_first is_newline bs)) (omega (arith, length-slice_split is_newline (after_first is_newline bs)))
    ∙ ap (λ (t : List ℕ). ended_line t ∷ physical_lines (slice_split is_newline (after_first is_newline bs))) first
    ∙ ap (λ (t : List ℕ). ended_line (take n bs) ∷ physical_lines (slice_split is_newline t)) others

-- without a newline all is one line
pub lines_left-end : (bs : List ℕ) (n : ℕ) → n ≡ position_or_len is_newline bs → length (drop n bs) ≡ 0 → lines_left (Some bs) ≡ record { text = take n bs; ending = EndOfText } ∷ []
unfolding lines_left
lines_left-end bs n e at =
    let past : length bs ≤ n = omega (arith, at, length-drop n bs) in
    let one = slice_split_none is_newline bs (λ k d h. fails_before_first is_newline bs k d (omega (arith, e))) in
    ap physical_lines one ∙ ap (λ (t : List ℕ). (let line : Physical = record { text = t; ending = EndOfText } in line) ∷ []) (sym (take_all n bs past))

-- the first group, and the groups behind it
pub groups-cons : (p : Physical) (ps : List Physical) → groups (p ∷ ps) ≡ (p ∷ rest_of_group p ps) ∷ groups (after_group p ps)
groups-cons p [] = elim (goes_on p) as (λ b. cond b (onto_first p []) ((p ∷ []) ∷ []) ≡ (p ∷ []) ∷ []) [ true ↦ refl | false ↦ refl ]
groups-cons p (q ∷ qs) =
    elim (goes_on p) as (λ b. cond b (onto_first p (groups (q ∷ qs))) ((p ∷ []) ∷ groups (q ∷ qs)) ≡ (p ∷ cond b (q ∷ rest_of_group q qs) []) ∷ groups (cond b (after_group q qs) (q ∷ qs))) [
      | true ↦ ap (onto_first p) (groups-cons q qs)
      | false ↦ refl
    ]

rest_of_group-more : (p q : Physical) (qs : List Physical) → goes_on p ≡ true → rest_of_group p (q ∷ qs) ≡ q ∷ rest_of_group q qs
rest_of_group-more p q qs e = ap (λ b. cond b (q ∷ rest_of_group q qs) []) e

after_group-more : (p q : Physical) (qs : List Physical) → goes_on p ≡ true → after_group p (q ∷ qs) ≡ after_group q qs
after_group-more p q qs e = ap (λ b. cond b (after_group q qs) (q ∷ qs)) e

-- a group ends at a line that doesn't go on, or at the end of the text
pub group_ends : (p : Physical) (ps : List Physical) → (goes_on p ≡ false) ⊎ (ps ≡ []) → (rest_of_group p ps ≡ []) × (after_group p ps ≡ ps)
group_ends p [] h = (refl, refl)
group_ends p (q ∷ qs) (inl e) = (ap (λ b. cond b (q ∷ rest_of_group q qs) []) e, ap (λ b. cond b (after_group q qs) (q ∷ qs)) e)
group_ends p (q ∷ qs) (inr e) = absurd (cc e)

-- one more line of a group
pub joined_more : (recipe wide : Bool) (p q : Physical) (ps qs : List Physical) (old new : List ℕ) → goes_on p ≡ true → ps ≡ q ∷ qs → new ≡ old ++ joint (in_recipe recipe wide old) q
    → joined_behind recipe wide new (rest_of_group q qs) ≡ joined_behind recipe wide old (rest_of_group p ps)
joined_more recipe wide p q ps qs old new e at more =
    ap (λ (xs : List ℕ). joined_behind recipe wide xs (rest_of_group q qs)) more
    ∙ ap (λ (xs : List Physical). joined_behind recipe wide old xs) (sym (ap (rest_of_group p) at ∙ rest_of_group-more p q qs e))

pub after_more : (p q : Physical) (ps qs : List Physical) → goes_on p ≡ true → ps ≡ q ∷ qs → after_group q qs ≡ after_group p ps
after_more p q ps qs e at = sym (ap (after_group p) at ∙ after_group-more p q qs e)

pub length_more : (p q : Physical) (ps qs : List Physical) → goes_on p ≡ true → ps ≡ q ∷ qs → length (rest_of_group p ps) ≡ length (rest_of_group q qs) + 1
length_more p q ps qs e at = ap length (ap (rest_of_group p) at ∙ rest_of_group-more p q qs e) ∙ omega arith

pub number_after-more : (number lines : ℕ) → number_after (min (number + 1) 18446744073709551615) lines ≡ number_after number (lines + 1)
unfolding number_after
number_after-more number lines = omega arith

pub number_after-none : (number : ℕ) → number < 18446744073709551616 → number_after number 0 ≡ number
unfolding number_after
number_after-none number h = omega arith

pub nothing_left : (left : Option (Bor (List ℕ))) → left ≡ None → lines_left (option_copied left) ≡ []
unfolding lines_left
nothing_left left e = ap (λ o. lines_left (option_copied o)) e

-- a first line and the lines in which it goes on are the first logical line
pub logical_lines-cons : (wide : Bool) (number next : ℕ) (left after : Option (List ℕ)) (p : Physical) (ps : List Physical) → lines_left left ≡ p ∷ ps → lines_left after ≡ after_group p ps → next ≡ number_after number (length (p ∷ rest_of_group p ps)) → logical_lines wide number left ≡ logical_line wide number (p ∷ rest_of_group p ps) ∷ logical_lines wide next after
unfolding logical_lines
logical_lines-cons wide number next left after p ps at behind numbers =
    ap (λ ls. numbered wide number (groups ls)) at
    ∙ ap (numbered wide number) (groups-cons p ps)
    ∙ ap (λ ls. logical_line wide number (p ∷ rest_of_group p ps) ∷ numbered wide (number_after number (length (p ∷ rest_of_group p ps))) (groups ls)) (sym behind)
    ∙ ap (λ n. logical_line wide number (p ∷ rest_of_group p ps) ∷ numbered wide n (groups (lines_left after))) (sym numbers)

-- the value of a logical line, from its parts
pub logical_line-is : (wide : Bool) (number : ℕ) (recipe : Bool) (text : List ℕ) (p : Physical) (ps : List Physical) → recipe ≡ begins_with 9 p.text → text ≡ joined_behind recipe wide (opening recipe p) ps
    → logical_line wide number (p ∷ ps) ≡ record { number = number; is_recipe = recipe; text = text }
unfolding logical_line text_of
logical_line-is wide number recipe text p ps kind joined =
    let line : Bool → LogicalLine = λ r. record { number = number; is_recipe = r; text = joined_behind r wide (opening r p) ps } in
    let told : List ℕ → LogicalLine = λ t. record { number = number; is_recipe = recipe; text = t } in
    ap line (sym kind) ∙ ap told (sym joined)

pub no_lines_left : (wide : Bool) (number : ℕ) (left : Option (Bor (List ℕ))) → left ≡ None → logical_lines wide number (option_copied left) ≡ []
unfolding logical_lines
no_lines_left wide number left e = ap (λ ls. numbered wide number (groups ls)) (nothing_left left e)

-- a line that doesn't go on is a logical line
pub text_alone : (recipe wide : Bool) (p : Physical) (ps : List Physical) (text : List ℕ) → goes_on p ≡ false → text ≡ opening recipe p → text ≡ joined_behind recipe wide (opening recipe p) (rest_of_group p ps)
text_alone recipe wide p ps text ends told =
    told ∙ ap (λ (qs : List Physical). joined_behind recipe wide (opening recipe p) qs) (sym (group_ends p ps (inl ends)).0)

pub number_alone : (number next : ℕ) (p : Physical) (ps : List Physical) → goes_on p ≡ false → next ≡ min (number + 1) 18446744073709551615 → next ≡ number_after number (length (p ∷ rest_of_group p ps))
unfolding number_after
number_alone number next p ps ends told = told ∙ ap (λ (qs : List Physical). number_after number (length (p ∷ qs))) (sym (group_ends p ps (inl ends)).0)

pub left_alone : (p : Physical) (ps : List Physical) → goes_on p ≡ false → ps ≡ after_group p ps
left_alone p ps ends = sym (group_ends p ps (inl ends)).1
