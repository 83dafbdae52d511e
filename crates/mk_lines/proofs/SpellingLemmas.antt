-- A text is the spellings of its lines, one after the other.
use Rattle.std.proofs.Common.{◌≡◌, ℕ, ◌-◌, Bool, true, false, cond, List, [], ◌∷◌, ◌++◌, length, reverse, flat_map, refl, sym, ap, ◌∙◌, arith, append_assoc, append-nil, Some}
use Rattle.std.proofs.lemmas.Bool.Decides.{Decides-eqb}
use Rattle.std.specs.List.{slice_split, onto_first, join_with_byte}
use Rattle.std.proofs.lemmas.List.{take_at, reverse-append, reverse-reverse, length-append}
use Rattle.std.proofs.lemmas.List.Splits.{join_with_byte-slice_split}
use Rattle.mk_lines.specs.Text.{is_newline, begins_with, ends_with, without_last}
use Rattle.mk_lines.specs.declared.line.Ending.TheVariants.{Newline, ReturnNewline}
use Rattle.mk_lines.specs.Lines.{Physical, spelling, physical_lines, ended_line, goes_on, groups, lines_left}

-- a text that ends in a byte is all but its last, and that byte
pub ends_at : (byte : ℕ) (text front : List ℕ) → reverse text ≡ front → begins_with byte front ≡ true → text ≡ without_last text ++ byte ∷ []
ends_at byte text [] e h = absurd (cc h)
ends_at byte text (b ∷ bs) e h =
    let same : b ≡ byte = (Decides-eqb b byte).0 h in
    let whole : text ≡ reverse bs ++ byte ∷ [] = sym (reverse-reverse text) ∙ ap reverse e ∙ reverse-append (b ∷ []) bs ∙ ap (λ x. reverse bs ++ x ∷ []) same in
    let front : without_last text ≡ reverse bs = ap without_last whole ∙ take_at (reverse bs) (byte ∷ []) (length (reverse bs ++ byte ∷ []) - 1) (omega (arith, length-append (reverse bs) (byte ∷ []))) in
    whole ∙ ap (λ xs. xs ++ byte ∷ []) (sym front)

ending_cases : (text : List ℕ) (returns : Bool) → ends_with 13 text ≡ returns → spelling (cond returns (record { text = without_last text; ending = ReturnNewline }) (record { text = text; ending = Newline })) ≡ text ++ 10 ∷ []
unfolding ends_with
ending_cases text true e = sym (ap (λ xs. xs ++ 10 ∷ []) (ends_at 13 text (reverse text) refl e) ∙ append_assoc (without_last text) (13 ∷ []) (10 ∷ []))
ending_cases text false e = refl

spelling-ended : (text : List ℕ) → spelling (ended_line text) ≡ text ++ 10 ∷ []
unfolding ended_line
spelling-ended text = ending_cases text (ends_with 13 text) refl

pub joined : (pieces : List (List ℕ)) → flat_map spelling (physical_lines pieces) ≡ join_with_byte 10 pieces
joined [] = refl
joined (text ∷ []) = append-nil (text ++ []) ∙ append-nil text
joined (text ∷ next ∷ more) =
    ap (λ xs. xs ++ flat_map spelling (physical_lines (next ∷ more))) (spelling-ended text)
    ∙ append_assoc text (10 ∷ []) (flat_map spelling (physical_lines (next ∷ more)))
    ∙ ap (λ xs. text ++ 10 ∷ xs) (joined (next ∷ more))

grouped-onto : (p : Physical) (gs : List (List Physical)) → flat_map (λ g. g) (onto_first p gs) ≡ p ∷ flat_map (λ g. g) gs
grouped-onto p [] = refl
grouped-onto p (g ∷ gs) = refl

pub grouped : (ps : List Physical) → flat_map (λ g. g) (groups ps) ≡ ps
grouped [] = refl
grouped (p ∷ ps) =
    elim (goes_on p) as (λ b. flat_map (λ g. g) (cond b (onto_first p (groups ps)) ((p ∷ []) ∷ groups ps)) ≡ p ∷ ps) [
      | true ↦ grouped-onto p (groups ps) ∙ ap (λ xs. p ∷ xs) (grouped ps)
      | false ↦ ap (λ xs. p ∷ xs) (grouped ps)
    ]

pub spelled : (text : List ℕ) → flat_map spelling (flat_map (λ group. group) (groups (lines_left (Some text)))) ≡ text
unfolding lines_left
spelled text = ap (flat_map spelling) (grouped (lines_left (Some text))) ∙ joined (slice_split is_newline text) ∙ join_with_byte-slice_split 10 text
