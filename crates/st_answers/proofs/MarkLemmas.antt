-- Rows of names with their marks.
use Rattle.std.proofs.Common.{◌≡◌, ◌∙◌, Option, ℕ, List, ◌∷◌, ◌++◌, drop, slice_get, append_assoc, sym, ap}
use Rattle.st_marks.specs.declared.mark.Mark.{Mark}
use Rattle.st_answers.specs.Lines.{row}
use Rattle.st_answers.specs.Marks.{mark_below, marked_rows}

-- one more name, with the first of the marks
pub marked_moved : (word text whole : List ℕ) (items rest : List (List ℕ)) (marks left : List Mark) (name : List ℕ) (given : Option Mark) → text ++ marked_rows word items marks ≡ whole
    → items ≡ name ∷ rest → given ≡ slice_get marks 0 → left ≡ drop 1 marks
    → (text ++ (row word name ++ mark_below given)) ++ marked_rows word rest left ≡ whole
marked_moved word text whole items rest marks left name given before next is others =
    append_assoc text (row word name ++ mark_below given) (marked_rows word rest left)
    ∙ ap (λ (o : Option Mark). text ++ ((row word name ++ mark_below o) ++ marked_rows word rest left)) is
    ∙ ap (λ (ms : List Mark). text ++ ((row word name ++ mark_below (slice_get marks 0)) ++ marked_rows word rest ms)) others
    ∙ ap (λ (xs : List (List ℕ)). text ++ marked_rows word xs marks) (sym next)
    ∙ before
