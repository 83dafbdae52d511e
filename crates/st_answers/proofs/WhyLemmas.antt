-- Lines of prerequisites.
use Rattle.std.proofs.Common.{◌≡◌, ◌∙◌, Option, ℕ, List, ◌∷◌, ◌++◌, drop, slice_get, append_assoc, sym, ap}
use Rattle.st_marks.specs.declared.mark.Mark.{Mark}
use Rattle.st_answers.specs.Why.{marked_stale, marked_why, of_row}

-- one more name, with the first of the marks
pub why_moved : (look : List ℕ → Mark) (target text whole : List ℕ) (items rest : List (List ℕ)) (marks left : List Mark) (name : List ℕ) (given : Option Mark)
    → text ++ marked_why look target items marks ≡ whole → items ≡ name ∷ rest → given ≡ slice_get marks 0 → left ≡ drop 1 marks
    → (text ++ of_row target name (marked_stale given (look name))) ++ marked_why look target rest left ≡ whole
why_moved look target text whole items rest marks left name given before next is others =
    append_assoc text (of_row target name (marked_stale given (look name))) (marked_why look target rest left)
    ∙ ap (λ (o : Option Mark). text ++ (of_row target name (marked_stale o (look name)) ++ marked_why look target rest left)) is
    ∙ ap (λ (ms : List Mark). text ++ (of_row target name (marked_stale (slice_get marks 0) (look name)) ++ marked_why look target rest ms)) others
    ∙ ap (λ (xs : List (List ℕ)). text ++ marked_why look target xs marks) (sym next)
    ∙ before
