-- What is left of a text that goes out piece by piece.
use Rattle.std.proofs.Common.{◌≡◌, ◌∙◌, ℕ, List, ◌++◌, ◌-◌, length, take, drop, append_assoc, sym, ap}
use Rattle.std.proofs.lemmas.List.{take-append-drop, take_rest}

-- a part of what was left of a text has gone out
pub front_moved : (all done rest : List ℕ) (n : ℕ) → all ≡ done ++ rest → all ≡ (done ++ take n rest) ++ take (length rest - n) (drop n rest)
front_moved all done rest n e =
    e
    ∙ ap (λ (l : List ℕ). done ++ l) (sym (take-append-drop n rest))
    ∙ sym (append_assoc done (take n rest) (drop n rest))
    ∙ ap (λ (l : List ℕ). (done ++ take n rest) ++ l) (sym (take_rest rest n))
