-- The lines of a silent run, one after the other.
use Rattle.std.proofs.Common.{◌≡◌, ◌+◌, ◌<◌, ◌≤◌, ℕ, List, [], ◌∷◌, ◌++◌, length, map, take, drop, set, get_or, append_assoc, sym, ap, ◌∙◌, arith}
use Rattle.std.proofs.lemmas.List.{append-nil, take_all, drop_all, drop_more, take_more_set, drop-set-lt}
use Rattle.mk_recipe.specs.declared.line.Line.{Line}
use Rattle.jb_recipe.specs.Silence.{unprinted}

-- the lines so far, and the others as they are to be
abbrev pub silenced_from : (i : ℕ) → List Line → List Line
silenced_from i lines = take i lines ++ map unprinted (drop i lines)

-- one line more isn't printed
pub silenced_more : (lines : List Line) (i : ℕ) (d : Line) → i < length lines →
    silenced_from (i + 1) (set lines i (unprinted (get_or lines i d))) ≡ silenced_from i lines
silenced_more lines i d within =
    let line : Line = get_or lines i d in
    let later : i < i + 1 = omega arith in
    ap (λ front. front ++ map unprinted (drop (i + 1) (set lines i (unprinted line)))) (take_more_set lines i (unprinted line) within)
    ∙ ap (λ left. (take i lines ++ unprinted line ∷ []) ++ map unprinted left) (drop-set-lt (i + 1) lines i (unprinted line) later)
    ∙ append_assoc (take i lines) (unprinted line ∷ []) (map unprinted (drop (i + 1) lines))
    ∙ ap (λ left. take i lines ++ map unprinted left) (sym (drop_more lines i d within))

-- none is left
pub silenced_all : (lines : List Line) (i : ℕ) → length lines ≤ i → silenced_from i lines ≡ lines
silenced_all lines i past =
    ap (λ front. front ++ map unprinted (drop i lines)) (take_all i lines past)
    ∙ ap (λ left. lines ++ map unprinted left) (drop_all i lines past) ∙ append-nil lines
