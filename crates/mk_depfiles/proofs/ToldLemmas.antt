-- A text has one answer, and an answer: what the code reads.
use Rattle.std.proofs.Common.{◌≡◌, ℕ, ◌+◌, Bool, true, false, cond, List, [], ◌∷◌, Option, Some, None, Result, Ok, Err, refl, sym, ap, ◌∙◌}
use Rattle.std.specs.List.{position}
use Rattle.mk_depfiles.specs.Lines.{begins_with, without_returns, lines, newlines}
use Rattle.mk_depfiles.specs.Words.{words}
use Rattle.mk_depfiles.specs.Rule.{named_in, is_comment, line_names}
use Rattle.mk_depfiles.specs.Depfile.{refusal, Found, then_found, is_nul, without_newline, is_unfinished, each_once, names_of_lines, unless_nul, names_of}
use Rattle.mk_depfiles.specs.Told.{SaysBy, LinesSay, WholeNames, NamesBy, Names}
use Rattle.mk_depfiles.specs.declared.refusal.Cause.{Cause}
use Rattle.mk_depfiles.specs.declared.refusal.Cause.TheVariants.{RecipeLine, Unfinished}
use Rattle.mk_depfiles.proofs.WrittenLemmas.{written_read, words_written}

abbrev by_signs : (t c : Bool) (line : List ℕ) → Result (List (List ℕ)) Cause
by_signs t c line = cond t (Err RecipeLine) (cond c (Ok []) (named_in (words line)))

says_once : (t c : Bool) (line : List ℕ) (told : Result (List (List ℕ)) Cause) → SaysBy t c line told → by_signs t c line ≡ told
says_once true c line told w = sym w
says_once false true line told w = sym w
says_once false false line told w = ap named_in (written_read line w.0 w.1) ∙ sym w.2

says_some : (t c : Bool) (line : List ℕ) → SaysBy t c line (by_signs t c line)
says_some true c line = refl
says_some false true line = refl
says_some false false line = (words line, words_written line, refl)

lines_once : (ls : List (List ℕ)) (number : ℕ) (outcome : Found) → LinesSay number ls outcome → names_of_lines number ls ≡ outcome
lines_once [] number outcome w = sym w
lines_once (line ∷ more) number outcome w =
    ap (λ told. then_found number told (names_of_lines (number + (newlines line + 1)) more)) (says_once (begins_with 9 line) (is_comment line) line w.0 w.2)
    ∙ ap (then_found number w.0) (lines_once more (number + (newlines line + 1)) w.1 w.3)
    ∙ sym w.4

lines_some : (ls : List (List ℕ)) (number : ℕ) → LinesSay number ls (names_of_lines number ls)
lines_some [] number = refl
lines_some (line ∷ more) number =
    (line_names line, names_of_lines (number + (newlines line + 1)) more, says_some (begins_with 9 line) (is_comment line) line, lines_some more (number + (newlines line + 1)), refl)

abbrev by_end : (t : Bool) (text : List ℕ) → Found
by_end t text = cond t (Err (refusal (newlines (without_newline text) + 1) Unfinished)) (each_once (names_of_lines 1 (lines false text)))

whole_once : (t : Bool) (text : List ℕ) (outcome : Found) → WholeNames t text outcome → by_end t text ≡ outcome
whole_once true text outcome w = sym w
whole_once false text outcome w = ap each_once (lines_once (lines false text) 1 w.0 w.1) ∙ sym w.2

whole_some : (t : Bool) (text : List ℕ) → WholeNames t text (by_end t text)
whole_some true text = refl
whole_some false text = (names_of_lines 1 (lines false text), lines_some (lines false text) 1, refl)

once_by : (nul : Option ℕ) (text : List ℕ) (outcome : Found) → NamesBy nul text outcome → unless_nul text nul ≡ outcome
once_by (Some at) text outcome w = sym w
once_by None text outcome w = whole_once (is_unfinished text) text outcome w

some_by : (nul : Option ℕ) (text : List ℕ) → NamesBy nul text (unless_nul text nul)
some_by (Some at) text = refl
some_by None text = whole_some (is_unfinished text) text

pub names_told : (text : List ℕ) (outcome : Found) → Names text outcome → names_of text ≡ outcome
unfolding names_of
names_told text outcome w = once_by (position is_nul (without_returns text)) (without_returns text) outcome w

pub told_names : (text : List ℕ) → Names text (names_of text)
unfolding names_of
told_names text = some_by (position is_nul (without_returns text)) (without_returns text)
