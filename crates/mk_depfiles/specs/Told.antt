-- What a depfile names, as a relation over how its lines are written.
use Rattle.std.specs.Prelude.{◌≡◌, ℕ, ◌+◌, Bool, true, false, List, [], ◌∷◌, take, Option, Some, None, Result, Ok, Err}
use Rattle.std.specs.List.{position}
use Rattle.mk_depfiles.specs.Lines.{begins_with, without_returns, lines, newlines}
use Rattle.mk_depfiles.specs.Rule.{named_in, is_comment}
use Rattle.mk_depfiles.specs.Written.{Writes}
use Rattle.mk_depfiles.specs.Depfile.{refusal, Found, then_found, is_nul, without_newline, is_unfinished, each_once}
use Rattle.mk_depfiles.specs.declared.refusal.Cause.{Cause}
use Rattle.mk_depfiles.specs.declared.refusal.Cause.TheVariants.{Nul, Unfinished, RecipeLine}

-- what a line names: one that begins with a TAB is refused, a comment names nothing, another what its words are
abbrev pub SaysBy : (is_recipe is_comment : Bool) → (line : List ℕ) → Result (List (List ℕ)) Cause → Type 0
SaysBy true is_comment line told = told ≡ Err RecipeLine
SaysBy false true line told = told ≡ Ok []
SaysBy false false line told = (found : Result (List (List ℕ)) Cause) × Writes line found × (told ≡ named_in found)

abbrev pub Says : (line : List ℕ) → Result (List (List ℕ)) Cause → Type 0
Says line told = SaysBy (begins_with 9 line) (is_comment line) line told

-- what lines name, the first of which has this number
abbrev pub LinesSay : (number : ℕ) → List (List ℕ) → Found → Type 0
LinesSay number [] outcome = outcome ≡ Ok []
LinesSay number (line ∷ more) outcome =
    (told : Result (List (List ℕ)) Cause) × (rest : Found) × Says line told × LinesSay (number + (newlines line + 1)) more rest
    × (outcome ≡ then_found number told rest)

abbrev pub WholeNames : (is_unfinished : Bool) → (text : List ℕ) → Found → Type 0
WholeNames true text outcome = outcome ≡ Err (refusal (newlines (without_newline text) + 1) Unfinished)
WholeNames false text outcome = (found : Found) × LinesSay 1 (lines false text) found × (outcome ≡ each_once found)

abbrev pub NamesBy : (nul : Option ℕ) → (text : List ℕ) → Found → Type 0
NamesBy (Some at) text outcome = outcome ≡ Err (refusal (newlines (take at text) + 1) Nul)
NamesBy None text outcome = WholeNames (is_unfinished text) text outcome

-- what a depfile names, or why it names nothing
abbrev pub Names : (text : List ℕ) → Found → Type 0
Names text outcome = let plain = without_returns text in NamesBy (position is_nul plain) plain outcome
