-- What a depfile names: the files that a recipe has read, as its compiler says (GCC manual, "-MD"; own where it is refused).
use Rattle.std.specs.Prelude.{ℕ, ◌+◌, Bool, false, ◌==◌, List, [], ◌∷◌, ◌++◌, map, take, reverse, bytes_eq, Option, Some, None, Result, Ok, Err, if◌then◌else◌}
use Rattle.std.specs.List.{list_any, position}
use Rattle.mk_short_names.specs.Short.{short_name}
use Rattle.mk_depfiles.specs.Lines.{begins_with, without_returns, quotes, lines, newlines}
use Rattle.mk_depfiles.specs.Rule.{without_last, line_names}
use Rattle.mk_depfiles.specs.declared.refusal.Cause.{Cause}
use Rattle.mk_depfiles.specs.declared.refusal.Cause.TheVariants.{Nul, Unfinished}
use Rattle.mk_depfiles.specs.declared.refusal.Refusal.{Refusal}

abbrev pub refusal : (line : ℕ) → Cause → Refusal
refusal line cause = record { line = line; cause = cause }

-- the names behind others, or the first refusal, by the number of the line in which it stands
abbrev pub Found : Type 0
Found = Result (List (List ℕ)) Refusal

abbrev pub joined : List (List ℕ) → Found → Found
joined front (Ok rest) = Ok (front ++ rest)
joined front (Err refused) = Err refused

abbrev pub then_found : (line : ℕ) → Result (List (List ℕ)) Cause → Found → Found
then_found line (Ok names) rest = joined names rest
then_found line (Err cause) rest = Err (refusal line cause)

-- the names of lines, the first of which has this number
abbrev pub names_of_lines : (number : ℕ) → List (List ℕ) → Found
names_of_lines number [] = Ok []
names_of_lines number (line ∷ more) = then_found number (line_names line) (names_of_lines (number + (newlines line + 1)) more)

abbrev pub is_nul : ℕ → Bool
is_nul b = b == 0

-- without a newline at the end
abbrev pub without_newline : List ℕ → List ℕ
without_newline text = if begins_with 10 (reverse text) then without_last text else text

-- the last line goes on, and nothing follows
abbrev pub is_unfinished : List ℕ → Bool
is_unfinished text = quotes false (without_newline text)

-- the name is among these
abbrev pub has : (name : List ℕ) → List (List ℕ) → Bool
has name names = list_any (bytes_eq name) names

-- each name once, in the order in which they are first named, behind those that were seen
abbrev pub first_mentions : (seen names : List (List ℕ)) → List (List ℕ)
first_mentions seen [] = seen
first_mentions seen (name ∷ more) = if has name seen then first_mentions seen more else first_mentions (seen ++ name ∷ []) more

abbrev pub each_once : Found → Found
each_once (Ok names) = Ok (first_mentions [] (map short_name names))
each_once (Err refused) = Err refused

-- what a text without a NUL names
abbrev pub names_in_whole : (text : List ℕ) → Found
names_in_whole text =
    if is_unfinished text then Err (refusal (newlines (without_newline text) + 1) Unfinished) else each_once (names_of_lines 1 (lines false text))

abbrev pub unless_nul : (text : List ℕ) → Option ℕ → Found
unless_nul text None = names_in_whole text
unless_nul text (Some at) = Err (refusal (newlines (take at text) + 1) Nul)

-- what a text without carriage returns before newlines names
abbrev pub names_in : (text : List ℕ) → Found
names_in text = unless_nul text (position is_nul text)

-- what a depfile names: each name once, in the order of their first mention, without a `./` in front
unfoldable pub names_of : (text : List ℕ) → Found
names_of text = names_in (without_returns text)
