-- Where a text would have a value that GNU make has built in. Own; that GNU make passes over what stands before a line's command is its
-- manual's, "Recipe Echoing", "Errors in Recipes" and "Instead of Executing Recipes", and make(1S)'s.
use Rattle.std.specs.Prelude.{ℕ, Bool, not, ◌||◌, ◌==◌, List, [], ◌∷◌, Option, Some, None, take, drop, if◌then◌else◌}
use Rattle.std.specs.List.{list_any, prefix_len}
use Rattle.byte_strings.specs.Blanks.{is_blank}
use Rattle.mk_notes.specs.Names.{is_command, is_of_run}
use Rattle.mk_notes.specs.References.{is_dollar, closing}

-- the byte says how the line is run that it stands before
abbrev pub is_prefix : ℕ → Bool
is_prefix b = b == 64 || (b == 45 || (b == 63 || (b == 33 || b == 43)))

-- a text without the prefixes and blanks in front
abbrev pub behind_prefixes : List ℕ → List ℕ
behind_prefixes [] = []
behind_prefixes (b ∷ text) = if is_prefix b || is_blank b then behind_prefixes text else b ∷ text

abbrev pub differs : (closing : ℕ) → ℕ → Bool
differs closing b = not (b == closing)

-- the name of a text in brackets: what stands before its first `:`, where a `=` follows, which changes the words of the value; else all of it
abbrev pub unchanged : (text : List ℕ) → List ℕ
unchanged text =
    if list_any (λ b. b == 61) (drop (prefix_len (differs 58) text) text) then take (prefix_len (differs 58) text) text else text

-- a name that is no text to be expanded itself
abbrev pub plain : (text : List ℕ) → Option (List ℕ)
plain text = if list_any is_dollar (unchanged text) then None else Some (unchanged text)

abbrev pub plain_within : (closing : Option ℕ) (inner : List ℕ) → Option (List ℕ)
plain_within None inner = None
plain_within (Some c) inner = if list_any (λ b. b == c) inner then plain (take (prefix_len (differs c) inner) inner) else None

-- the name in the brackets behind a dollar
abbrev pub name_behind : List ℕ → Option (List ℕ)
name_behind [] = None
name_behind (b ∷ inner) = plain_within (closing b) inner

-- the name that a text begins with
abbrev pub first_name : List ℕ → Option (List ℕ)
first_name [] = None
first_name (b ∷ behind) = if is_dollar b then name_behind behind else None

abbrev pub if_so : (is : List ℕ → Bool) → Option (List ℕ) → Option (List ℕ)
if_so is None = None
if_so is (Some name) = if is name then Some name else None

-- the command of GNU make that a line begins with
abbrev pub command_of : (line : List ℕ) → Option (List ℕ)
command_of line = if_so is_command (first_name (behind_prefixes line))

-- what GNU make says of a run that is named behind a dollar
abbrev pub of_run : (behind : List ℕ) → Option (List ℕ)
of_run behind = if_so is_of_run (name_behind behind)
