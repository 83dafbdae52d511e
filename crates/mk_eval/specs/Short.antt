-- Texts of rule lines, their names without a `./` in front and without the backslashes that quote a colon.
use Rattle.std.specs.Prelude.{ℕ, Bool, false, ◌&&◌, ◌||◌, List, [], ◌∷◌, flat_map, if◌then◌else◌}
use Rattle.std.specs.List.{list_any}
use Rattle.byte_strings.specs.Blanks.{words}
use Rattle.mk_lines.specs.Text.{is_backslash, begins_with}
use Rattle.mk_short_names.specs.Short.{begins_here, short_name}

-- a backslash directly before a colon
abbrev pub quotes_colon : (b : ℕ) (behind : List ℕ) → Bool
quotes_colon b behind = is_backslash b && begins_with 58 behind

abbrev pub has_quoted : (text : List ℕ) → Bool
has_quoted [] = false
has_quoted (b ∷ bs) = quotes_colon b bs || has_quoted bs

-- the name with `:` for `\:` (GNU make; that other backslashes before it stay: own, where GNU make halves them)
abbrev pub unquoted : (name : List ℕ) → List ℕ
unquoted [] = []
unquoted (b ∷ bs) = if quotes_colon b bs then unquoted bs else b ∷ unquoted bs

-- a word of the text stands for another name
abbrev pub has_other_names : (text : List ℕ) → Bool
has_other_names text = list_any begins_here (words text) || has_quoted text

-- the words of a text, each by the name that it stands for, where one of them stands for another
abbrev pub renamed : (text : List ℕ) → List ℕ
renamed text = if has_other_names text then flat_map (λ word. 32 ∷ unquoted (short_name word)) (words text) else text
