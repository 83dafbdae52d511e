-- The names of a text (GNU make manual, "Rule Syntax" and "Types of Prerequisites"; GNU make 4.3): spaces of all kinds stand before a name, and a blank
-- or the text's own stop ends it, where no backslash quotes it.
use Rattle.std.specs.Prelude.{ℕ, zero, suc, ◌==◌, if◌then◌else◌, Bool, false, List, [], ◌∷◌, ◌++◌, length, Option, Some, None}
use Rattle.mk_words.specs.Words.{behind_spaces}
use Rattle.mk_target_lines.specs.Cut.{cut}
use Rattle.mk_target_lines.specs.declared.mark.Mark.{Mark}
use Rattle.mk_target_lines.specs.declared.mark.Mark.TheVariants.{Blank, BlankOr}

abbrev pub end_mark : (stop : Option ℕ) → Mark
end_mark None = Blank
end_mark (Some stop) = BlankOr stop

abbrev pub is_stop : (stop : Option ℕ) → ℕ → Bool
is_stop None b = false
is_stop (Some stop) b = b == stop

-- names, and what stands behind the stop that ends them, where one does
abbrev pub Names : Type 0
Names = List (List ℕ) × Option (List ℕ)

abbrev pub with_names : List (List ℕ) → Names → Names
with_names front names = (front ++ names.0, names.1)

-- the names of a text that has no space in front
abbrev pub at_name : (stop : Option ℕ) → List ℕ → (List ℕ → Names) → Names
at_name stop [] more = ([], None)
at_name stop (b ∷ bs) more =
    if is_stop stop b then ([], Some bs)
    else with_names ((cut (end_mark stop) (b ∷ bs)).0 ∷ []) (more (cut (end_mark stop) (b ∷ bs)).1)

-- the names of a text of at most so many bytes, and so of at most so many names
abbrev pub names_within : (size : ℕ) → (stop : Option ℕ) → List ℕ → Names
names_within zero stop text = ([], None)
names_within (suc size) stop text = at_name stop (behind_spaces text) (names_within size stop)

abbrev pub names_of : (stop : Option ℕ) → List ℕ → Names
names_of stop text = names_within (length text) stop text

abbrev pub names_behind : Option (List ℕ) → List (List ℕ)
names_behind None = []
names_behind (Some text) = (names_of None text).0

-- the prerequisites of a text, and those behind the first `|`, of which the times don't count
abbrev pub prerequisites : List ℕ → List (List ℕ) × List (List ℕ)
prerequisites text = ((names_of (Some 124) text).0, names_behind (names_of (Some 124) text).1)

-- a name's form: what stands before its `%` and behind it; a name without one is its own bytes
abbrev pub Form : Type 0
Form = List ℕ × Option (List ℕ)
