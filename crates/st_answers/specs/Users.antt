-- What was made of a name, and all that is told of it.
use Rattle.std.specs.Prelude.{ℕ, Bool, List, [], ◌++◌, ◌||◌, Option, None, Some, codes, filter, if◌then◌else◌, map as list_map}
use Rattle.std.specs.List.{list_any}
use Rattle.std.specs.Str.{bytes_eq}
use Rattle.std.specs.FinMap as map
use Rattle.st_records.specs.Parts.{names_known}
use Rattle.st_records.specs.declared.record.Entry.{Entry}
use Rattle.st_state.specs.State.{StateMap}
use Rattle.st_answers.specs.Lines.{row, rows}
use Rattle.st_answers.specs.Answers.{is_target_of, target_row}
use Rattle.st_answers.specs.Marks.{rows_below}

-- the name is one of these
abbrev pub is_among : List ℕ → List (List ℕ) → Bool
is_among name names = list_any (λ n. bytes_eq n name) names

-- a target stands on a name of which it was made
abbrev pub stands_on : List ℕ → List ℕ × Entry → Bool
stands_on name e = is_among name (names_known e.1.explicit) || is_among name e.1.hidden

-- the names of the targets that stand on it, in the order of these entries
abbrev pub users_among : List ℕ → List (List ℕ × Entry) → List (List ℕ)
users_among name es = list_map (λ e. e.0) (filter (stands_on name) es)

-- a row for each of them
abbrev pub user_rows : List ℕ → List (List ℕ × Entry) → List ℕ
user_rows name es = rows (codes "user") (users_among name es)

-- some target of a state stands on a name
abbrev pub is_used_in : StateMap → List ℕ → Bool
is_used_in m name = list_any (stands_on name) (map.entries m)

-- a state has a name: as a target, or as what a target was made of
abbrev pub has_name : StateMap → List ℕ → Bool
has_name m name = is_target_of m name || is_used_in m name

-- what a name is, and of a target what it was made of; a name that is no target is a source
abbrev pub own_rows : List ℕ → Option Entry → List ℕ
own_rows name None = row (codes "source") name
own_rows name (Some entry) = target_row (name, entry) ++ rows_below entry.hidden entry.explicit

-- the same, and then what was made of it
abbrev pub query_text : StateMap → List ℕ → List ℕ
query_text m name = own_rows name (map.get m name) ++ user_rows name (map.entries m)

-- nothing is told of a name that the state doesn't have
abbrev pub answer_text : StateMap → List ℕ → List ℕ
answer_text m name = if has_name m name then query_text m name else []
