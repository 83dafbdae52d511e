-- Why targets aren't as they were made, by their entries and looks at names (own). What a look finds is said as a mark, and compared with
-- the recorded one as that of a target's own file ("Stale").
use Rattle.std.specs.Prelude.{ℕ, List, [], ◌∷◌, ◌++◌, length, drop, slice_get, nat_eq, Option, None, Some}
use Rattle.std.specs.Borrow.{Bor}
use Rattle.std.specs.Cmp.Lexicographic.{pointwise}
use Rattle.std.specs.List.{flat_map}
use Rattle.std.specs.FinMap as map
use Rattle.std.specs.HashMap.{HashMap, get_by}
use Rattle.st_records.specs.declared.record.Explicit.{Explicit}
use Rattle.st_records.specs.declared.record.Explicit.TheVariants as explicits
use Rattle.st_records.specs.declared.record.Entry.{Entry}
use Rattle.st_marks.specs.declared.mark.Mark.{Mark}
use Rattle.st_marks.specs.Parts.{Parted, parts_of}
use Rattle.st_state.specs.State.{StateMap}
use Rattle.st_answers.specs.Lines.{tab, row}
use Rattle.st_answers.specs.declared.stale.Stale.{Stale}
use Rattle.st_answers.specs.Stale.{or_unknown, file_stale, stale_of, stale_word, word_row}

-- what was found at a name, by a table of looks: an unknown mark where nobody looked
abbrev pub look_in : {S : Type 0} → HashMap (Bor (List ℕ)) Mark S → List ℕ → Mark
look_in looks name = or_unknown (get_by (λ k. pointwise nat_eq name k.now) looks)

-- ---- a prerequisite of a target

-- what is wrong with it; nothing where it has no mark
abbrev pub marked_stale : Option Mark → (look : Mark) → Option Stale
marked_stale None look = None
marked_stale (Some mark) look = file_stale (Some mark) look

-- a line that says what is wrong, the target and the prerequisite
abbrev pub of_row : (target name : List ℕ) → Option Stale → List ℕ
of_row target name None = []
of_row target name (Some wrong) = stale_word wrong ++ tab ∷ row target name

-- such a line for each of these names that isn't as its mark says: the first one's is the first of the marks
abbrev pub marked_why : (look : List ℕ → Mark) → (target : List ℕ) → List (List ℕ) → List Mark → List ℕ
marked_why look target [] marks = []
marked_why look target (name ∷ names) marks =
    of_row target name (marked_stale (slice_get marks 0) (look name)) ++ marked_why look target names (drop 1 marks)

-- the same of the source, if there is one
abbrev pub source_why : (look : List ℕ → Mark) → (target : List ℕ) → Option (List ℕ) → List Mark → List ℕ
source_why look target None marks = []
source_why look target (Some name) marks = of_row target name (marked_stale (slice_get marks 0) (look name))

-- ---- a target

-- the source comes first, and then the explicit and the hidden prerequisites
abbrev pub parts_why : (look : List ℕ → Mark) → (target : List ℕ) → (names hidden : List (List ℕ)) → Parted → List ℕ
parts_why look target names hidden marks =
    source_why look target marks.source marks.of_source
    ++ (marked_why look target names marks.explicit ++ marked_why look target hidden marks.hidden)

-- nothing of marks that can't be read
abbrev pub read_why : (look : List ℕ → Mark) → (target : List ℕ) → (names hidden : List (List ℕ)) → Option Parted → List ℕ
read_why look target names hidden None = []
read_why look target names hidden (Some marks) = parts_why look target names hidden marks

-- by what is said of the explicit names; nothing where no marks are kept
abbrev pub prerequisites_why : (look : List ℕ → Mark) → (target : List ℕ) → (hidden : List (List ℕ)) → Explicit → List ℕ
prerequisites_why look target hidden explicits.Unknown = []
prerequisites_why look target hidden (explicits.Known names) = []
prerequisites_why look target hidden (explicits.Marked names text) =
    read_why look target names hidden (parts_of text (length names) (length hidden))

-- what is wrong with the target itself, and then its prerequisites
abbrev pub entry_why : (look : List ℕ → Mark) → (target : List ℕ) → Entry → List ℕ
entry_why look target entry = word_row target (stale_of entry (look target)) ++ prerequisites_why look target entry.hidden entry.explicit

-- nothing of what is no target
abbrev pub known_why : (look : List ℕ → Mark) → (target : List ℕ) → Option Entry → List ℕ
known_why look target None = []
known_why look target (Some entry) = entry_why look target entry

abbrev pub name_why : (look : List ℕ → Mark) → StateMap → (name : List ℕ) → List ℕ
name_why look m name = known_why look name (map.get m name)

-- of each of these names in turn
abbrev pub why_text : (look : List ℕ → Mark) → StateMap → (names : List (List ℕ)) → List ℕ
why_text look m names = flat_map (name_why look m) names
