-- What the state has of each file of a node, beside what a look at it tells now. Own.
use Rattle.std.specs.Prelude.{ℕ, ◌+◌, ◌==◌, ℤ, Bool, not, ◌&&◌, false, if◌then◌else◌, List, [], ◌∷◌, length, map, Option, Some, None, is_some, option_map, option_and_then}
use Rattle.std.specs.Option.{option_map_or}
use Rattle.std.specs.Ordering.{int_eq}
use Rattle.mk_graph.specs.Edges.{row}
use Rattle.mk_names.specs.Names.{name_at}
use Rattle.mk_marks.specs.Marks.{first_mark, later_marks, nothing_kept}
use Rattle.mk_marks.specs.Noted.{noted}
use Rattle.mk_marks.specs.declared.kept.Kept.{Kept}
use Rattle.mk_marks.specs.declared.noted.Noted.{Noted}
use Rattle.mk_nodes.specs.Node.{source_in}
use Rattle.mk_nodes.specs.declared.file_look.FileLook.{FileLook}
use Rattle.mk_nodes.specs.declared.file_look.TheConstants.{OLD_TIME}
use Rattle.mk_nodes.specs.declared.graph.Graph.{Graph}
use Rattle.mk_verdict.specs.declared.mark.Look.{Look}
use Rattle.mk_verdict.specs.declared.mark.Look.TheVariants.{NoFile, Other, File}
use Rattle.mk_verdict.specs.declared.mark.MadeFile.{MadeFile}
use Rattle.mk_verdict.specs.declared.mark.Mark.{Mark}
use Rattle.mk_verdict.specs.declared.mark.Mark.TheVariants.{NotKept}
use Rattle.mk_seen.specs.Names.{are_known}
use Rattle.mk_seen.specs.Nodes.{node_at, group_in, entry_of, hidden_of, explicit_of}
use Rattle.st_records.specs.Parts.{names_known}
use Rattle.st_records.specs.declared.record.Entry.{Entry}
use Rattle.st_records.specs.declared.record.Explicit.{Explicit}
use Rattle.st_records.specs.declared.record.Explicit.TheVariants as explicits

-- ---- looks

-- a file with this time, and a size where it is an ordinary one, as a verdict takes it
abbrev pub look_with : (time : ℤ) → (size : Option ℕ) → Look
look_with time None = Other
look_with time (Some size) = File time size

abbrev pub look_from : Option FileLook → Look
look_from None = NoFile
look_from (Some file) = look_with file.time file.size

-- what a look at node n tells
abbrev pub look_of : Graph → (n : ℕ) → Look
look_of graph n = look_from (option_and_then (λ node. node.stamp) (node_at graph n))

-- what looks at the files tell that its recipe makes beside it
abbrev pub looks_beside : Graph → (n : ℕ) → List (Option FileLook)
looks_beside graph n = option_map_or (λ g. g.looks) (option_and_then group_in (node_at graph n)) []

-- at all that its recipe makes: its own file first
abbrev pub looks_made : Graph → (n : ℕ) → List Look
looks_made graph n = look_of graph n ∷ map look_from (looks_beside graph n)

-- ---- marks one after the other

-- each of these with the next mark
abbrev pub with_marks : {A : Type 0} → List A → Kept → List (A × Mark)
with_marks [] kept = []
with_marks (a ∷ as') kept = (a, first_mark kept) ∷ with_marks as' (later_marks kept)

-- the marks that are left behind theirs
abbrev pub marks_behind : {A : Type 0} → List A → Kept → Kept
marks_behind [] kept = kept
marks_behind (a ∷ as') kept = marks_behind as' (later_marks kept)

-- ---- what the state has of a node

-- the text of the marks, where they are kept
abbrev pub marks_text : Explicit → Option (List ℕ)
marks_text explicits.Unknown = None
marks_text (explicits.Known names) = None
marks_text (explicits.Marked names text) = Some text

-- the name of its source, if an implicit rule gives it one
abbrev pub source_name : Graph → (n : ℕ) → Option (List ℕ)
source_name graph n = option_map (name_at graph.names) (source_in (node_at graph n) (row graph.hard n))

-- what an entry has of the files of node n
abbrev pub noted_in : Graph → (n : ℕ) → Entry → Noted
noted_in graph n entry =
    noted (marks_text entry.explicit) (source_name graph n) (length (looks_beside graph n)) (length (names_known entry.explicit) + length entry.hidden)

abbrev pub nothing_noted : Noted
nothing_noted = record { source_changed = false; kept = nothing_kept NotKept }

-- what the state has of them
abbrev pub noted_of : Graph → (n : ℕ) → Noted
noted_of graph n = option_map_or (noted_in graph n) (entry_of graph n) nothing_noted

-- the entry has its prerequisites as they are now, in this order: the same source; the same explicit ones, behind which the first hidden
-- ones may have become explicit; and all others still are hidden
abbrev pub has_same_names : Graph → (n : ℕ) → Entry → Bool
has_same_names graph n entry =
    not (noted_in graph n entry).source_changed
    && (are_known (explicit_of graph n) (names_known entry.explicit) entry.hidden
    && (length (names_known entry.explicit) + length entry.hidden == length (explicit_of graph n) + length (hidden_of graph n)))

-- where marks are kept, its explicit prerequisites are those of the entry, though hidden ones may have become explicit
abbrev pub is_as_recorded : Graph → (n : ℕ) → Entry → Bool
is_as_recorded graph n entry = is_some (marks_text entry.explicit) && has_same_names graph n entry

-- its explicit prerequisites, as they are compared with what is recorded
abbrev pub compared_in : Graph → (n : ℕ) → Entry → List (List ℕ)
compared_in graph n entry = if is_as_recorded graph n entry then names_known entry.explicit else explicit_of graph n

abbrev pub compared_of : Graph → (n : ℕ) → List (List ℕ)
compared_of graph n = option_map_or (compared_in graph n) (entry_of graph n) (explicit_of graph n)

-- the marks of its prerequisites: those behind the marks of what its recipe makes, where the entry has these very prerequisites; else each
-- mark is unknown, if any are kept
abbrev pub marks_in : Graph → (n : ℕ) → Entry → Kept
marks_in graph n entry =
    let found = (noted_in graph n entry).kept in
    if has_same_names graph n entry then marks_behind (looks_made graph n) found else nothing_kept found.other

abbrev pub marks_of : Graph → (n : ℕ) → Kept
marks_of graph n = option_map_or (marks_in graph n) (entry_of graph n) (nothing_kept NotKept)

-- ---- files with their marks

-- the mark of a file by which it is judged, where a look at it tells this: what is taken as old has none, and so is no reason to make
-- anything, since no file was made earlier (GNU make manual, "Options Summary", -o)
abbrev pub mark_counted : Look → Mark → Mark
mark_counted NoFile mark = mark
mark_counted Other mark = mark
mark_counted (File time size) mark = if int_eq time OLD_TIME then NotKept else mark

abbrev pub made_file : Look × Mark → MadeFile
made_file (look, mark) = record { look = look; mark = mark_counted look mark }

-- what the recipe of node n makes
abbrev pub files_of : Graph → (n : ℕ) → List MadeFile
files_of graph n = map made_file (with_marks (looks_made graph n) (noted_of graph n).kept)

-- its hard prerequisites, and its hidden ones
abbrev pub hard_marked : Graph → (n : ℕ) → List (ℕ × Mark)
hard_marked graph n = with_marks (row graph.hard n) (marks_of graph n)

abbrev pub hidden_marked : Graph → (n : ℕ) → List (Option ℕ × Mark)
hidden_marked graph n = with_marks (hidden_of graph n) (marks_behind (row graph.hard n) (marks_of graph n))
