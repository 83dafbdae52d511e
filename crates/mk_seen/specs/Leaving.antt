-- The tests by which no file of a node is found to be a reason to make it.
use Rattle.std.specs.Prelude.{ℕ, ℤ, Bool, true, false, not, ◌&&◌, ◌||◌, List, Option, Some, None, is_some}
use Rattle.std.specs.List.{list_all}
use Rattle.std.specs.Option.{option_map_or}
use Rattle.std.specs.Str.{is_utf8}
use Rattle.mk_graph.specs.Edges.{row}
use Rattle.mk_names.specs.Names.{name_at}
use Rattle.mk_nodes.specs.declared.graph.Graph.{Graph}
use Rattle.mk_verdict.specs.Marks.{mark_of}
use Rattle.mk_verdict.specs.Tests.{is_later, mark_differs, is_timed}
use Rattle.mk_verdict.specs.declared.mark.Look.{Look}
use Rattle.mk_verdict.specs.declared.mark.Mark.{Mark}
use Rattle.mk_marks.specs.declared.kept.Kept.{Kept}
use Rattle.mk_seen.specs.Marks.{look_of, looks_made, mark_counted, with_marks, marks_behind, noted_in, noted_of, marks_of, compared_in}
use Rattle.mk_seen.specs.Names.{are_same}
use Rattle.mk_seen.specs.Nodes.{stamp_of, made_of, hidden_of, is_marked}
use Rattle.st_records.specs.Parts.{names_recorded}
use Rattle.st_records.specs.declared.record.Entry.{Entry}
use Rattle.st_records.specs.declared.record.Phase.{Phase}
use Rattle.st_records.specs.declared.record.Phase.TheVariants as phase

-- the file of the prerequisite m is no reason to make again what was made then, where this counts as its mark: it isn't later where times
-- are what counts, and it is the one that is recorded
abbrev pub leaves_file : Graph → (made : Option ℤ) → (m : ℕ) → (mark : Mark) → Bool
leaves_file graph made m mark = not (is_timed mark && is_later (stamp_of graph m) made) && not (mark_differs mark (look_of graph m))

-- a hard prerequisite is none
abbrev pub leaves_hard : (keeping : Bool) → Graph → (marks : List Bool) → (made : Option ℤ) → ℕ × Mark → Bool
leaves_hard keeping graph marks made (m, mark) =
    leaves_file graph made m (mark_of keeping (mark_counted (look_of graph m) mark)) && not (is_marked marks m)

-- nor is a hidden one, but for its name
abbrev pub leaves_hidden : (keeping : Bool) → Graph → (marks : List Bool) → (made : Option ℤ) → Option ℕ × Mark → Bool
leaves_hidden keeping graph marks made (None, mark) = not keeping
leaves_hidden keeping graph marks made (Some m, mark) =
    leaves_file graph made m (mark_of keeping (mark_counted (look_of graph m) mark)) && not (is_marked marks m && not graph.soft_dropped)

-- its name is UTF-8, where it is a node
abbrev pub has_text_name : Graph → Option ℕ → Bool
has_text_name graph None = true
has_text_name graph (Some m) = is_utf8 (name_at graph.names m)

-- a file that a recipe makes is the one that it has left, as far as marks tell
abbrev pub leaves_made : (keeping : Bool) → Look × Mark → Bool
leaves_made keeping (look, mark) = not (mark_differs (mark_of keeping (mark_counted look mark)) look)

-- no prerequisite of node n is a reason by its file, where these are their marks
abbrev pub leaves_prerequisites : (keeping : Bool) → Graph → (marks : List Bool) → (n : ℕ) → Kept → Bool
leaves_prerequisites keeping graph marks n kept =
    list_all (leaves_hard keeping graph marks (made_of graph n)) (with_marks (row graph.hard n) kept)
    && list_all (leaves_hidden keeping graph marks (made_of graph n)) (with_marks (hidden_of graph n) (marks_behind (row graph.hard n) kept))

-- node n has its files, which are those that its recipe has left, and no prerequisite is a reason to make it
abbrev pub leaves_all : (keeping : Bool) → Graph → (marks : List Bool) → (n : ℕ) → Bool
leaves_all keeping graph marks n =
    is_some (made_of graph n)
    && (list_all (leaves_made keeping) (with_marks (looks_made graph n) (noted_of graph n).kept)
    && (leaves_prerequisites keeping graph marks n (marks_of graph n)
    && (not keeping || list_all (has_text_name graph) (hidden_of graph n))))

-- where the explicit prerequisites of node n are recorded, they are those that are compared with them
abbrev pub is_explicit : Graph → (n : ℕ) → Entry → Bool
is_explicit graph n entry = option_map_or (are_same (compared_in graph n entry)) (names_recorded entry.explicit) true

abbrev pub is_done : Phase → Bool
is_done phase.Begun = false
is_done phase.Done = true
is_done (phase.Failed status) = false

-- the entry is that of a recipe that was run to its end, with the source and the explicit prerequisites of node n
abbrev pub is_kept : Graph → (n : ℕ) → Entry → Bool
is_kept graph n entry = is_done entry.phase && (not (noted_in graph n entry).source_changed && is_explicit graph n entry)
