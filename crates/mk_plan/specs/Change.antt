-- What has changed where a target is out of date, by the reason, in a user's words: what is recorded, and what stands in its place. Own.
use Rattle.std.specs.Prelude.{ℕ, ℤ, Bool, not, if◌then◌else◌, List, [], ◌∷◌, ◌++◌, filter, find, slice_get, Option, Some, None, option_and_then, option_to_list}
use Rattle.std.specs.Int.{w64, int_wrap}
use Rattle.std.specs.Option.{option_map_or}
use Rattle.std.specs.Ordering.{int_eq}
use Rattle.std.specs.Str.{bytes_eq}
use Rattle.mk_names.specs.Names.{has_name}
use Rattle.mk_nodes.specs.declared.graph.Graph.{Graph}
use Rattle.mk_seen.specs.Nodes.{entry_of}
use Rattle.mk_verdict.specs.Tests.{mark_differs}
use Rattle.mk_verdict.specs.declared.mark.Look.{Look}
use Rattle.mk_verdict.specs.declared.mark.Look.TheVariants as looks
use Rattle.mk_verdict.specs.declared.mark.MadeFile.{MadeFile}
use Rattle.mk_verdict.specs.declared.mark.Mark.{Mark}
use Rattle.mk_verdict.specs.declared.mark.Mark.TheVariants as marks
use Rattle.mk_verdict.specs.declared.verdict.Prerequisite.{Prerequisite}
use Rattle.mk_verdict.specs.declared.verdict.Reason.{Reason}
use Rattle.mk_verdict.specs.declared.verdict.Reason.TheVariants.{CommandsChanged, PrerequisitesChanged, TargetChanged, Changed}
use Rattle.mk_verdict.specs.declared.verdict.Target.{Target}
use Rattle.st_marks.specs.Encoding.{stamp_of}
use Rattle.st_marks.specs.Parts.{said_of}
use Rattle.st_marks.specs.Told.{mark_text}
use Rattle.st_marks.specs.declared.mark.Mark.{Mark as KeptMark}
use Rattle.st_marks.specs.declared.mark.Mark.TheVariants as kept
use Rattle.st_records.specs.declared.record.Entry.{Entry}
use Rattle.st_records.specs.declared.record.Explicit.{Explicit}
use Rattle.st_records.specs.declared.record.Explicit.TheVariants as explicits
use Rattle.mk_plan.specs.ExplicitWords.{once_of}
use Rattle.mk_plan.specs.declared.change.Change.{Change}

abbrev pub no_change : Change
no_change = record { was = []; is = [] }

-- ---- commands

-- the commands that the state has of node n
abbrev pub commands_of : Graph → (n : ℕ) → List (List ℕ)
commands_of graph n = option_map_or (λ entry. entry.commands) (entry_of graph n) []

-- the first texts in which two lists differ, of the one and of the other
abbrev pub difference : (was now : List (List ℕ)) → Option (List ℕ) × Option (List ℕ)
difference [] [] = (None, None)
difference [] (n ∷ now) = (None, Some n)
difference (w ∷ was) [] = (Some w, None)
difference (w ∷ was) (n ∷ now) = if bytes_eq w n then difference was now else (Some w, Some n)

-- of changed commands the first that isn't what it was, or that there is no more, and the one in its place, if there is one
abbrev pub changed_commands : (was now : List (List ℕ)) → Change
changed_commands was now = record { was = option_to_list (difference was now).0; is = option_to_list (difference was now).1 }

-- ---- files, as a state is listed

-- eight bytes hold the time, as two's complement
abbrev pub is_held : ℤ → Bool
is_held time = int_eq (int_wrap w64 time) time

-- an ordinary file as it would be recorded
abbrev pub kept_file : (time : ℤ) (size : ℕ) → KeptMark
kept_file time size = if is_held time then kept.File (stamp_of time size) else kept.Unknown

-- what a look tells, as it would be recorded
abbrev pub kept_look : Look → KeptMark
kept_look looks.NoFile = kept.NoFile
kept_look looks.Other = kept.Other
kept_look (looks.File time size) = kept_file time size

abbrev pub kept_mark : Mark → KeptMark
kept_mark marks.NotKept = kept.Unknown
kept_mark marks.Unknown = kept.Unknown
kept_mark (marks.Was look) = kept_look look

abbrev pub changed_file : Mark → Look → Change
changed_file mark look = record { was = mark_text (kept_mark mark) ∷ []; is = mark_text (kept_look look) ∷ [] }

-- it isn't, or may not be, the file that its recipe has left
abbrev pub is_other : MadeFile → Bool
is_other f = mark_differs f.mark f.look

-- of the files of a target the first such one
abbrev pub changed_files : List MadeFile → Change
changed_files files = option_map_or (λ f. changed_file f.mark f.look) (find is_other files) no_change

abbrev pub changed_prerequisite : Option Prerequisite → Change
changed_prerequisite p = option_map_or (λ p. changed_file p.mark p.look) p no_change

-- ---- prerequisites by name

-- the source that a text of marks has, if it is one and has one
abbrev pub source_said : (text : List ℕ) → Option (List ℕ)
source_said text = option_and_then (λ said. said.0) (said_of text)

-- the source and the explicit prerequisites that are recorded, where their marks are
abbrev pub names_marked : Explicit → Option (List (List ℕ))
names_marked explicits.Unknown = None
names_marked (explicits.Known names) = None
names_marked (explicits.Marked names text) = Some (option_to_list (source_said text) ++ names)

-- those of the names that aren't among others
abbrev pub beside : (others names : List (List ℕ)) → List (List ℕ)
beside others names = filter (λ name. not (has_name others name)) names

-- those that went, and those that came
abbrev pub went_and_came : (was now : List (List ℕ)) → Change
went_and_came was now = record { was = beside now was; is = beside was now }

abbrev pub changed_names : (now : List (List ℕ)) → Option Entry → Change
changed_names now entry =
    option_map_or (λ was. went_and_came was now) (option_and_then (λ e. names_marked e.explicit) entry) no_change

-- ---- by the reason

-- what has changed of node n, which is judged as this target: the strict profile records no marks, so that there this is of commands alone
abbrev pub change_of : Graph → (n : ℕ) → Target → Reason → Change
change_of graph n target CommandsChanged = changed_commands (commands_of graph n) target.commands.now
change_of graph n target PrerequisitesChanged = changed_names (once_of graph n) (entry_of graph n)
change_of graph n target TargetChanged = changed_files target.files.now
change_of graph n target (Changed i) = changed_prerequisite (slice_get target.prerequisites.now i)
change_of graph n target _ = no_change
