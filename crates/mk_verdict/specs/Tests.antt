-- What the private functions compute, by one test after the other. `Verdict` says what it means.
use Rattle.std.specs.Prelude.{ℕ, ℤ, int_lt, Bool, true, false, not, ◌&&◌, ◌||◌, if◌then◌else◌, List, Option, Some, None, is_none, nat_eq, position, option_map}
use Rattle.std.specs.List.{list_any}
use Rattle.std.specs.Ordering.{int_eq}
use Rattle.std.specs.Str.{is_utf8}
use Rattle.std.specs.Cmp.Lexicographic.{pointwise}
use Rattle.st_records.specs.declared.record.Entry.{Entry}
use Rattle.st_records.specs.declared.record.Phase.{Phase}
use Rattle.st_records.specs.declared.record.Phase.TheVariants as phase
use Rattle.st_records.specs.Parts.{names_recorded}
use Rattle.mk_verdict.specs.declared.mark.Look.{Look}
use Rattle.mk_verdict.specs.declared.mark.Look.TheVariants.{NoFile, Other, File}
use Rattle.mk_verdict.specs.declared.mark.MadeFile.{MadeFile}
use Rattle.mk_verdict.specs.declared.mark.Mark.{Mark}
use Rattle.mk_verdict.specs.declared.mark.Mark.TheVariants as mark
use Rattle.mk_verdict.specs.declared.verdict.Prerequisite.{Prerequisite}
use Rattle.mk_verdict.specs.declared.verdict.Target.{Target}
use Rattle.mk_verdict.specs.declared.verdict.Reason.{Reason}
use Rattle.mk_verdict.specs.declared.verdict.Reason.TheVariants.{NoEntry, WasBegun, WasFailed, CommandsChanged, PrerequisitesChanged, Absent, TargetChanged, Newer, Changed, HiddenGone, Remade}
use Rattle.mk_verdict.specs.Marks.{mark_of}

-- the strings are the same, one by one
abbrev pub same_strings : List (List ℕ) → List (List ℕ) → Bool
same_strings = pointwise (pointwise nat_eq)

-- both have files, and that of the prerequisite is later
abbrev pub is_later : (prerequisite target : Option ℤ) → Bool
is_later None target = false
is_later (Some p) None = false
is_later (Some p) (Some t) = int_lt t p

-- the file is the same, as far as looks tell
abbrev pub same_look : Look → Look → Bool
same_look NoFile NoFile = true
same_look Other Other = true
same_look (File time size) (File now bytes) = int_eq time now && nat_eq size bytes
same_look _ _ = false

-- the file isn't, or may not be, the one that is recorded
abbrev pub mark_differs : Mark → Look → Bool
mark_differs mark.NotKept look = false
mark_differs mark.Unknown look = true
mark_differs (mark.Was was) look = not (same_look was look)

-- the file's time is what counts
abbrev pub is_timed : Mark → Bool
is_timed mark.NotKept = true
is_timed mark.Unknown = false
is_timed (mark.Was NoFile) = false
is_timed (mark.Was Other) = true
is_timed (mark.Was (File time size)) = false

abbrev pub is_newer : (keeping : Bool) → (target : Option ℤ) → Prerequisite → Bool
is_newer keeping target p = is_timed (mark_of keeping p.mark) && is_later p.stamp target

abbrev pub is_changed : (keeping : Bool) → Prerequisite → Bool
is_changed keeping p = mark_differs (mark_of keeping p.mark) p.look

abbrev pub is_replaced : (keeping : Bool) → MadeFile → Bool
is_replaced keeping f = mark_differs (mark_of keeping f.mark) f.look

abbrev pub is_gone : Prerequisite → Bool
is_gone p = p.is_hidden && ((is_none p.stamp && not p.has_rule) || not (is_utf8 p.name.now))

abbrev pub counts_as_remade : (orders_hidden : Bool) → Prerequisite → Bool
counts_as_remade orders_hidden p = p.is_remade && (orders_hidden || not p.is_hidden)

abbrev pub phase_reason : Phase → Option Reason
phase_reason phase.Begun = Some WasBegun
phase_reason phase.Done = None
phase_reason (phase.Failed status) = Some WasFailed

-- the known list of explicit prerequisites is another one
abbrev pub explicit_reason : Option (List (List ℕ)) → List (List ℕ) → Option Reason
explicit_reason None explicit = None
explicit_reason (Some names) explicit = if same_strings names explicit then None else Some PrerequisitesChanged

-- another source is recorded, or the known list is another one
abbrev pub names_reason : Entry → Target → Option Reason
names_reason entry target =
    if target.source_changed then Some PrerequisitesChanged else explicit_reason (names_recorded entry.explicit) target.explicit.now

abbrev pub changed_reason : Entry → Target → Option Reason
changed_reason entry target =
    if same_strings entry.commands target.commands.now then names_reason entry target else Some CommandsChanged

-- the first of two answers that there is
abbrev pub or_else : Option Reason → Option Reason → Option Reason
or_else None other = other
or_else (Some reason) other = Some reason

abbrev pub recorded_reason : Option Entry → Target → Option Reason
recorded_reason None target = Some NoEntry
recorded_reason (Some entry) target = or_else (phase_reason entry.phase) (changed_reason entry target)

-- the first hidden prerequisite that is gone, where state is kept
abbrev pub gone_at : (keeping : Bool) → List Prerequisite → Option ℕ
gone_at keeping prerequisites = if keeping then position is_gone prerequisites else None

-- the first of the reasons that the files of a target give which has one, and the run
abbrev pub timed_reason : (keeping : Bool) → Target → Option Reason
timed_reason keeping target =
    or_else (option_map Newer (position (is_newer keeping target.stamp) target.prerequisites.now))
    (or_else (option_map Changed (position (is_changed keeping) target.prerequisites.now))
    (or_else (option_map HiddenGone (gone_at keeping target.prerequisites.now))
    (option_map Remade (position (counts_as_remade target.orders_hidden) target.prerequisites.now))))

-- the same, where the target has its files: first whether these are the recorded ones
abbrev pub replaced_reason : (keeping : Bool) → Target → Option Reason
replaced_reason keeping target =
    if list_any (is_replaced keeping) target.files.now then Some TargetChanged else timed_reason keeping target

abbrev pub present_reason : (keeping : Bool) → Target → Option Reason
present_reason keeping target = if is_none target.stamp then Some Absent else replaced_reason keeping target

-- the first of all reasons
abbrev pub first_reason : (keeping : Bool) → Option Entry → Target → Option Reason
first_reason keeping entry target = or_else (if keeping then recorded_reason entry target else None) (present_reason keeping target)
