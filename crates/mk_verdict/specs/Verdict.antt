-- Why a target is out of date (make(1S), "Reading Makefiles and the Environment" and .KEEP_STATE). That a recipe that was
-- begun or failed is run again, that changed prerequisites count, marks, and the order of reasons are our own.
use Rattle.std.specs.Prelude.{◌≡◌, ◌≢◌, ◌⊎◌, ℕ, ◌<◌, ◌≤◌, ℤ, ◌<ℤ◌, Bool, false, IsTrue, List, Option, Some, None, IsSomeAnd, slice_get}
use Rattle.std.specs.Str.{is_utf8}
use Rattle.st_records.specs.declared.record.Entry.{Entry}
use Rattle.st_records.specs.declared.record.Phase.TheVariants as phase
use Rattle.st_records.specs.Parts.{names_recorded}
use Rattle.mk_verdict.specs.declared.mark.MadeFile.{MadeFile}
use Rattle.mk_verdict.specs.declared.verdict.Prerequisite.{Prerequisite}
use Rattle.mk_verdict.specs.declared.verdict.Target.{Target}
use Rattle.mk_verdict.specs.declared.verdict.Reason.{Reason}
use Rattle.mk_verdict.specs.declared.verdict.Reason.TheVariants.{NoEntry, WasBegun, WasFailed, CommandsChanged, PrerequisitesChanged, Absent, TargetChanged, Newer, Changed, HiddenGone, Remade}
use Rattle.mk_verdict.specs.declared.verdict.Verdict.{Verdict}
use Rattle.mk_verdict.specs.declared.verdict.Verdict.TheVariants.{UpToDate, OutOfDate}
use Rattle.mk_verdict.specs.Marks.{mark_of, Differs, IsTimed}

-- its recipe failed, with some status
abbrev pub HasFailed : Entry → Type 0
HasFailed entry = (status : ℕ) × (entry.phase ≡ phase.Failed status)

-- the list of explicit prerequisites is known, and it is not this one
abbrev pub NamesOthers : List (List ℕ) → Entry → Type 0
NamesOthers explicit entry = (names : List (List ℕ)) × (names_recorded entry.explicit ≡ Some names) × (names ≢ explicit)

-- another source is recorded than the target has now, or the known list is another one
abbrev pub HasOtherNames : Target → Entry → Type 0
HasOtherNames target entry = IsTrue target.source_changed ⊎ NamesOthers target.explicit.now entry

-- both have files, and that of the prerequisite is later
abbrev pub IsLater : (prerequisite target : Option ℤ) → Type 0
IsLater prerequisite target = (p : ℤ) × (t : ℤ) × (prerequisite ≡ Some p) × (target ≡ Some t) × (t <ℤ p)

-- its file is later than the target's, where times are what counts
abbrev pub IsNewer : (keeping : Bool) → (target : Option ℤ) → Prerequisite → Type 0
IsNewer keeping target p = IsTimed (mark_of keeping p.mark) × IsLater p.stamp target

-- a hidden prerequisite has neither file nor rule, or a name that is no text
abbrev pub IsGone : Prerequisite → Type 0
IsGone p =
    IsTrue p.is_hidden
    × (((p.stamp ≡ None) × (p.has_rule ≡ false)) ⊎ (is_utf8 p.name.now ≡ false))

-- a prerequisite was remade in this run; a hidden one counts only where it counts for the order
abbrev pub IsRemade : (orders_hidden : Bool) → Prerequisite → Type 0
IsRemade orders_hidden p = IsTrue p.is_remade × (IsTrue p.is_hidden → IsTrue orders_hidden)

-- one of these files isn't, or may not be, the one that its recipe has left
abbrev pub HasReplaced : (keeping : Bool) → List MadeFile → Type 0
HasReplaced keeping files = (i : ℕ) × IsSomeAnd (slice_get files i) (λ f. Differs (mark_of keeping f.mark) f.look)

-- a reason why the target is out of date. What the state says counts only where state is kept
abbrev pub Holds : (keeping : Bool) → Option Entry → Target → Reason → Type 0
Holds keeping entry target NoEntry = IsTrue keeping × (entry ≡ None)
Holds keeping entry target WasBegun = IsTrue keeping × IsSomeAnd entry (λ e. e.phase ≡ phase.Begun)
Holds keeping entry target WasFailed = IsTrue keeping × IsSomeAnd entry HasFailed
Holds keeping entry target CommandsChanged = IsTrue keeping × IsSomeAnd entry (λ e. e.commands ≢ target.commands.now)
Holds keeping entry target PrerequisitesChanged = IsTrue keeping × IsSomeAnd entry (HasOtherNames target)
Holds keeping entry target Absent = target.stamp ≡ None
Holds keeping entry target TargetChanged = HasReplaced keeping target.files.now
Holds keeping entry target (Newer i) = IsSomeAnd (slice_get target.prerequisites.now i) (IsNewer keeping target.stamp)
Holds keeping entry target (Changed i) = IsSomeAnd (slice_get target.prerequisites.now i) (λ p. Differs (mark_of keeping p.mark) p.look)
Holds keeping entry target (HiddenGone i) = IsTrue keeping × IsSomeAnd (slice_get target.prerequisites.now i) IsGone
Holds keeping entry target (Remade i) = IsSomeAnd (slice_get target.prerequisites.now i) (IsRemade target.orders_hidden)

-- the target is out of date: some reason holds
abbrev pub IsOutOfDate : (keeping : Bool) → Option Entry → Target → Type 0
IsOutOfDate keeping entry target = (reason : Reason) × Holds keeping entry target reason

-- the order of the reasons
abbrev pub rank : Reason → ℕ
rank NoEntry = 1
rank WasBegun = 2
rank WasFailed = 3
rank CommandsChanged = 4
rank PrerequisitesChanged = 5
rank Absent = 6
rank TargetChanged = 7
rank (Newer i) = 8
rank (Changed i) = 9
rank (HiddenGone i) = 10
rank (Remade i) = 11

-- the number of the prerequisite that a reason names
abbrev pub place : Reason → ℕ
place (Newer i) = i
place (Changed i) = i
place (HiddenGone i) = i
place (Remade i) = i
place _ = 0

-- the one reason comes before the other, or is the same
abbrev pub Precedes : Reason → Reason → Type 0
Precedes one other = (rank one < rank other) ⊎ ((rank one ≡ rank other) × (place one ≤ place other))

-- of the reasons that hold this is the first
pub record IsFirstReason (keeping : Bool) (entry : Option Entry) (target : Target) (reason : Reason) : Type 0 where
  pub holds : Holds keeping entry target reason
  pub first : (other : Reason) → Holds keeping entry target other → Precedes reason other

-- the verdict: the first reason that holds, or none does
abbrev pub IsVerdict : (keeping : Bool) → Option Entry → Target → Verdict → Type 0
IsVerdict keeping entry target UpToDate = IsOutOfDate keeping entry target → ⊥
IsVerdict keeping entry target (OutOfDate reason) = IsFirstReason keeping entry target reason
