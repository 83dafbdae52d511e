-- Why a target is out of date where no marks are kept.
use Rattle.std.specs.Prelude.{◌≡◌, ◌≢◌, ℕ, Bool, false, IsTrue, Option, Some, None, IsSomeAnd, slice_get}
use Rattle.st_records.specs.declared.record.Entry.{Entry}
use Rattle.st_records.specs.declared.record.Phase.TheVariants as phase
use Rattle.mk_verdict.specs.declared.mark.MadeFile.{MadeFile}
use Rattle.mk_verdict.specs.declared.mark.Mark.TheVariants.{NotKept}
use Rattle.mk_verdict.specs.declared.verdict.Prerequisite.{Prerequisite}
use Rattle.mk_verdict.specs.declared.verdict.Target.{Target}
use Rattle.mk_verdict.specs.declared.verdict.Reason.{Reason}
use Rattle.mk_verdict.specs.declared.verdict.Reason.TheVariants.{NoEntry, WasBegun, WasFailed, CommandsChanged, PrerequisitesChanged, Absent, TargetChanged, Newer, Changed, HiddenGone, Remade}
use Rattle.mk_verdict.specs.Verdict.{HasFailed, NamesOthers, IsLater, IsGone, IsRemade}

-- no marks are kept of the target, nor of its source
pub record HasNoMarks (target : Target) : Type 0 where
  pub source : target.source_changed ≡ false
  pub files : (i : ℕ) (f : MadeFile) → slice_get target.files.now i ≡ Some f → f.mark ≡ NotKept
  pub prerequisites : (i : ℕ) (p : Prerequisite) → slice_get target.prerequisites.now i ≡ Some p → p.mark ≡ NotKept

-- a reason why the target is out of date, by times and no marks. What the state says counts only where state is kept
abbrev pub HoldsByTimes : (keeping : Bool) → Option Entry → Target → Reason → Type 0
HoldsByTimes keeping entry target NoEntry = IsTrue keeping × (entry ≡ None)
HoldsByTimes keeping entry target WasBegun = IsTrue keeping × IsSomeAnd entry (λ e. e.phase ≡ phase.Begun)
HoldsByTimes keeping entry target WasFailed = IsTrue keeping × IsSomeAnd entry HasFailed
HoldsByTimes keeping entry target CommandsChanged = IsTrue keeping × IsSomeAnd entry (λ e. e.commands ≢ target.commands.now)
HoldsByTimes keeping entry target PrerequisitesChanged = IsTrue keeping × IsSomeAnd entry (NamesOthers target.explicit.now)
HoldsByTimes keeping entry target Absent = target.stamp ≡ None
HoldsByTimes keeping entry target TargetChanged = ⊥
HoldsByTimes keeping entry target (Newer i) = IsSomeAnd (slice_get target.prerequisites.now i) (λ p. IsLater p.stamp target.stamp)
HoldsByTimes keeping entry target (Changed i) = ⊥
HoldsByTimes keeping entry target (HiddenGone i) = IsTrue keeping × IsSomeAnd (slice_get target.prerequisites.now i) IsGone
HoldsByTimes keeping entry target (Remade i) = IsSomeAnd (slice_get target.prerequisites.now i) (IsRemade target.orders_hidden)
