-- The second clause: a target whose recipe was started, and that isn't known to be done, is made again.
use Rattle.std.specs.Prelude.{◌≡◌, ◌≢◌, ℕ, ◌<◌, true, List, Contains, IfSome}
use Rattle.std.specs.FinMap as map
use Rattle.st_records.specs.declared.record.Record.{Record}
use Rattle.st_records.specs.declared.record.Record.TheVariants as records
use Rattle.st_records.specs.Parts.{target_of}
use Rattle.st_state.specs.State.{StateMap}
use Rattle.st_recovery.specs.Recovers.{RecoversIn}
use Rattle.mk_verdict.specs.declared.verdict.Target.{Target}
use Rattle.mk_verdict.specs.declared.verdict.Verdict.{Verdict}
use Rattle.mk_verdict.specs.declared.verdict.Verdict.TheVariants.{UpToDate}
use Rattle.mk_verdict.specs.Verdict.{IsVerdict}
use Rattle.bd_flusher.specs.Batches.{StandsAt}
use Rattle.bd_steps.specs.Kind.{kind_of}
use Rattle.bd_steps.specs.Kind as kinds
use Rattle.bd_steps.specs.World.{World, state_after}

-- behind this ticket no 'done' of the target is among the first n records
abbrev pub HasNoDone : List Record → (ticket n : ℕ) → (target : List ℕ) → Type 0
HasNoDone notes ticket n target =
    (place : ℕ) (note : Record) → ticket < place → place < n → StandsAt notes place note
    → kind_of note ≡ kinds.done → target_of note ≡ target → ⊥

-- by this state the target is never judged up to date, whatever its commands, its prerequisites and all times of files are now
abbrev pub IsRemadeBy : StateMap → (target : List ℕ) → Type 0
IsRemadeBy m target = (files : Target) (verdict : Verdict) → IsVerdict true (map.get m target) files verdict → verdict ≢ UpToDate

-- the ticket is that of a 'begun', and unless the 'done' that follows it is among the first n records, its target is out of
-- date by the state after these
pub record IsDoneOrRemade (w : World) (n ticket : ℕ) : Type 0 where
  pub target : List ℕ
  pub begun : StandsAt w.submitted ticket (records.Begun target)
  pub remade : HasNoDone w.submitted ticket n target → IsRemadeBy (state_after w n) target

-- the ticket is that of a 'begun', and its target is out of date by each state that this pair recovers
pub record IsRemadeAtOnce (w : World) (a b : List ℕ) (ticket : ℕ) : Type 0 where
  pub target : List ℕ
  pub begun : StandsAt w.submitted ticket (records.Begun target)
  pub remade : (m : StateMap) → RecoversIn w.form a b m → IsRemadeBy m target

-- where a power cut came, each target whose recipe was started and hasn't ended is out of date
abbrev pub IsCutOff : World → Type 0
IsCutOff w = IfSome w.left (λ left. (ticket : ℕ) → Contains w.started ticket → (Contains w.ended ticket → ⊥)
    → IsRemadeAtOnce w left.0 left.1 ticket)
