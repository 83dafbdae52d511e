-- The promise about power cuts and workers, as one statement:
--
-- However workers interleave and wherever a power cut falls, before or within any write of the disk model, recovery gives
-- the fold of a prefix of the submitted records that holds every acknowledged one; so every target whose recipe was started
-- and whose 'done' is not in that prefix is judged out of date, whatever the file times; and each receipt names the one
-- batch that holds its record.
--
-- Premises: what a power cut may leave is what an honest disk, whose sides nobody else writes, may; recovery meets no device fault
-- and finds memory; recipes are started by the runner alone; after a device fault the store is opened again before anything
-- else is committed.
use Rattle.std.specs.Prelude.{ℕ, List, Contains, IfSome}
use Rattle.st_disk.specs.Crash.{Sides}
use Rattle.st_records.specs.declared.version.Form.{Form}
use Rattle.st_records.specs.declared.version.Form.TheVariants.{Plain}
use Rattle.st_state.specs.State.{StateMap}
use Rattle.st_recovery.specs.Stored.{AllRecoverIn}
use Rattle.bd_flusher.specs.declared.site.receipt.Receipt.{Receipt}
use Rattle.bd_steps.specs.World.{World, opened_in}
use Rattle.bd_steps.specs.Event.{Event}
use Rattle.bd_steps.specs.Run.{IsRun, after_all}
use Rattle.bd_steps.specs.Prefix.{GivesPrefix}
use Rattle.bd_steps.specs.OutOfDate.{IsDoneOrRemade, IsCutOff}
use Rattle.bd_steps.specs.OneBatch.{NamesItsBatch}

-- recovery of the pair that a power cut left gives a prefix of the submitted records that holds every acknowledged one; and
-- each started target is done in that prefix, or out of date
pub record Survives (w : World) (a b : List ℕ) : Type 0 where
  pub n : ℕ
  pub prefix : GivesPrefix w a b n
  pub done_or_remade : (ticket : ℕ) → Contains w.started ticket → IsDoneOrRemade w n ticket

-- where a power cut came, recovery does that; and each receipt names the one batch that holds its record
pub record KeepsPromise (w : World) : Type 0 where
  pub recovery : IfSome w.left (λ left. ∥ Survives w left.0 left.1 ∥₁)
  pub receipts : (receipt : Receipt) → Contains w.receipts receipt → NamesItsBatch w receipt

-- it is so after any steps of any workers, whatever state was opened, where records of this form are written
abbrev pub EveryInterleavingIn : Form → Type 0
EveryInterleavingIn form =
    (opening : StateMap) (sides : Sides) (events : List Event) → AllRecoverIn form opening sides
    → IsRun (opened_in form opening sides) events → KeepsPromise (after_all (opened_in form opening sides) events)

-- beside it: the target of a recipe that was cut off is out of date, since its 'done' is submitted only after it ended
abbrev pub EachCutOffIn : Form → Type 0
EachCutOffIn form =
    (opening : StateMap) (sides : Sides) (events : List Event) → AllRecoverIn form opening sides
    → IsRun (opened_in form opening sides) events → IsCutOff (after_all (opened_in form opening sides) events)

-- ---- where records are written as in version 2

abbrev pub EveryInterleaving : Type 0
EveryInterleaving = EveryInterleavingIn Plain

abbrev pub EachCutOff : Type 0
EachCutOff = EachCutOffIn Plain
