-- One step of any worker: one holding of the board's lock, one look or the end of one commit under the site's lock, one call
-- of the device, or the start or end of a recipe; or a power cut. Own.
use Rattle.std.specs.Prelude.{◌≡◌, ℕ, ◌+◌, ◌<◌, ◌≤◌, Bool, false, List, [], ◌∷◌, ◌++◌, length, Some, Contains}
use Rattle.st_disk.specs.Crash.{Sides, IsCrashImage}
use Rattle.st_records.specs.declared.record.Record.{Record}
use Rattle.st_records.specs.declared.record.Record.TheVariants as records
use Rattle.st_records.specs.Limits.{IsGoodIn}
use Rattle.st_records.specs.Parts.{target_of}
use Rattle.st_recovery.specs.Stored.{AllRecoverIn, AllRecoverEitherIn}
use Rattle.bd_flusher.specs.declared.site.receipt.Receipt.{Receipt}
use Rattle.bd_flusher.specs.Batches.{StandsAt, IsInBatch}
use Rattle.bd_steps.specs.Kind.{Kind, kind_of}
use Rattle.bd_steps.specs.Kind as kinds
use Rattle.bd_steps.specs.World.{World, state_after}

-- the calls of the device come with what a power cut may leave after them, and whether they failed
pub data Event : Type 0 where
  submit : Record → Event
  drain : Event
  compaction_call : Sides → Bool → Event
  commit_call : Sides → Bool → Event
  commit_end : Event
  look : Receipt → Event
  advance : Receipt → Event
  start : ℕ → Event
  finish : ℕ → Event
  something_else : Event
  power_cut : List ℕ → List ℕ → Event

-- from this ticket on nothing of the target was submitted
abbrev pub IsSilentFrom : ℕ → (target : List ℕ) → List Record → Type 0
IsSilentFrom from target notes =
    (ticket : ℕ) (note : Record) → from ≤ ticket → StandsAt notes ticket note → target_of note ≡ target → ⊥

-- that the target's recipe is about to be run was submitted with this ticket, the recipe has ended, and nothing of the target
-- was submitted since
pub record HasEnded (w : World) (target : List ℕ) : Type 0 where
  pub ticket : ℕ
  pub first : StandsAt w.submitted ticket (records.Begun target)
  pub over : Contains w.ended ticket
  pub silent : IsSilentFrom (ticket + 1) target w.submitted

-- a record of this kind and target may be submitted: a 'begun' once, one 'done' or 'failed' after its recipe ended
abbrev pub MayCome : Kind → World → (target : List ℕ) → Type 0
MayCome kinds.begun w target = IsSilentFrom 0 target w.submitted
MayCome kinds.done w target = HasEnded w target
MayCome kinds.failed w target = HasEnded w target
MayCome kinds.kept w target = ⊥

-- the step may be made
abbrev pub MayHappen : World → Event → Type 0
MayHappen w (submit note) = IsGoodIn w.form note × MayCome (kind_of note) w (target_of note)
MayHappen w drain = w.taken ≡ w.told
MayHappen w (compaction_call sides failed) = (w.dead ≡ false) × AllRecoverIn w.form (state_after w w.told) sides
MayHappen w (commit_call sides failed) =
    (w.dead ≡ false) × (w.told < w.taken) × AllRecoverEitherIn w.form (state_after w w.told) (state_after w w.taken) sides
MayHappen w commit_end = (w.dead ≡ false) × (w.told < w.taken) × AllRecoverIn w.form (state_after w w.taken) w.sides
MayHappen w (look receipt) =
    (receipt.ticket < w.told) × StandsAt w.submitted receipt.ticket receipt.noted × IsInBatch 0 w.ends receipt.ticket receipt.batch
MayHappen w (advance receipt) = Contains w.receipts receipt × (kind_of receipt.noted ≡ kinds.begun)
MayHappen w (start ticket) = Contains w.cleared ticket × (Contains w.started ticket → ⊥) × (Contains w.ended ticket → ⊥)
MayHappen w (finish ticket) = Contains w.cleared ticket
MayHappen w something_else = Unit {0}
MayHappen w (power_cut a b) = IsCrashImage w.sides.a a × IsCrashImage w.sides.b b

-- what comes of it
abbrev pub after : World → Event → World
after w (submit note) = record w { submitted = w.submitted ++ note ∷ [] }
after w drain = record w { taken = length w.submitted }
after w (compaction_call sides failed) = record w { sides = sides; dead = failed }
after w (commit_call sides failed) = record w { sides = sides; dead = failed }
after w commit_end = record w { told = w.taken; ends = w.ends ++ w.taken ∷ [] }
after w (look receipt) = record w { receipts = receipt ∷ w.receipts }
after w (advance receipt) = record w { cleared = receipt.ticket ∷ w.cleared }
after w (start ticket) = record w { started = ticket ∷ w.started }
after w (finish ticket) = record w { ended = ticket ∷ w.ended }
after w something_else = w
after w (power_cut a b) = record w { left = Some (a, b) }
