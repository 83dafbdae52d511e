-- Three runs to a power cut, over the bytes of real state files, so that the promise is of something.
use Rattle.std.specs.Prelude.{◌≡◌, ℕ, ◌<◌, true, List, [], ◌∷◌, ◌++◌, false, Some, IsSome, IsSomeAnd, Contains, codes}
use Rattle.std.specs.Int.{w16, w64, to_le_bytes}
use Rattle.std.specs.FinMap as map
use Rattle.st_disk.specs.Crash.{Sides, settled}
use Rattle.st_records.specs.declared.version.Version.TheVariants as versions
use Rattle.st_records.specs.declared.version.Form.TheVariants as forms
use Rattle.st_records.specs.declared.record.Explicit.TheVariants.{Known, Marked}
use Rattle.st_records.specs.declared.record.Phase.TheVariants as phases
use Rattle.st_records.specs.declared.record.Entry.{Entry}
use Rattle.st_records.specs.declared.record.Record.{Record}
use Rattle.st_records.specs.declared.record.Record.TheVariants as records
use Rattle.st_state.specs.State.{replay}
use Rattle.st_file.specs.Layout.{magic}
use Rattle.st_file.specs.Batch.{Batch, text_of, text_of_in}
use Rattle.st_recovery.specs.Recovers.{Recovers}
use Rattle.st_recovery.specs.Stored.{AllRecover}
use Rattle.bd_flusher.specs.Batches.{StandsAt, IsInBatch}
use Rattle.bd_steps.specs.World.{World, opened_in, opened, state_after}
use Rattle.bd_steps.specs.Event.{Event, compaction_call}
use Rattle.bd_steps.specs.Run.{IsRun, after_all}
use Rattle.bd_steps.specs.Acknowledged.{IsAcknowledged}

abbrev pub name_a : List ℕ
name_a = codes "a"

abbrev pub name_b : List ℕ
name_b = codes "b"

abbrev pub begun_a : Record
begun_a = records.Begun name_a

abbrev pub begun_b : Record
begun_b = records.Begun name_b

abbrev pub done_a : Record
done_a = records.Done name_a [] [] (Known [])

-- an open gate and these records behind it
abbrev pub batch_of : List Record → Batch
batch_of notes = record { gate = 1; records = notes }

-- the bytes of a side of version 2 and this generation with these batches and a closed gate behind them
abbrev pub side_in : (generation : ℕ) → List Batch → List ℕ
side_in generation batches = 1 ∷ (magic ++ (to_le_bytes w16 2 ++ (to_le_bytes w64 generation ++ (text_of versions.Two batches ++ 0 ∷ []))))

abbrev pub side_of : List Batch → List ℕ
side_of batches = side_in 1 batches

-- a power cut leaves just these sides
abbrev pub on_both : (a b : List ℕ) → Sides
on_both a b = record { a = settled a; b = settled b }

-- just this as side A, and an empty side B
abbrev pub on_a : List ℕ → Sides
on_a bytes = on_both bytes []

-- a store was opened that holds nothing
abbrev pub at_first : World
at_first = opened map.empty (on_a (side_of []))

-- there is a run to a power cut in which that a was done is acknowledged
abbrev pub SomeAcknowledgedDone : Type 0
SomeAcknowledgedDone =
    (events : List Event) × (IsRun at_first events × (IsSome (after_all at_first events).left
    × (IsAcknowledged (after_all at_first events) 1 × StandsAt (after_all at_first events).submitted 1 done_a)))

-- a call of the device failed, and the cut left a pair that recovers more than was told: that a was done, which nobody knows;
-- the recipe of b was started and hasn't ended
pub record LeavesUnknownDone (w : World) : Type 0 where
  pub failed : w.dead ≡ true
  pub cut : IsSomeAnd w.left (λ left. Recovers left.0 left.1 (state_after w w.taken))
  pub more : w.told < w.taken
  pub done : StandsAt w.submitted 2 done_a
  pub unknown : IsAcknowledged w 2 → ⊥
  pub begun : StandsAt w.submitted 1 begun_b
  pub started : Contains w.started 1
  pub going : Contains w.ended 1 → ⊥
  pub one_batch : IsInBatch 0 w.ends 0 0 × IsInBatch 0 w.ends 1 0

-- there is a run that does so, in which one batch had two targets
abbrev pub SomeCutOff : Type 0
SomeCutOff = (events : List Event) × (IsRun at_first events × LeavesUnknownDone (after_all at_first events))

-- that b is done, as a compaction writes it
abbrev pub entry_b : Entry
entry_b = record { phase = phases.Done; commands = []; hidden = []; explicit = Known [] }

abbrev pub kept_b : Record
kept_b = records.Kept name_b entry_b

abbrev pub kept_batch : List Batch
kept_batch = batch_of (kept_b ∷ []) ∷ []

-- a store was opened that knows b as done
abbrev pub knows_b : World
knows_b = opened (replay map.empty (kept_b ∷ [])) (on_a (side_of kept_batch))

-- the store was compacted, onto side B and in generation 2, and then it was written there that the recipe of a is about to be run,
-- which is acknowledged; what the cut left recovers both
pub record GoesOnBehindCompaction (events : List Event) (w : World) : Type 0 where
  pub compacted : Contains events (compaction_call (on_both (side_of kept_batch) (side_in 2 kept_batch)) false)
  pub cut : IsSomeAnd w.left (λ left. Recovers left.0 left.1 (replay map.empty (kept_b ∷ begun_a ∷ [])))
  pub acknowledged : IsAcknowledged w 0
  pub begun : StandsAt w.submitted 0 begun_a

-- there is a run that does so; its opening isn't empty, and is what all pairs of sides recover, as the promise asks
pub record SomeCompaction : Type 0 where
  pub knows : map.get knows_b.opening name_b ≡ Some entry_b
  pub recovers : AllRecover knows_b.opening knows_b.sides
  pub events : List Event
  pub run : IsRun knows_b events
  pub goes_on : GoesOnBehindCompaction events (after_all knows_b events)

-- ---- where records are written as in version 4

-- that a is done, with marks of its files
abbrev pub marked_a : Record
marked_a = records.Done name_a [] [] (Marked [] (codes "marks"))

-- the bytes of a side of version 4 and generation 1 with these batches and a closed gate behind them
abbrev pub marked_side_of : List Batch → List ℕ
marked_side_of batches = 1 ∷ (magic ++ (to_le_bytes w16 4 ++ (to_le_bytes w64 1 ++ (text_of_in forms.Marked batches ++ 0 ∷ []))))

-- a store was opened that holds nothing and writes this form
abbrev pub marked_at_first : World
marked_at_first = opened_in forms.Marked map.empty (on_a (marked_side_of []))

-- there is a run to a power cut in which that a was done, with its marks, is acknowledged
abbrev pub SomeMarkedDone : Type 0
SomeMarkedDone =
    (events : List Event) × (IsRun marked_at_first events × (IsSome (after_all marked_at_first events).left
    × (IsAcknowledged (after_all marked_at_first events) 1 × StandsAt (after_all marked_at_first events).submitted 1 marked_a)))
