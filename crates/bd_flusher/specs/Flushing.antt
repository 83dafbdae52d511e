-- What a flush does to a site. Own.
use Rattle.std.specs.Prelude.{◌≡◌, ◌≢◌, ◌⊎◌, ◌↔◌, ℕ, ◌+◌, ◌-◌, ◌<◌, ◌^◌, true, false, List, [], ◌∷◌, ◌++◌, length, Result, IsOk, IfErr, OnOk, OnErr, IsErrOf}
use Rattle.st_disk.specs.declared.which.Which.{Which}
use Rattle.st_disk.specs.Moments.{Moments, now, Throughout}
use Rattle.st_disk.specs.Faults.{Rises}
use Rattle.st_records.specs.declared.record.Record.{Record}
use Rattle.st_state.specs.Keepable.{kept_records}
use Rattle.st_file.specs.declared.layout.TheConstants.{HEADER_BYTES}
use Rattle.st_file.specs.Grown.{IsFullIn}
use Rattle.st_file.specs.Side.{HoldsUpToIn}
use Rattle.st_recovery.specs.Stored.{AllRecoverIn, AllRecoverEitherIn}
use Rattle.bd_flusher.specs.declared.fault.FlushFault.{FlushFault}
use Rattle.bd_flusher.specs.declared.fault.FlushFault.TheVariants as faults
use Rattle.bd_flusher.specs.Parts.{Written}
use Rattle.bd_flusher.specs.Site.{FactsIn, Facts, in_form, KeepsRecords, holding_in, told_state, held_state}
use Rattle.bd_flusher.specs.Tidying.{IsLong, IsOnOtherSide, IsCompacted}
use Rattle.bd_flusher.specs.Turns.{IsOutOfTurn}

-- what it held stands behind a compaction, which came first: on the other side, behind a kept record for each entry of the
-- state that it had; and the length that is kept is that of a side with these alone
pub record IsBehindCompaction {D : Type 0} (honest : Type 0) (seen : D → Which → List ℕ) (old new : FactsIn D) : Type 0 where
  pub changed : IsOnOtherSide honest seen old new (kept_records old.state ++ old.held)
  pub size : honest → (x : List ℕ) × HoldsUpToIn x old.newest (old.generation + 1) (kept_records old.state) new.size

-- what it held stands behind what was on the side already, on which it has stayed
pub record IsBehind {D : Type 0} (honest : Type 0) (seen : D → Which → List ℕ) (old new : FactsIn D) : Type 0 where
  pub side : new.side ≡ old.side
  pub form : new.form ≡ old.form
  pub generation : new.generation ≡ old.generation
  pub size : new.size ≡ old.size
  pub holds : honest → (held : List Record) → HoldsUpToIn (seen old.disk old.side) old.form old.generation held old.end
      → HoldsUpToIn (seen new.disk old.side) old.form old.generation (held ++ old.held) new.end

-- all that was held is told, and where something was, in one batch more
pub record HasFlushed {D : Type 0} (old new : FactsIn D) : Type 0 where
  pub newest : new.newest ≡ old.newest
  pub opening : new.opening ≡ old.opening
  pub told : new.told ≡ old.told ++ old.held
  pub tickets : new.tickets ≡ []
  pub held : new.held ≡ []
  pub ends : 0 < length old.held → new.ends ≡ old.ends ++ (length old.told + length old.held) ∷ []

-- what a flush promises: at every moment each pair of crash images recovers the state by what was told, or by what was held
-- too; at Ok all that was held is told; else the records are as before, and after a device fault the site is dead; where
-- nothing was held, or the site was dead, nothing has changed
pub record Flushes {D T : Type 0} (honest : Type 0) (moments : D → Moments) (old new : FactsIn D) (result : Result T FlushFault) : Type 0 where
  pub any_moment : honest → Throughout (moments old.disk) (moments new.disk) (AllRecoverEitherIn old.newest (told_state old) (held_state old))
  pub done : honest → OnOk result (AllRecoverIn old.newest (told_state new) (now (moments new.disk)))
  pub ok : OnOk result (HasFlushed old new)
  pub alive : OnOk result ((old.dead ≡ false) × (new.dead ≡ false))
  pub err : OnErr result (KeepsRecords old new)
  pub device : IsErrOf result faults.Device → new.dead ≡ true
  pub others : OnErr result (IsErrOf result faults.Device ⊎ (new.dead ≡ old.dead))
  pub none : old.held ≡ [] → new ≡ old
  pub was_dead : old.dead ≡ true → new ≡ old

-- a compaction comes first, if one is due, at each moment of which each pair recovers what was told; then the commit, which
-- stays on its side and at each moment of which they recover that, or what was held too. Behind a compaction that the device
-- refused there is none
pub record CompactsFirst {D : Type 0} (honest : Type 0) (moments : D → Moments) (seen : D → Which → List ℕ) (old new : FactsIn D) : Type 0 where
  pub between : FactsIn D
  pub compaction : honest → Throughout (moments old.disk) (moments between.disk) (AllRecoverIn old.newest (told_state old))
  pub commit : honest → Throughout (moments between.disk) (moments new.disk) (AllRecoverEitherIn old.newest (told_state old) (held_state old))
  pub compacted : (between ≡ old) ⊎ (IsCompacted honest seen old between ⊎ (between.dead ≡ true))
  pub stays : (new.side ≡ between.side) × (new.generation ≡ between.generation)
  pub refused : between.dead ≡ true → new ≡ between

-- what a flush answers, and what stands after it; `count` is how many calls of the device have failed
pub record FlushAnswerIn {D T : Type 0} (honest : Type 0) (moments : D → Moments) (seen : D → Which → List ℕ) (count : D → ℕ) (old new : FactsIn D) (result : Result T FlushFault) : Type 0 where
  pub flushes : Flushes honest moments old new result
  pub in_order : old.dead ≡ false → CompactsFirst honest moments seen old new
  pub dead : IsErrOf result faults.Dead ↔ (old.dead ≡ true)
  pub out_of_turn : (ticket expected : ℕ) → IsErrOf result (faults.OutOfTurn ticket expected)
      ↔ ((old.dead ≡ false) × IsOutOfTurn (length old.told) old.tickets ticket expected)
  pub device : IsErrOf result faults.Device → Rises (count old.disk) (count new.disk)
  pub full : IsErrOf result faults.Full → Written old.form old.newest → (IsLong old.end old.size → ⊥) → IsFullIn old.newest old.end old.held
  pub too_long : IsErrOf result faults.Full → IsFullIn old.newest new.end old.held
      ⊎ ((Written old.form old.newest → ⊥) × IsFullIn old.newest HEADER_BYTES (kept_records old.state))
  pub old_version : IsErrOf result faults.OldVersion → (Written old.form old.newest → ⊥) × (old.generation ≡ 2 ^ 64 - 1)
  -- a compaction comes before the batch
  pub compacted : 0 < length old.held → OnOk result (IsBehind honest seen old new ⊎ IsBehindCompaction honest seen old new)
  -- what the device didn't refuse was refused before its first call, or behind a compaction
  pub unchanged : IfErr result (λ fault. fault ≢ faults.Device → (new ≡ old) ⊎ IsCompacted honest seen old new)
  pub no_call : Written old.form old.newest → (IsLong old.end old.size → ⊥) → IfErr result (λ fault. fault ≢ faults.Device → new ≡ old)
  -- no side is left where no compaction is due
  pub unneeded : Written old.form old.newest → (IsLong old.end old.size → ⊥)
      → (new.side ≡ old.side) × (new.generation ≡ old.generation) × (new.size ≡ old.size)
  pub unknown : (ticket : ℕ) → IsErrOf result (faults.Unknown ticket) → ⊥
  pub none : length old.held ≡ 0 → (new ≡ old) × (old.dead ≡ false → IsOk result)

-- what a site holds once what waits on a board was taken in: what it held, or else these drained records
abbrev pub HasTakenIn : {D : Type 0} → (old new : FactsIn D) → Type 0
HasTakenIn old new = ((0 < length old.held) × (new ≡ old)) ⊎ ((length old.held ≡ 0) × (notes : List (ℕ × Record)) × (new ≡ holding_in notes old))

-- what was written of all that waits: it was taken in and then flushed, once, and that flush's answer is told; or there was no
-- memory to take it in, and the site is as it was
abbrev pub IsWrittenIn : {D T : Type 0} → (honest : Type 0) → (moments : D → Moments) → (seen : D → Which → List ℕ) → (count : D → ℕ) → (old new : FactsIn D) → Result T FlushFault → Type 0
IsWrittenIn {D} honest moments seen count old new result =
    (IsErrOf result faults.OutOfMemory × (new ≡ old))
    ⊎ ((between : FactsIn D) × HasTakenIn old between × FlushAnswerIn honest moments seen count between new result)

-- ---- where version 2 is written

abbrev pub FlushAnswer : {D T : Type 0} → (honest : Type 0) → (moments : D → Moments) → (seen : D → Which → List ℕ) → (count : D → ℕ) → (old new : Facts D) → Result T FlushFault → Type 0
FlushAnswer honest moments seen count old new result = FlushAnswerIn honest moments seen count (in_form old) (in_form new) result

abbrev pub IsWritten : {D T : Type 0} → (honest : Type 0) → (moments : D → Moments) → (seen : D → Which → List ℕ) → (count : D → ℕ) → (old new : Facts D) → Result T FlushFault → Type 0
IsWritten honest moments seen count old new result = IsWrittenIn honest moments seen count (in_form old) (in_form new) result
