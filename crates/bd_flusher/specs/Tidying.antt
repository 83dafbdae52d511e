-- When a site's store is compacted, and what a compaction leaves. Own.
use Rattle.std.specs.Prelude.{◌≡◌, ◌≢◌, ◌⊎◌, ◌↔◌, ℕ, ◌+◌, ◌-◌, ◌<◌, ◌^◌, true, false, List, Result, IsOk, IfErr, OnOk, IsErrOf}
use Rattle.st_disk.specs.declared.which.Which.{Which}
use Rattle.st_disk.specs.Crash.{other}
use Rattle.st_disk.specs.Moments.{Moments, Throughout}
use Rattle.st_disk.specs.Faults.{Rises}
use Rattle.st_records.specs.declared.record.Record.{Record}
use Rattle.st_state.specs.Keepable.{kept_records}
use Rattle.st_file.specs.declared.layout.TheConstants.{HEADER_BYTES}
use Rattle.st_file.specs.declared.commit_fault.CommitFault.{CommitFault}
use Rattle.st_file.specs.Grown.{IsFullIn}
use Rattle.st_file.specs.Side.{HoldsUpToIn}
use Rattle.st_recovery.specs.Stored.{AllRecoverIn}
use Rattle.bd_flusher.specs.declared.fault.FlushFault.{FlushFault}
use Rattle.bd_flusher.specs.declared.fault.FlushFault.TheVariants as faults
use Rattle.bd_flusher.specs.Faults.{fault_of}
use Rattle.bd_flusher.specs.Parts.{Written}
use Rattle.bd_flusher.specs.Site.{FactsIn, Facts, in_form, KeepsRecords, told_state}

-- a side that ends here is to be compacted: it is longer than 2 ^ 20 bytes and than twice what it was
abbrev pub IsLong : (end size : ℕ) → Type 0
IsLong end size = (2 ^ 20 < end) × (size + size < end)

-- the site has gone on on the other side, of the form that is written and of the next generation, which holds just these records
pub record IsOnOtherSide {D : Type 0} (honest : Type 0) (seen : D → Which → List ℕ) (old new : FactsIn D) (held : List Record) : Type 0 where
  pub side : new.side ≡ other old.side
  pub form : new.form ≡ old.newest
  pub generation : new.generation ≡ old.generation + 1
  pub holds : honest → HoldsUpToIn (seen new.disk (other old.side)) old.newest (old.generation + 1) held new.end

-- it was compacted: the other side holds a kept record for each entry of its state, and that side's length is kept
pub record IsCompacted {D : Type 0} (honest : Type 0) (seen : D → Which → List ℕ) (old new : FactsIn D) : Type 0 where
  pub changed : IsOnOtherSide honest seen old new (kept_records old.state)
  pub size : new.size ≡ new.end

-- what a call of `tidy` answers, and what stands after it; `count` is how many calls of the device have failed
pub record TidyAnswerIn {D T : Type 0} (honest : Type 0) (moments : D → Moments) (seen : D → Which → List ℕ) (count : D → ℕ) (old new : FactsIn D) (result : Result T FlushFault) : Type 0 where
  -- at every moment each pair recovers what was told
  pub any_moment : honest → old.dead ≡ false → Throughout (moments old.disk) (moments new.disk) (AllRecoverIn old.newest (told_state old))
  pub records : KeepsRecords old new
  pub alive : OnOk result ((old.dead ≡ false) × (new.dead ≡ false))
  pub version : OnOk result (Written new.form new.newest)
  pub unneeded : old.dead ≡ false → Written old.form old.newest → (IsLong old.end old.size → ⊥) → IsOk result × (new ≡ old)
  pub dead : IsErrOf result faults.Dead ↔ (old.dead ≡ true)
  pub device : IsErrOf result faults.Device → (new.dead ≡ true) × Rises (count old.disk) (count new.disk)
  pub unchanged : IfErr result (λ fault. fault ≢ faults.Device → new ≡ old)
  -- what isn't the device's, nor an earlier one's, is told of a side of another form alone
  pub cause : IfErr result (λ fault. fault ≢ faults.Device → fault ≢ faults.Dead → Written old.form old.newest → ⊥)
  pub told : IfErr result (λ told. (fault : CommitFault) × (told ≡ fault_of fault))
  pub old_version : IsErrOf result faults.OldVersion → (Written old.form old.newest → ⊥) × (old.generation ≡ 2 ^ 64 - 1)
  pub full : IsErrOf result faults.Full → IsFullIn old.newest HEADER_BYTES (kept_records old.state)
  -- the store has gone on where it was, or on the other side
  pub compacted : OnOk result ((new ≡ old) ⊎ IsCompacted honest seen old new)

-- ---- where version 2 is written

abbrev pub TidyAnswer : {D T : Type 0} → (honest : Type 0) → (moments : D → Moments) → (seen : D → Which → List ℕ) → (count : D → ℕ) → (old new : Facts D) → Result T FlushFault → Type 0
TidyAnswer honest moments seen count old new result = TidyAnswerIn honest moments seen count (in_form old) (in_form new) result
