-- What a flush promises, at each of its exits.
use Rattle.std.proofs.Common.{◌≡◌, ◌≢◌, ◌⊎◌, ℕ, ◌<◌, Bool, true, false, List, ◌++◌, length, Result, Ok, Err, IfErr, IsErrOf, refl, sym, ap, subst, ◌∙◌, inl, inr, arith, append-nil}
use Rattle.st_disk.specs.Moments.{Moments, now, Throughout}
use Rattle.st_disk.proofs.MomentLaws.{started, then_goes, throughout_map}
use Rattle.st_records.specs.declared.version.Form.{Form}
use Rattle.st_records.specs.declared.record.Record.{Record}
use Rattle.st_state.specs.State.{StateMap, replay}
use Rattle.st_recovery.specs.Stored.{AllRecoverIn, AllRecoverEitherIn}
use Rattle.st_file.specs.declared.commit_fault.CommitFault.{CommitFault}
use Rattle.st_file.specs.declared.commit_fault.CommitFault.TheVariants as commits
use Rattle.bd_flusher.specs.declared.fault.FlushFault.{FlushFault}
use Rattle.bd_flusher.specs.declared.fault.FlushFault.TheVariants as faults
use Rattle.bd_flusher.specs.Faults.{fault_of}
use Rattle.bd_flusher.specs.Site.{FactsIn, IsSiteIn, KeepsRecords, told_state, held_state}
use Rattle.bd_flusher.specs.Flushing.{HasFlushed, Flushes}
use Rattle.bd_flusher.proofs.ImageLemmas.{first_of_either}
use Rattle.bd_flusher.proofs.SiteLemmas.{length_zero}

-- ---- moments

-- a compaction, and then a commit that may have come
pub tidied : {form : Form} (m n : StateMap) {m0 m1 : Moments} → Throughout m0 m1 (AllRecoverIn form m) → Throughout m0 m1 (AllRecoverEitherIn form m n)
tidied m n so_far = throughout_map so_far (λ sides all. first_of_either m n sides all)

pub then_committed : {form : Form} (m n : StateMap) {m0 m1 m2 : Moments} → Throughout m0 m1 (AllRecoverIn form m) → Throughout m1 m2 (AllRecoverEitherIn form m n) → Throughout m0 m2 (AllRecoverEitherIn form m n)
then_committed m n so_far more = then_goes (tidied m n so_far) more

-- the same of a site: its store has the state by what was told
pub site_moments : {D : Type 0} {honest : Type 0} {moments : D → Moments} (s : FactsIn D) {m0 m1 : Moments} → IsSiteIn honest moments s → Throughout m0 m1 (AllRecoverEitherIn s.newest s.state (replay s.state s.held))
    → Throughout m0 m1 (AllRecoverEitherIn s.newest (told_state s) (held_state s))
site_moments s {m0} {m1} is so_far = subst (λ (m : StateMap). Throughout m0 m1 (AllRecoverEitherIn s.newest m (replay m s.held))) is.folded so_far

-- a commit to the store that a compaction left, with the state and the form that it had
pub same_state : (m k : StateMap) (form other : Form) (held : List Record) {m0 m1 : Moments} → k ≡ m → other ≡ form
    → Throughout m0 m1 (AllRecoverEitherIn other k (replay k held)) → Throughout m0 m1 (AllRecoverEitherIn form m (replay m held))
same_state m k form other held {m0} {m1} same forms so_far =
    subst (λ (f : Form). Throughout m0 m1 (AllRecoverEitherIn f m (replay m held))) forms
    (subst (λ (n : StateMap). Throughout m0 m1 (AllRecoverEitherIn other n (replay n held))) same so_far)

-- ---- exits

pub err_is : {T : Type 0} (f g : FlushFault) → IsErrOf {T = T} (Err f) g → f ≡ g
err_is f g e = cc

pub not_both : (b : Bool) → b ≡ true → b ≡ false → ⊥
not_both b e f = cc

pub memory_is_not_device : faults.OutOfMemory ≡ faults.Device → ⊥
memory_is_not_device e = cc

pub dead_is_not_device : faults.Dead ≡ faults.Device → ⊥
dead_is_not_device e = cc

pub turn_is_not_device : (ticket expected : ℕ) → faults.OutOfTurn ticket expected ≡ faults.Device → ⊥
turn_is_not_device ticket expected e = cc

pub full_is_not_device : faults.Full ≡ faults.Device → ⊥
full_is_not_device e = cc

unknown_is_not_device : (ticket : ℕ) → faults.Unknown ticket ≡ faults.Device → ⊥
unknown_is_not_device ticket e = cc

old_is_not_device : faults.OldVersion ≡ faults.Device → ⊥
old_is_not_device e = cc

pub device_or_not : (fault : FlushFault) → (fault ≡ faults.Device) ⊎ (fault ≢ faults.Device)
device_or_not faults.Device = inl refl
device_or_not faults.OutOfMemory = inr memory_is_not_device
device_or_not (faults.OutOfTurn ticket expected) = inr (turn_is_not_device ticket expected)
device_or_not faults.Full = inr full_is_not_device
device_or_not faults.Dead = inr dead_is_not_device
device_or_not (faults.Unknown ticket) = inr (unknown_is_not_device ticket)
device_or_not faults.OldVersion = inr old_is_not_device

-- an answer of an earlier fault is none of this one's
pub dead_unchanged : {T : Type 0} (result : Result T FlushFault) (P : Type 0) → IsErrOf result faults.Dead → IfErr result (λ fault. fault ≢ faults.Device → P) → P
dead_unchanged (Ok x) P dead unchanged = absurd (ok_dead dead)
  where
    ok_dead : {T : Type 0} {x : T} → IsErrOf (Ok x) faults.Dead → ⊥
    ok_dead e = cc
dead_unchanged {T} (Err fault) P dead unchanged = unchanged (λ device. dead_is_not_device (sym (err_is {T = T} fault faults.Dead dead) ∙ device))

-- ---- how a commit's refusal is told

pub told_device : (fault : CommitFault) → fault_of fault ≡ faults.Device → fault ≡ commits.Device
told_device commits.Device e = refl
told_device commits.OutOfMemory e = absurd (memory_is_not_device e)
told_device commits.Full e = absurd (full_is_not_device e)
told_device commits.Dead e = absurd (dead_is_not_device e)
told_device commits.OldVersion e = absurd (old_is_not_device e)
told_device commits.GenerationsSpent e = absurd (old_is_not_device e)

memory_not : commits.OutOfMemory ≡ commits.Device → ⊥
memory_not e = cc

full_not : commits.Full ≡ commits.Device → ⊥
full_not e = cc

dead_not : commits.Dead ≡ commits.Device → ⊥
dead_not e = cc

old_not : commits.OldVersion ≡ commits.Device → ⊥
old_not e = cc

spent_not : commits.GenerationsSpent ≡ commits.Device → ⊥
spent_not e = cc

pub commit_device_or_not : (fault : CommitFault) → (fault ≡ commits.Device) ⊎ (fault ≢ commits.Device)
commit_device_or_not commits.Device = inl refl
commit_device_or_not commits.OutOfMemory = inr memory_not
commit_device_or_not commits.Full = inr full_not
commit_device_or_not commits.Dead = inr dead_not
commit_device_or_not commits.OldVersion = inr old_not
commit_device_or_not commits.GenerationsSpent = inr spent_not

keeps_all : {D : Type 0} (s : FactsIn D) → KeepsRecords s s
keeps_all s = record { newest = refl; opening = refl; state = refl; told = refl; tickets = refl; held = refl; ends = refl }

module _ {D : Type 0} (T : Type 0) (honest : Type 0) (moments : D → Moments) where
  -- it was refused, and the records are as before
  pub refused : (old new : FactsIn D) (fault : FlushFault) → (honest → Throughout (moments old.disk) (moments new.disk) (AllRecoverEitherIn old.newest (told_state old) (held_state old)))
      → KeepsRecords old new → (fault ≡ faults.Device → new.dead ≡ true) → (fault ≡ faults.Device) ⊎ (new.dead ≡ old.dead) → old.dead ≡ false → 0 < length old.held
      → Flushes {T = T} honest moments old new (Err fault)
  refused old new fault so_far kept device others was_alive some = record {
    any_moment = so_far;
    done = λ is_honest. tt;
    ok = tt;
    alive = tt;
    err = kept;
    device = λ e. device (err_is {T = T} fault faults.Device e);
    others = elim others [ inl e ↦ inl (ap Err e) | inr e ↦ inr e ];
    none = λ none. absurd (omega (arith, some, ap length none));
    was_dead = λ dead. absurd (not_both old.dead dead was_alive);
  }

  -- before anything was called
  pub refused_before : (s : FactsIn D) (fault : FlushFault) → IsSiteIn honest moments s → fault ≢ faults.Device → Flushes {T = T} honest moments s s (Err fault)
  refused_before s fault is not_device = record {
    any_moment = λ is_honest. started (moments s.disk) (is.recovers_either is_honest);
    done = λ is_honest. tt;
    ok = tt;
    alive = tt;
    err = keeps_all s;
    device = λ e. absurd (not_device (err_is {T = T} fault faults.Device e));
    others = inr refl;
    none = λ none. refl;
    was_dead = λ dead. refl;
  }

  -- nothing was held
  pub nothing_held : (s : FactsIn D) (x : T) → IsSiteIn honest moments s → length s.held ≡ 0 → s.dead ≡ false → Flushes honest moments s s (Ok x)
  nothing_held s x is none alive = record {
    any_moment = λ is_honest. started (moments s.disk) (is.recovers_either is_honest);
    done = λ is_honest. is.recovers is_honest alive;
    ok = record {
      newest = refl;
      opening = refl;
      told = sym (ap (λ l. s.told ++ l) (length_zero s.held none) ∙ append-nil s.told);
      tickets = length_zero s.tickets (is.each_ticket ∙ none);
      held = length_zero s.held none;
      ends = λ some. absurd (omega (arith, some, none));
    };
    alive = (alive, alive);
    err = tt;
    device = λ e. absurd (ok_err e);
    others = tt;
    none = λ nothing. refl;
    was_dead = λ dead. refl;
  }
    where
      ok_err : IsErrOf (Ok x) faults.Device → ⊥
      ok_err e = cc

  -- all that was held is told
  pub flushed : (old new : FactsIn D) (x : T) → (honest → Throughout (moments old.disk) (moments new.disk) (AllRecoverEitherIn old.newest (told_state old) (held_state old)))
      → (honest → AllRecoverIn old.newest (told_state new) (now (moments new.disk))) → HasFlushed old new → old.dead ≡ false → new.dead ≡ false → 0 < length old.held → Flushes honest moments old new (Ok x)
  flushed old new x so_far all has was_alive alive some = record {
    any_moment = so_far;
    done = all;
    ok = has;
    alive = (was_alive, alive);
    err = tt;
    device = λ e. absurd (ok_err e);
    others = tt;
    none = λ none. absurd (omega (arith, some, ap length none));
    was_dead = λ dead. absurd (not_both old.dead dead was_alive);
  }
    where
      ok_err : IsErrOf (Ok x) faults.Device → ⊥
      ok_err e = cc
