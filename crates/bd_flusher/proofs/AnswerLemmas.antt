-- What a flush answers, at each of its exits.
use Rattle.std.proofs.Common.{◌≡◌, ◌≢◌, ◌⊎◌, ◌↔◌, ℕ, ◌-◌, ◌<◌, ◌^◌, Bool, true, false, List, ◌++◌, length, Ok, Err, IsErrOf, refl, sym, ap, subst, ◌∙◌, inl, inr, arith}
use Rattle.std.proofs.lemmas.Option.{slice_get_within}
use Rattle.st_disk.specs.declared.which.Which.{Which}
use Rattle.st_disk.specs.Crash.{other}
use Rattle.st_disk.specs.Moments.{Moments, now, Throughout}
use Rattle.st_disk.specs.Faults.{Rises}
use Rattle.st_disk.proofs.MomentLaws.{started, at_end}
use Rattle.st_records.specs.declared.version.Form.{Form}
use Rattle.st_records.specs.declared.record.Record.{Record}
use Rattle.st_state.specs.State.{StateMap, replay}
use Rattle.st_state.specs.Keepable.{kept_records}
use Rattle.st_file.specs.declared.layout.TheConstants.{HEADER_BYTES}
use Rattle.st_file.specs.declared.commit_fault.CommitFault.{CommitFault}
use Rattle.st_file.specs.declared.commit_fault.CommitFault.TheVariants as commits
use Rattle.st_file.specs.Grown.{IsFullIn}
use Rattle.st_file.specs.Side.{HoldsUpToIn}
use Rattle.st_recovery.specs.Stored.{AllRecoverIn, AllRecoverEitherIn}
use Rattle.bd_flusher.specs.declared.fault.FlushFault.{FlushFault}
use Rattle.bd_flusher.specs.declared.fault.FlushFault.TheVariants as faults
use Rattle.bd_flusher.specs.Faults.{fault_of}
use Rattle.bd_flusher.specs.Parts.{Written}
use Rattle.bd_flusher.specs.Site.{FactsIn, IsSiteIn, KeepsRecords, told_state, held_state}
use Rattle.bd_flusher.specs.Tidying.{IsLong, IsCompacted}
use Rattle.bd_flusher.specs.Flushing.{IsBehind, IsBehindCompaction, HasFlushed, CompactsFirst, FlushAnswerIn}
use Rattle.bd_flusher.specs.Turns.{AreInTurn, IsOutOfTurn}
use Rattle.bd_flusher.proofs.TurnLemmas.{in_turn_none, out_of_turn_told}
use Rattle.bd_flusher.proofs.CompactionLemmas.{then_behind, up_to}
use Rattle.bd_flusher.proofs.FlushLemmas.{not_both, err_is, device_or_not, commit_device_or_not, told_device, memory_is_not_device, dead_is_not_device, turn_is_not_device, full_is_not_device, then_committed, tidied, site_moments, same_state, refused, refused_before, nothing_held, flushed}

-- ---- how a refusal is told

dead_is_not_full : faults.Dead ≡ faults.Full → ⊥
dead_is_not_full e = cc

full_is_not_dead : faults.Full ≡ faults.Dead → ⊥
full_is_not_dead e = cc

told_dead : (fault : CommitFault) → fault_of fault ≡ faults.Dead → fault ≡ commits.Dead
told_dead commits.Device e = absurd (dead_is_not_device (sym e))
told_dead commits.OutOfMemory e = absurd (memory_is_not_dead e)
  where
    memory_is_not_dead : faults.OutOfMemory ≡ faults.Dead → ⊥
    memory_is_not_dead e = cc
told_dead commits.Full e = absurd (full_is_not_dead e)
told_dead commits.Dead e = refl
told_dead commits.OldVersion e = absurd (old_is_not_dead e)
  where
    old_is_not_dead : faults.OldVersion ≡ faults.Dead → ⊥
    old_is_not_dead e = cc
told_dead commits.GenerationsSpent e = absurd (old_is_not_dead e)
  where
    old_is_not_dead : faults.OldVersion ≡ faults.Dead → ⊥
    old_is_not_dead e = cc

told_full : (fault : CommitFault) → fault_of fault ≡ faults.Full → fault ≡ commits.Full
told_full commits.Device e = absurd (full_is_not_device (sym e))
told_full commits.OutOfMemory e = absurd (memory_is_not_full e)
  where
    memory_is_not_full : faults.OutOfMemory ≡ faults.Full → ⊥
    memory_is_not_full e = cc
told_full commits.Full e = refl
told_full commits.Dead e = absurd (dead_is_not_full e)
told_full commits.OldVersion e = absurd (old_is_not_full e)
  where
    old_is_not_full : faults.OldVersion ≡ faults.Full → ⊥
    old_is_not_full e = cc
told_full commits.GenerationsSpent e = absurd (old_is_not_full e)
  where
    old_is_not_full : faults.OldVersion ≡ faults.Full → ⊥
    old_is_not_full e = cc

told_old : (fault : CommitFault) → fault_of fault ≡ faults.OldVersion → (fault ≡ commits.OldVersion) ⊎ (fault ≡ commits.GenerationsSpent)
told_old commits.Device e = absurd (device_is_not_old e)
  where
    device_is_not_old : faults.Device ≡ faults.OldVersion → ⊥
    device_is_not_old e = cc
told_old commits.OutOfMemory e = absurd (memory_is_not_old e)
  where
    memory_is_not_old : faults.OutOfMemory ≡ faults.OldVersion → ⊥
    memory_is_not_old e = cc
told_old commits.Full e = absurd (full_is_not_old e)
  where
    full_is_not_old : faults.Full ≡ faults.OldVersion → ⊥
    full_is_not_old e = cc
told_old commits.Dead e = absurd (dead_is_not_old e)
  where
    dead_is_not_old : faults.Dead ≡ faults.OldVersion → ⊥
    dead_is_not_old e = cc
told_old commits.OldVersion e = inl refl
told_old commits.GenerationsSpent e = inr refl

-- a commit's refusal is none of a ticket
no_turn : (fault : CommitFault) (ticket expected : ℕ) → fault_of fault ≡ faults.OutOfTurn ticket expected → ⊥
no_turn commits.Device ticket expected e = cc
no_turn commits.OutOfMemory ticket expected e = cc
no_turn commits.Full ticket expected e = cc
no_turn commits.Dead ticket expected e = cc
no_turn commits.OldVersion ticket expected e = cc
no_turn commits.GenerationsSpent ticket expected e = cc

no_unknown : (fault : CommitFault) (ticket : ℕ) → fault_of fault ≡ faults.Unknown ticket → ⊥
no_unknown commits.Device ticket e = cc
no_unknown commits.OutOfMemory ticket e = cc
no_unknown commits.Full ticket e = cc
no_unknown commits.Dead ticket e = cc
no_unknown commits.OldVersion ticket e = cc
no_unknown commits.GenerationsSpent ticket e = cc

pub false_is_not_true : false ≡ true → ⊥
false_is_not_true e = cc

-- ---- refused before anything was called

-- whatever is told then
pub record IsEarly (is_dead : Bool) (told : ℕ) (tickets : List ℕ) (fault : FlushFault) : Type 0 where
  pub dead : (fault ≡ faults.Dead) ↔ (is_dead ≡ true)
  pub out_of_turn : (ticket expected : ℕ) → (fault ≡ faults.OutOfTurn ticket expected) ↔ ((is_dead ≡ false) × IsOutOfTurn told tickets ticket expected)
  pub device : fault ≢ faults.Device
  pub full : fault ≢ faults.Full
  pub old_version : fault ≢ faults.OldVersion
  pub unknown : (ticket : ℕ) → fault ≢ faults.Unknown ticket

pub early_turn : (dead : Bool) (told : ℕ) (tickets : List ℕ) (t e : ℕ) → dead ≡ false → IsOutOfTurn told tickets t e → IsEarly dead told tickets (faults.OutOfTurn t e)
early_turn dead told tickets t e alive one = record {
  dead = (λ same. absurd (turn_is_not_dead same), λ is. absurd (not_both dead is alive));
  out_of_turn = λ ticket expected. out_of_turn_told dead told tickets t e ticket expected alive one;
  device = turn_is_not_device t e;
  full = λ same. turn_is_not_full same;
  old_version = λ same. turn_is_not_old same;
  unknown = λ ticket same. turn_is_not_unknown ticket same;
}
  where
    turn_is_not_dead : faults.OutOfTurn t e ≡ faults.Dead → ⊥
    turn_is_not_dead same = cc

    turn_is_not_full : faults.OutOfTurn t e ≡ faults.Full → ⊥
    turn_is_not_full same = cc

    turn_is_not_old : faults.OutOfTurn t e ≡ faults.OldVersion → ⊥
    turn_is_not_old same = cc

    turn_is_not_unknown : (ticket : ℕ) → faults.OutOfTurn t e ≡ faults.Unknown ticket → ⊥
    turn_is_not_unknown ticket same = cc

pub early_memory : (dead : Bool) (told : ℕ) (tickets : List ℕ) → dead ≡ false → AreInTurn told tickets → IsEarly dead told tickets faults.OutOfMemory
early_memory dead told tickets alive in_turn = record {
  dead = (λ e. absurd (no_dead e), λ is. absurd (not_both dead is alive));
  out_of_turn = λ ticket expected. (λ e. absurd (no_turn commits.OutOfMemory ticket expected e), λ both. absurd (in_turn_none told tickets ticket expected in_turn both.1));
  device = memory_is_not_device;
  full = λ e. no_full e;
  old_version = λ e. no_old e;
  unknown = no_unknown commits.OutOfMemory;
}
  where
    no_dead : faults.OutOfMemory ≡ faults.Dead → ⊥
    no_dead e = cc

    no_full : faults.OutOfMemory ≡ faults.Full → ⊥
    no_full e = cc

    no_old : faults.OutOfMemory ≡ faults.OldVersion → ⊥
    no_old e = cc

-- ---- what was called

-- a compaction that wasn't refused left this
pub record HasTidied {D : Type 0} (honest : Type 0) (moments : D → Moments) (seen : D → Which → List ℕ) (count : D → ℕ) (old mid : FactsIn D) : Type 0 where
  pub any_moment : honest → Throughout (moments old.disk) (moments mid.disk) (AllRecoverIn old.newest old.state)
  pub records : KeepsRecords old mid
  pub alive : mid.dead ≡ false
  pub version : Written mid.form mid.newest
  pub success : count mid.disk ≡ count old.disk
  pub compacted : (mid ≡ old) ⊎ IsCompacted honest seen old mid
  pub unneeded : Written old.form old.newest → (IsLong old.end old.size → ⊥) → mid ≡ old

-- a compaction was refused so
pub record IsRefusedTidying {D : Type 0} (honest : Type 0) (moments : D → Moments) (count : D → ℕ) (old new : FactsIn D) (fault : FlushFault) : Type 0 where
  pub any_moment : honest → Throughout (moments old.disk) (moments new.disk) (AllRecoverIn old.newest old.state)
  pub records : KeepsRecords old new
  pub dead : fault ≡ faults.Dead → old.dead ≡ true
  pub device : fault ≡ faults.Device → (new.dead ≡ true) × Rises (count old.disk) (count new.disk)
  pub unchanged : fault ≢ faults.Device → new ≡ old
  pub cause : fault ≢ faults.Device → fault ≢ faults.Dead → Written old.form old.newest → ⊥
  pub told : (commit : CommitFault) × (fault ≡ fault_of commit)
  pub old_version : fault ≡ faults.OldVersion → (Written old.form old.newest → ⊥) × (old.generation ≡ 2 ^ 64 - 1)
  pub full : fault ≡ faults.Full → IsFullIn old.newest HEADER_BYTES (kept_records old.state)
  pub unneeded : Written old.form old.newest → (IsLong old.end old.size → ⊥) → ⊥

-- the calls of a commit of these records, and the side on which it stays
pub record HasCalled {D : Type 0} (honest : Type 0) (moments : D → Moments) (mid new : FactsIn D) (held : List Record) : Type 0 where
  pub any_moment : honest → Throughout (moments mid.disk) (moments new.disk) (AllRecoverEitherIn mid.newest mid.state (replay mid.state held))
  pub side : new.side ≡ mid.side
  pub form : new.form ≡ mid.form
  pub generation : new.generation ≡ mid.generation
  pub size : new.size ≡ mid.size

-- a commit was refused so
pub record IsRefusedCommit {D : Type 0} (count : D → ℕ) (old mid new : FactsIn D) (fault : CommitFault) : Type 0 where
  pub records : KeepsRecords old new
  pub device : fault ≡ commits.Device → (new.dead ≡ true) × Rises (count mid.disk) (count new.disk)
  pub unchanged : fault ≢ commits.Device → new ≡ mid
  pub dead : fault ≡ commits.Dead → mid.dead ≡ true
  pub full : fault ≡ commits.Full → IsFullIn mid.newest mid.end old.held
  pub old_version : fault ≡ commits.OldVersion → Written mid.form mid.newest → ⊥
  pub spent : fault ≡ commits.GenerationsSpent → ⊥

-- what a store's compaction says, said of what was told
pub of_told : {D : Type 0} {honest : Type 0} {moments : D → Moments} (old : FactsIn D) {m0 m1 : Moments} → IsSiteIn honest moments old → Throughout m0 m1 (AllRecoverIn old.newest old.state) → Throughout m0 m1 (AllRecoverIn old.newest (told_state old))
of_told old {m0} {m1} is so_far = subst (λ (m : StateMap). Throughout m0 m1 (AllRecoverIn old.newest m)) is.folded so_far

module _ {D : Type 0} (T : Type 0) (honest : Type 0) (moments : D → Moments) (seen : D → Which → List ℕ) (count : D → ℕ) where
  -- nothing was called
  none_called : (s : FactsIn D) → IsSiteIn honest moments s → s.dead ≡ false → CompactsFirst honest moments seen s s
  none_called s is alive = record {
    between = s;
    compaction = λ is_honest. started (moments s.disk) (is.recovers is_honest alive);
    commit = λ is_honest. started (moments s.disk) (is.recovers_either is_honest);
    compacted = inl refl;
    stays = (refl, refl);
    refused = λ dead. refl;
  }

  pub refused_early : (s : FactsIn D) (fault : FlushFault) → IsSiteIn honest moments s → (length s.held ≡ 0 → s.dead ≡ false → ⊥) → IsEarly s.dead (length s.told) s.tickets fault
      → FlushAnswerIn {T = T} honest moments seen count s s (Err fault)
  refused_early s fault is some early = record {
    flushes = refused_before T honest moments s fault is early.device;
    in_order = none_called s is;
    dead = (λ e. early.dead.0 (err_is {T = T} fault faults.Dead e), λ e. ap Err (early.dead.1 e));
    out_of_turn = λ ticket expected. (
      λ e. (early.out_of_turn ticket expected).0 (err_is {T = T} fault (faults.OutOfTurn ticket expected) e),
      λ both. ap Err ((early.out_of_turn ticket expected).1 both),
    );
    device = λ e. absurd (early.device (err_is {T = T} fault faults.Device e));
    full = λ e two short. absurd (early.full (err_is {T = T} fault faults.Full e));
    too_long = λ e. absurd (early.full (err_is {T = T} fault faults.Full e));
    old_version = λ e. absurd (early.old_version (err_is {T = T} fault faults.OldVersion e));
    compacted = λ held. tt;
    unchanged = λ other. inl refl;
    no_call = λ two short other. refl;
    unneeded = λ two short. (refl, refl, refl);
    unknown = λ ticket e. early.unknown ticket (err_is {T = T} fault (faults.Unknown ticket) e);
    none = λ nothing. (refl, λ alive. absurd (some nothing alive));
  }

  pub none_to_write : (s : FactsIn D) (x : T) → IsSiteIn honest moments s → length s.held ≡ 0 → s.dead ≡ false → FlushAnswerIn {T = T} honest moments seen count s s (Ok x)
  none_to_write s x is nothing alive = record {
    flushes = nothing_held T honest moments s x is nothing alive;
    in_order = none_called s is;
    dead = (λ e. absurd (ok_err faults.Dead e), λ e. absurd (not_both s.dead e alive));
    out_of_turn = λ ticket expected. (λ e. absurd (ok_err (faults.OutOfTurn ticket expected) e), λ both. absurd (no_ticket both.1));
    device = λ e. absurd (ok_err faults.Device e);
    full = λ e two short. absurd (ok_err faults.Full e);
    too_long = λ e. absurd (ok_err faults.Full e);
    old_version = λ e. absurd (ok_err faults.OldVersion e);
    compacted = λ some. absurd (omega (arith, some, nothing));
    unchanged = tt;
    no_call = λ two short. tt;
    unneeded = λ two short. (refl, refl, refl);
    unknown = λ ticket e. ok_err (faults.Unknown ticket) e;
    none = λ held. (refl, λ still. refl);
  }
    where
      ok_err : (fault : FlushFault) → IsErrOf (Ok x) fault → ⊥
      ok_err fault e = cc

      no_ticket : {ticket expected : ℕ} → IsOutOfTurn (length s.told) s.tickets ticket expected → ⊥
      no_ticket one = omega (arith, slice_get_within s.tickets one.place _ one.there, is.each_ticket, nothing)

  pub refused_tidying : (old new : FactsIn D) (fault : FlushFault) → IsSiteIn honest moments old → old.dead ≡ false → 0 < length old.held → AreInTurn (length old.told) old.tickets
      → IsRefusedTidying honest moments count old new fault → FlushAnswerIn {T = T} honest moments seen count old new (Err fault)
  refused_tidying old new fault is alive some in_turn t = record {
    flushes = refused T honest moments old new fault so_far t.records (λ e. (t.device e).0)
        (elim (device_or_not fault) [ inl e ↦ inl e | inr other ↦ inr (ap (λ (s : FactsIn D). s.dead) (t.unchanged other)) ]) alive some;
    in_order = λ still. elim (device_or_not fault) [
      | inl e ↦ record {
        between = new;
        compaction = λ is_honest. of_told old is (t.any_moment is_honest);
        commit = λ is_honest. started (moments new.disk) (at_end (so_far is_honest));
        compacted = inr (inr (t.device e).0);
        stays = (refl, refl);
        refused = λ dead. refl;
      }
      | inr other ↦ subst (CompactsFirst honest moments seen old) (sym (t.unchanged other)) (none_called old is alive)
    ];
    dead = (λ e. t.dead (err_is {T = T} fault faults.Dead e), λ dead. absurd (not_both old.dead dead alive));
    out_of_turn = λ ticket expected. (
      λ e. absurd (no_turn t.told.0 ticket expected (sym t.told.1 ∙ err_is {T = T} fault (faults.OutOfTurn ticket expected) e)),
      λ both. absurd (in_turn_none (length old.told) old.tickets ticket expected in_turn both.1),
    );
    device = λ e. (t.device (err_is {T = T} fault faults.Device e)).1;
    full = λ e two short. absurd (t.unneeded two short);
    too_long = λ e. let full = err_is {T = T} fault faults.Full e in
        inr (t.cause (λ device. full_is_not_device (sym full ∙ device)) (λ dead. full_is_not_dead (sym full ∙ dead)), t.full full);
    old_version = λ e. t.old_version (err_is {T = T} fault faults.OldVersion e);
    compacted = λ held. tt;
    unchanged = λ other. inl (t.unchanged other);
    no_call = λ two short other. t.unchanged other;
    unneeded = λ two short. absurd (t.unneeded two short);
    unknown = λ ticket e. no_unknown t.told.0 ticket (sym t.told.1 ∙ err_is {T = T} fault (faults.Unknown ticket) e);
    none = λ nothing. absurd (omega (arith, some, nothing));
  }
    where
      so_far : honest → Throughout (moments old.disk) (moments new.disk) (AllRecoverEitherIn old.newest (told_state old) (held_state old))
      so_far is_honest = tidied (told_state old) (held_state old) (of_told old is (t.any_moment is_honest))

  -- ---- behind a compaction

  module _ (old mid new : FactsIn D) (is : IsSiteIn honest moments old) (was_alive : old.dead ≡ false) (some : 0 < length old.held) (t : HasTidied honest moments seen count old mid) (called : HasCalled honest moments mid new old.held) where
    commit_moments : honest → Throughout (moments mid.disk) (moments new.disk) (AllRecoverEitherIn old.newest (told_state old) (held_state old))
    commit_moments is_honest = site_moments old is (same_state old.state mid.state old.newest mid.newest old.held t.records.state t.records.newest (called.any_moment is_honest))

    all_moments : honest → Throughout (moments old.disk) (moments new.disk) (AllRecoverEitherIn old.newest (told_state old) (held_state old))
    all_moments is_honest = then_committed (told_state old) (held_state old) (of_told old is (t.any_moment is_honest)) (commit_moments is_honest)

    by_both : CompactsFirst honest moments seen old new
    by_both = record {
      between = mid;
      compaction = λ is_honest. of_told old is (t.any_moment is_honest);
      commit = commit_moments;
      compacted = elim t.compacted [ inl same ↦ inl same | inr moved ↦ inr (inl moved) ];
      stays = (called.side, called.generation);
      refused = λ dead. absurd (not_both mid.dead dead t.alive);
    }

    where_it_was : Written old.form old.newest → (IsLong old.end old.size → ⊥) → (new.side ≡ old.side) × (new.generation ≡ old.generation) × (new.size ≡ old.size)
    where_it_was two short =
        let same = t.unneeded two short in (
          called.side ∙ ap (λ (s : FactsIn D). s.side) same,
          called.generation ∙ ap (λ (s : FactsIn D). s.generation) same,
          called.size ∙ ap (λ (s : FactsIn D). s.size) same,
        )

    pub refused_commit : (fault : CommitFault) → AreInTurn (length old.told) old.tickets → IsRefusedCommit count old mid new fault → FlushAnswerIn {T = T} honest moments seen count old new (Err (fault_of fault))
    refused_commit fault in_turn r = record {
      flushes = refused T honest moments old new (fault_of fault) all_moments r.records (λ e. (r.device (told_device fault e)).0)
          (elim (commit_device_or_not fault) [ inl e ↦ inl (ap fault_of e) | inr other ↦ inr (ap (λ (s : FactsIn D). s.dead) (r.unchanged other) ∙ t.alive ∙ sym was_alive) ]) was_alive some;
      in_order = λ alive. by_both;
      dead = (λ e. absurd (not_both mid.dead (r.dead (told_dead fault (err_is {T = T} (fault_of fault) faults.Dead e))) t.alive), λ dead. absurd (not_both old.dead dead was_alive));
      out_of_turn = λ ticket expected. (
        λ e. absurd (no_turn fault ticket expected (err_is {T = T} (fault_of fault) (faults.OutOfTurn ticket expected) e)),
        λ both. absurd (in_turn_none (length old.told) old.tickets ticket expected in_turn both.1),
      );
      device = λ e. subst (λ (n : ℕ). Rises n (count new.disk)) t.success (r.device (told_device fault (err_is {T = T} (fault_of fault) faults.Device e))).1;
      full = λ e two short. subst (λ (s : FactsIn D). IsFullIn old.newest s.end old.held) (t.unneeded two short) (is_full e);
      too_long = λ e. inl (subst (λ (s : FactsIn D). IsFullIn old.newest s.end old.held) (sym (r.unchanged (λ device. full_is_not_device (sym (told e) ∙ ap fault_of device)))) (is_full e));
      old_version = λ e. elim (told_old fault (err_is {T = T} (fault_of fault) faults.OldVersion e)) [
        | inl old_one ↦ absurd (r.old_version old_one t.version)
        | inr spent ↦ absurd (r.spent spent)
      ];
      compacted = λ held. tt;
      unchanged = λ other. elim (commit_device_or_not fault) [
        | inl device ↦ absurd (other (ap fault_of device))
        | inr not_device ↦ elim t.compacted [
          | inl same ↦ inl (r.unchanged not_device ∙ same)
          | inr moved ↦ inr (subst (IsCompacted honest seen old) (sym (r.unchanged not_device)) moved)
        ]
      ];
      no_call = λ two short other. elim (commit_device_or_not fault) [
        | inl device ↦ absurd (other (ap fault_of device))
        | inr not_device ↦ r.unchanged not_device ∙ t.unneeded two short
      ];
      unneeded = where_it_was;
      unknown = λ ticket e. no_unknown fault ticket (err_is {T = T} (fault_of fault) (faults.Unknown ticket) e);
      none = λ nothing. absurd (omega (arith, some, nothing));
    }
      where
        told : IsErrOf {T = T} (Err (fault_of fault)) faults.Full → fault_of fault ≡ faults.Full
        told e = err_is {T = T} (fault_of fault) faults.Full e

        is_full : IsErrOf {T = T} (Err (fault_of fault)) faults.Full → IsFullIn old.newest mid.end old.held
        is_full e = subst (λ (f : Form). IsFullIn f mid.end old.held) t.records.newest (r.full (told_full fault (told e)))

    -- where the batch stands
    stands_behind : (honest → (before : List Record) → HoldsUpToIn (seen mid.disk mid.side) mid.form mid.generation before mid.end
        → HoldsUpToIn (seen new.disk mid.side) mid.form mid.generation (before ++ old.held) new.end)
        → IsBehind honest seen old new ⊎ IsBehindCompaction honest seen old new
    stands_behind behind = elim t.compacted [
      | inl same ↦ inl (record {
        side = called.side ∙ ap (λ (s : FactsIn D). s.side) same;
        form = called.form ∙ ap (λ (s : FactsIn D). s.form) same;
        generation = called.generation ∙ ap (λ (s : FactsIn D). s.generation) same;
        size = called.size ∙ ap (λ (s : FactsIn D). s.size) same;
        holds = λ is_honest. subst
            (λ (s : FactsIn D). (before : List Record) → HoldsUpToIn (seen s.disk s.side) s.form s.generation before s.end → HoldsUpToIn (seen new.disk s.side) s.form s.generation (before ++ old.held) new.end)
            same (behind is_honest);
      })
      | inr moved ↦ inr (record {
        changed = record {
          side = called.side ∙ moved.changed.side;
          form = called.form ∙ moved.changed.form;
          generation = called.generation ∙ moved.changed.generation;
          holds = λ is_honest.
              then_behind (seen mid.disk) (seen new.disk) mid.end new.end old.held moved.changed.side moved.changed.form moved.changed.generation
              (behind is_honest) (kept_records old.state) (moved.changed.holds is_honest);
        };
        size = λ is_honest. (seen mid.disk (other old.side), up_to (called.size ∙ moved.size) (moved.changed.holds is_honest));
      })
    ]

    pub committed : (x : T) → IsSiteIn honest moments new → new.dead ≡ false → HasFlushed old new → AreInTurn (length old.told) old.tickets
        → (honest → (before : List Record) → HoldsUpToIn (seen mid.disk mid.side) mid.form mid.generation before mid.end
        → HoldsUpToIn (seen new.disk mid.side) mid.form mid.generation (before ++ old.held) new.end)
        → FlushAnswerIn {T = T} honest moments seen count old new (Ok x)
    committed x is_new alive has in_turn behind = record {
      flushes = flushed T honest moments old new x all_moments (λ is_honest. subst (λ (f : Form). AllRecoverIn f (told_state new) (now (moments new.disk))) has.newest (is_new.recovers is_honest alive)) has was_alive alive some;
      in_order = λ still. by_both;
      dead = (λ e. absurd (ok_err faults.Dead e), λ dead. absurd (not_both old.dead dead was_alive));
      out_of_turn = λ ticket expected. (λ e. absurd (ok_err (faults.OutOfTurn ticket expected) e), λ both. absurd (in_turn_none (length old.told) old.tickets ticket expected in_turn both.1));
      device = λ e. absurd (ok_err faults.Device e);
      full = λ e two short. absurd (ok_err faults.Full e);
      too_long = λ e. absurd (ok_err faults.Full e);
      old_version = λ e. absurd (ok_err faults.OldVersion e);
      compacted = λ held. stands_behind behind;
      unchanged = tt;
      no_call = λ two short. tt;
      unneeded = where_it_was;
      unknown = λ ticket e. ok_err (faults.Unknown ticket) e;
      none = λ nothing. absurd (omega (arith, some, nothing));
    }
      where
        ok_err : (fault : FlushFault) → IsErrOf (Ok x) fault → ⊥
        ok_err fault e = cc
