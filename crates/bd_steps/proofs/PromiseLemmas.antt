-- What is true of a world is what is promised.
use Rattle.std.proofs.Common.{◌≡◌, ◌⊎◌, ℕ, ◌<◌, ◌≤◌, List, Contains, refl, subst, inl, inr, arith}
use Rattle.std.proofs.Math.Logic.{∥∥₁_elim, ∥∥₁_map}
use Rattle.std.proofs.Props.{props}
use Rattle.std.specs.FinMap as map
use Rattle.st_records.specs.declared.version.Form.{Form}
use Rattle.st_records.specs.declared.record.Record.TheVariants as records
use Rattle.st_state.specs.State.{StateMap}
use Rattle.st_recovery.specs.Recovers.{RecoversIn, recovered}
use Rattle.st_recovery.proofs.RecoversLemmas.{one_recovery_in}
use Rattle.bd_flusher.specs.declared.site.receipt.Receipt.{Receipt}
use Rattle.bd_flusher.specs.Batches.{StandsAt, IsInBatch}
use Rattle.bd_steps.specs.World.{World, state_after}
use Rattle.bd_steps.specs.OutOfDate.{IsRemadeBy, IsDoneOrRemade, IsCutOff, IsRemadeAtOnce}
use Rattle.bd_steps.specs.OneBatch.{NamesItsBatch}
use Rattle.bd_steps.specs.Interleavings.{Survives, KeepsPromise, EveryInterleavingIn, EachCutOffIn}
use Rattle.bd_flusher.proofs.ListLemmas.{all_at, if_map}
use Rattle.bd_flusher.proofs.BatchLemmas.{one_batch}
use Rattle.bd_steps.proofs.HistoryLemmas.{stands_once, not_over}
use Rattle.bd_steps.proofs.JudgeLemmas.{IsUnfinished, unfinished_from, never_up_to_date}
use Rattle.bd_steps.proofs.StepLemmas.{IsSound, IsGiven, IsCleared, Either, all_keep, opened_sound}

recovered_is : (m n : StateMap) → recovered m ≡ recovered n → m ≡ n
recovered_is m n e = cc

-- a pair recovers one state
one_state : (form : Form) (a b : List ℕ) (m n : StateMap) → RecoversIn form a b m → RecoversIn form a b n → m ≡ n
one_state form a b m n is other = recovered_is m n (one_recovery_in form a b (recovered m) (recovered n) is other)

-- ---- a prefix, and what is out of date by it

pub remade_by : (m : StateMap) (target : List ℕ) → IsUnfinished (map.get m target) → IsRemadeBy m target
remade_by m target unfinished = λ files verdict is. never_up_to_date (map.get m target) files verdict unfinished is

done_or_remade : (w : World) (n : ℕ) → IsSound w → w.told ≤ n → (ticket : ℕ) → Contains w.started ticket → IsDoneOrRemade w n ticket
done_or_remade w n sound le ticket started =
    let is = all_at (IsCleared w.submitted w.told) w.started ticket sound.given.started started in
    record {
      target = is.1.0;
      begun = is.1.1;
      remade = λ none. remade_by (state_after w n) is.1.0 (unfinished_from w.opening w.submitted n ticket is.1.0 (omega (arith, is.0, le)) is.1.1
          (λ k note after below at same. ((λ done. none k note after below at done same), sound.history.none_kept k note at)));
    }

survives : (w : World) (a b : List ℕ) (n : ℕ) → IsSound w → (n ≡ w.told) ⊎ (n ≡ w.taken) → w.told ≤ n → RecoversIn w.form a b (state_after w n) → Survives w a b
survives w a b n sound which le is = record {
  n = n;
  prefix = record {
    told_or_taken = which;
    recovers = is;
    only = λ m other. one_state w.form a b m (state_after w n) other is;
    acknowledged = λ ticket known.
        let given = all_at (IsGiven w.submitted w.told w.ends) w.receipts known.0 sound.given.receipts known.1 in
        omega (arith, given.0, known.2, le);
  };
  done_or_remade = done_or_remade w n sound le;
}

survives_either : (w : World) (a b : List ℕ) → IsSound w → RecoversIn w.form a b (state_after w w.told) ⊎ RecoversIn w.form a b (state_after w w.taken) → Survives w a b
survives_either w a b sound (inl is) = survives w a b w.told sound (inl refl) (omega arith) is
survives_either w a b sound (inr is) = survives w a b w.taken sound (inr refl) sound.counted.in_order is

-- ---- receipts

names : (w : World) → IsSound w → (receipt : Receipt) → Contains w.receipts receipt → NamesItsBatch w receipt
names w sound receipt known =
    let given = all_at (IsGiven w.submitted w.told w.ends) w.receipts receipt sound.given.receipts known in
    record {
      stands = given.1;
      has_it = given.2;
      only = λ batch holds.
          let here : holds.0 ≡ receipt.ticket = stands_once sound.history holds.0 receipt.ticket receipt.noted holds.1 given.1 in
          one_batch 0 w.ends receipt.ticket batch receipt.batch sound.counted.increasing (subst (λ (t : ℕ). IsInBatch 0 w.ends t batch) here holds.2) given.2;
    }

-- ---- all of it

promised : (w : World) → IsSound w → KeepsPromise w
promised w sound = record {
  recovery = if_map (λ left. Either w.form (state_after w w.told) (state_after w w.taken) left.0 left.1) (λ left. ∥ Survives w left.0 left.1 ∥₁)
      (λ left either. ∥∥₁_map either (λ is. survives_either w left.0 left.1 sound is)) w.left sound.left;
  receipts = names w sound;
}

pub every_interleaving_in : (form : Form) → EveryInterleavingIn form
every_interleaving_in form = λ opening sides events all run. promised _ (all_keep _ events (opened_sound form opening sides all) run)

-- ---- recipes that were cut off

none_prop : IsProp ⊥
none_prop = hlevel props

-- of a recipe that hasn't ended no 'done' is there
still_begun : (w : World) (n : ℕ) → IsSound w → w.told ≤ n → (ticket : ℕ) (target : List ℕ) → ticket < w.told → StandsAt w.submitted ticket (records.Begun target) → (Contains w.ended ticket → ⊥)
    → IsUnfinished (map.get (state_after w n) target)
still_begun w n sound le ticket target below begun going =
    unfinished_from w.opening w.submitted n ticket target (omega (arith, below, le)) begun
    (λ k note after within at same. (
      (λ done. not_over w.ended sound.history sound.over ticket target begun going k note at same (inl done)),
      sound.history.none_kept k note at,
    ))

cut_by : (w : World) (a b : List ℕ) → IsSound w → (ticket : ℕ) (target : List ℕ) → ticket < w.told → StandsAt w.submitted ticket (records.Begun target) → (Contains w.ended ticket → ⊥)
    → RecoversIn w.form a b (state_after w w.told) ⊎ RecoversIn w.form a b (state_after w w.taken) → (m : StateMap) → RecoversIn w.form a b m → IsUnfinished (map.get m target)
cut_by w a b sound ticket target below begun going (inl is) m other =
    subst (λ (k : StateMap). IsUnfinished (map.get k target)) (one_state w.form a b (state_after w w.told) m is other)
    (still_begun w w.told sound (omega arith) ticket target below begun going)
cut_by w a b sound ticket target below begun going (inr is) m other =
    subst (λ (k : StateMap). IsUnfinished (map.get k target)) (one_state w.form a b (state_after w w.taken) m is other)
    (still_begun w w.taken sound sound.counted.in_order ticket target below begun going)

cut_off_at : (w : World) (a b : List ℕ) → IsSound w → Either w.form (state_after w w.told) (state_after w w.taken) a b → (ticket : ℕ) → Contains w.started ticket → (Contains w.ended ticket → ⊥) → IsRemadeAtOnce w a b ticket
cut_off_at w a b sound either ticket started going =
    let is = all_at (IsCleared w.submitted w.told) w.started ticket sound.given.started started in
    record {
      target = is.1.0;
      begun = is.1.1;
      remade = λ m other files verdict judged e. ∥∥₁_elim either none_prop
          (λ one. remade_by m is.1.0 (cut_by w a b sound ticket is.1.0 is.0 is.1.1 going one m other) files verdict judged e);
    }

cut_off : (w : World) → IsSound w → IsCutOff w
cut_off w sound =
    if_map (λ left. Either w.form (state_after w w.told) (state_after w w.taken) left.0 left.1)
    (λ left. (ticket : ℕ) → Contains w.started ticket → (Contains w.ended ticket → ⊥) → IsRemadeAtOnce w left.0 left.1 ticket)
    (λ left either. cut_off_at w left.0 left.1 sound either) w.left sound.left

pub each_cut_off_in : (form : Form) → EachCutOffIn form
each_cut_off_in form = λ opening sides events all run. cut_off _ (all_keep _ events (opened_sound form opening sides all) run)
