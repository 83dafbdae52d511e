-- What is true of a world, and that each step keeps it.
use Rattle.std.proofs.Common.{◌≡◌, ◌⊎◌, ℕ, ◌<◌, ◌≤◌, List, [], ◌∷◌, ◌++◌, length, take, None, IfSome, refl, sym, ap, subst, arith, length-append}
use Rattle.std.specs.List.{AllByRecursion}
use Rattle.st_disk.specs.Crash.{Sides}
use Rattle.st_records.specs.declared.version.Form.{Form}
use Rattle.st_records.specs.declared.record.Record.{Record}
use Rattle.st_records.specs.declared.record.Record.TheVariants as records
use Rattle.st_records.specs.Parts.{target_of}
use Rattle.st_state.specs.State.{StateMap, replay}
use Rattle.st_recovery.specs.Recovers.{RecoversIn}
use Rattle.st_recovery.specs.Stored.{AllRecoverIn, AllRecoverEitherIn}
use Rattle.bd_flusher.specs.declared.site.receipt.Receipt.{Receipt}
use Rattle.bd_flusher.specs.Batches.{StandsAt, AreIncreasing, last_of, IsInBatch}
use Rattle.bd_steps.specs.Kind.{kind_of}
use Rattle.bd_steps.specs.Kind as kinds
use Rattle.bd_steps.specs.World.{World, opened_in, state_after}
use Rattle.bd_steps.specs.Event.{Event, submit, drain, compaction_call, commit_call, commit_end, look, advance, start, finish, something_else, power_cut, MayHappen, after}
use Rattle.bd_steps.specs.Run.{IsRun, after_all}
use Rattle.bd_flusher.proofs.ListLemmas.{none_is, all_map, all_at, at-push, take-front, if_none}
use Rattle.bd_flusher.proofs.ImageLemmas.{first_of_either, either_is_one}
use Rattle.bd_flusher.proofs.BatchLemmas.{AreIncreasing-push, last_of-push, IsInBatch-push}
use Rattle.bd_steps.proofs.HistoryLemmas.{IsHistory, EndsAreOver, history-push, ends-push, ends-more}

-- ---- what is true of a world

pub record IsCounted (notes : List Record) (told taken : ℕ) (ends : List ℕ) : Type 0 where
  pub in_order : told ≤ taken
  pub there : taken ≤ length notes
  pub increasing : AreIncreasing 0 ends
  pub last : last_of 0 ends ≡ told

abbrev pub IsGiven : List Record → (told : ℕ) → (ends : List ℕ) → Receipt → Type 0
IsGiven notes told ends receipt = (receipt.ticket < told) × StandsAt notes receipt.ticket receipt.noted × IsInBatch 0 ends receipt.ticket receipt.batch

abbrev pub IsCleared : List Record → (told ticket : ℕ) → Type 0
IsCleared notes told ticket = (ticket < told) × ((target : List ℕ) × StandsAt notes ticket (records.Begun target))

pub record AreTold (notes : List Record) (told : ℕ) (ends : List ℕ) (known : List Receipt) (may run : List ℕ) : Type 0 where
  pub receipts : AllByRecursion (IsGiven notes told ends) known
  pub cleared : AllByRecursion (IsCleared notes told) may
  pub started : AllByRecursion (IsCleared notes told) run

abbrev pub Either : (form : Form) → (m n : StateMap) → (a b : List ℕ) → Type 0
Either form m n a b = ∥ RecoversIn form a b m ⊎ RecoversIn form a b n ∥₁

abbrev pub fold_of : StateMap → List Record → ℕ → StateMap
fold_of opening notes n = replay opening (take n notes)

pub record IsSound (w : World) : Type 0 where
  pub counted : IsCounted w.submitted w.told w.taken w.ends
  pub history : IsHistory w.submitted
  pub over : EndsAreOver w.submitted w.ended
  pub images : AllRecoverEitherIn w.form (state_after w w.told) (state_after w w.taken) w.sides
  pub given : AreTold w.submitted w.told w.ends w.receipts w.cleared w.started
  pub left : IfSome w.left (λ left. Either w.form (state_after w w.told) (state_after w w.taken) left.0 left.1)

-- ---- images

-- one record more leaves the states as they are
images-push : (form : Form) (opening : StateMap) (notes : List Record) (note : Record) (told taken : ℕ) (sides : Sides) → told ≤ length notes → taken ≤ length notes
    → AllRecoverEitherIn form (fold_of opening notes told) (fold_of opening notes taken) sides
    → AllRecoverEitherIn form (fold_of opening (notes ++ note ∷ []) told) (fold_of opening (notes ++ note ∷ []) taken) sides
images-push form opening notes note told taken sides told_there taken_there images =
    let first : fold_of opening notes told ≡ fold_of opening (notes ++ note ∷ []) told = ap (replay opening) (sym (take-front notes (note ∷ []) told told_there)) in
    let second : fold_of opening notes taken ≡ fold_of opening (notes ++ note ∷ []) taken = ap (replay opening) (sym (take-front notes (note ∷ []) taken taken_there)) in
    subst (λ (m : StateMap). AllRecoverEitherIn form m (fold_of opening (notes ++ note ∷ []) taken) sides) first
    (subst (λ (m : StateMap). AllRecoverEitherIn form (fold_of opening notes told) m sides) second images)

-- ---- receipts and clearances

cleared-push : (notes : List Record) (note : Record) (told : ℕ) (ticket : ℕ) → IsCleared notes told ticket → IsCleared (notes ++ note ∷ []) told ticket
cleared-push notes note told ticket is = (is.0, (is.1.0, at-push notes note ticket (records.Begun is.1.0) is.1.1))

given-push : (notes : List Record) (note : Record) (told : ℕ) (ends : List ℕ) (receipt : Receipt) → IsGiven notes told ends receipt → IsGiven (notes ++ note ∷ []) told ends receipt
given-push notes note told ends receipt is = (is.0, at-push notes note receipt.ticket receipt.noted is.1, is.2)

told-push : (notes : List Record) (note : Record) (told : ℕ) (ends : List ℕ) (receipts : List Receipt) (cleared started : List ℕ)
    → AreTold notes told ends receipts cleared started → AreTold (notes ++ note ∷ []) told ends receipts cleared started
told-push notes note told ends receipts cleared started are = record {
  receipts = all_map (IsGiven notes told ends) (IsGiven (notes ++ note ∷ []) told ends) (given-push notes note told ends) receipts are.receipts;
  cleared = all_map (IsCleared notes told) (IsCleared (notes ++ note ∷ []) told) (cleared-push notes note told) cleared are.cleared;
  started = all_map (IsCleared notes told) (IsCleared (notes ++ note ∷ []) told) (cleared-push notes note told) started are.started;
}

-- more are told, in one batch more
told-more : (notes : List Record) (told taken : ℕ) (ends : List ℕ) (receipts : List Receipt) (cleared started : List ℕ) → told ≤ taken
    → AreTold notes told ends receipts cleared started → AreTold notes taken (ends ++ taken ∷ []) receipts cleared started
told-more notes told taken ends receipts cleared started le are = record {
  receipts = all_map (IsGiven notes told ends) (IsGiven notes taken (ends ++ taken ∷ [])) (λ receipt is. (omega (arith, is.0, le), is.1, IsInBatch-push 0 ends taken receipt.ticket receipt.batch is.2)) receipts are.receipts;
  cleared = all_map (IsCleared notes told) (IsCleared notes taken) (λ ticket is. (omega (arith, is.0, le), is.1)) cleared are.cleared;
  started = all_map (IsCleared notes told) (IsCleared notes taken) (λ ticket is. (omega (arith, is.0, le), is.1)) started are.started;
}

begun_is : (note : Record) → kind_of note ≡ kinds.begun → note ≡ records.Begun (target_of note)
begun_is (records.Begun target) e = refl
begun_is (records.Done target commands hidden explicit) e = absurd (done_is e)
  where
    done_is : kinds.done ≡ kinds.begun → ⊥
    done_is e = cc
begun_is (records.Failed target status) e = absurd (failed_is e)
  where
    failed_is : kinds.failed ≡ kinds.begun → ⊥
    failed_is e = cc
begun_is (records.Kept target entry) e = absurd (kept_is e)
  where
    kept_is : kinds.kept ≡ kinds.begun → ⊥
    kept_is e = cc

clears : (notes : List Record) (told : ℕ) (ends : List ℕ) (receipt : Receipt) → IsGiven notes told ends receipt → kind_of receipt.noted ≡ kinds.begun → IsCleared notes told receipt.ticket
clears notes told ends receipt is begun = (is.0, (target_of receipt.noted, subst (StandsAt notes receipt.ticket) (begun_is receipt.noted begun) is.1))

-- ---- each step

keeps : (w : World) (event : Event) → w.left ≡ None → IsSound w → MayHappen w event → IsSound (after w event)
keeps w (submit note) running sound may = record {
  counted = record {
    in_order = sound.counted.in_order;
    there = omega (arith, sound.counted.there, length-append w.submitted (note ∷ []));
    increasing = sound.counted.increasing;
    last = sound.counted.last;
  };
  history = history-push w note sound.history may.1;
  over = ends-push w note sound.over may.1;
  images = images-push w.form w.opening w.submitted note w.told w.taken w.sides (omega (arith, sound.counted.in_order, sound.counted.there)) sound.counted.there sound.images;
  given = told-push w.submitted note w.told w.ends w.receipts w.cleared w.started sound.given;
  left = if_none _ w.left running;
}
keeps w drain running sound may = record {
  counted = record {
    in_order = omega (arith, sound.counted.in_order, sound.counted.there);
    there = omega arith;
    increasing = sound.counted.increasing;
    last = sound.counted.last;
  };
  history = sound.history;
  over = sound.over;
  images = either_is_one (state_after w w.told) (state_after w w.taken) (state_after w (length w.submitted)) w.sides (ap (state_after w) may) sound.images;
  given = sound.given;
  left = if_none _ w.left running;
}
keeps w (compaction_call sides failed) running sound may = record {
  counted = sound.counted;
  history = sound.history;
  over = sound.over;
  images = first_of_either (state_after w w.told) (state_after w w.taken) sides may.1;
  given = sound.given;
  left = if_none _ w.left running;
}
keeps w (commit_call sides failed) running sound may = record {
  counted = sound.counted;
  history = sound.history;
  over = sound.over;
  images = may.2;
  given = sound.given;
  left = if_none _ w.left running;
}
keeps w commit_end running sound may = record {
  counted = record {
    in_order = omega arith;
    there = sound.counted.there;
    increasing = AreIncreasing-push 0 w.ends w.taken sound.counted.increasing (omega (arith, sound.counted.last, may.1));
    last = last_of-push 0 w.ends w.taken;
  };
  history = sound.history;
  over = sound.over;
  images = first_of_either (state_after w w.taken) (state_after w w.taken) w.sides may.2;
  given = told-more w.submitted w.told w.taken w.ends w.receipts w.cleared w.started sound.counted.in_order sound.given;
  left = if_none _ w.left running;
}
keeps w (look receipt) running sound may = record {
  counted = sound.counted;
  history = sound.history;
  over = sound.over;
  images = sound.images;
  given = record { receipts = (may, sound.given.receipts); cleared = sound.given.cleared; started = sound.given.started };
  left = if_none _ w.left running;
}
keeps w (advance receipt) running sound may =
    let is = all_at (IsGiven w.submitted w.told w.ends) w.receipts receipt sound.given.receipts may.0 in
    record {
      counted = sound.counted;
      history = sound.history;
      over = sound.over;
      images = sound.images;
      given = record {
        receipts = sound.given.receipts;
        cleared = (clears w.submitted w.told w.ends receipt is may.1, sound.given.cleared);
        started = sound.given.started;
      };
      left = if_none _ w.left running;
    }
keeps w (start ticket) running sound may =
    let is = all_at (IsCleared w.submitted w.told) w.cleared ticket sound.given.cleared may.0 in
    record {
      counted = sound.counted;
      history = sound.history;
      over = sound.over;
      images = sound.images;
      given = record { receipts = sound.given.receipts; cleared = sound.given.cleared; started = (is, sound.given.started) };
      left = if_none _ w.left running;
    }
keeps w (finish ticket) running sound may = record {
  counted = sound.counted;
  history = sound.history;
  over = ends-more w.submitted w.ended ticket sound.over;
  images = sound.images;
  given = sound.given;
  left = if_none _ w.left running;
}
keeps w something_else running sound may = sound
keeps w (power_cut a b) running sound may = record {
  counted = sound.counted;
  history = sound.history;
  over = sound.over;
  images = sound.images;
  given = sound.given;
  left = sound.images a b may.0 may.1;
}

-- ---- all steps

pub all_keep : (w : World) (events : List Event) → IsSound w → IsRun w events → IsSound (after_all w events)
all_keep w [] sound run = sound
all_keep w (event ∷ events) sound run = all_keep (after w event) events (keeps w event run.0 sound run.1) run.2

pub opened_sound : (form : Form) (opening : StateMap) (sides : Sides) → AllRecoverIn form opening sides → IsSound (opened_in form opening sides)
opened_sound form opening sides all = record {
  counted = record { in_order = omega arith; there = omega arith; increasing = tt; last = refl };
  history = record {
    none_kept = λ k note at is. absurd (nothing k note at);
    in_turn = λ i j x y lt at_i at_j same. absurd (nothing i x at_i);
  };
  over = λ k note at is. absurd (nothing k note at);
  images = first_of_either opening opening sides all;
  given = record { receipts = tt; cleared = tt; started = tt };
  left = tt;
}
  where
    nothing : (k : ℕ) (note : Record) → StandsAt [] k note → ⊥
    nothing k note at = none_is note at
