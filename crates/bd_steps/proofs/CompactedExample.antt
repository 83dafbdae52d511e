-- A run that begins with a state that isn't empty, and in which it is compacted.
use Rattle.std.proofs.Common.{◌≡◌, ℕ, true, false, List, [], ◌∷◌, ◌++◌, length, Option, Some, refl, sym, subst, inr, arith, lit<, lit≤}
use Rattle.std.proofs.Math.Logic.{∥∥₁_map}
use Rattle.std.specs.Int.{w16, w64, to_le_bytes}
use Rattle.std.specs.FinMap as map
use Rattle.st_disk.proofs.CrashLaws.{only_image, settled_image}
use Rattle.st_records.specs.declared.version.Version.TheVariants as versions
use Rattle.st_records.specs.declared.version.Form.TheVariants as forms
use Rattle.st_records.specs.declared.record.Entry.{Entry}
use Rattle.st_records.specs.Limits.{IsGood}
use Rattle.st_records.proofs.TestLemmas.{within_from}
use Rattle.st_state.specs.State.{StateMap, replay}
use Rattle.st_file.specs.Layout.{magic}
use Rattle.st_file.specs.Side.{HoldsUpTo}
use Rattle.st_file.specs.Batch.{Batch, AreBatches, IsBatch, records_of, text_of}
use Rattle.st_recovery.specs.Recovers.{Recovers}
use Rattle.st_recovery.specs.Stored.{AllRecover, AllRecoverEither}
use Rattle.bd_flusher.specs.declared.site.receipt.Receipt.{Receipt}
use Rattle.bd_flusher.proofs.ListLemmas.{contains_first}
use Rattle.bd_steps.specs.Event.{submit, drain, compaction_call, commit_call, commit_end, look, power_cut}
use Rattle.bd_steps.specs.Examples.{name_a, name_b, begun_a, batch_of, side_in, side_of, on_both, entry_b, kept_b, kept_batch, SomeCompaction}
use Rattle.bd_steps.proofs.JudgeLemmas.{set_own}
use Rattle.bd_steps.proofs.ExampleLemmas.{good_begun_a, silent_past, all_of_side}

good_kept_b : IsGood versions.Two kept_b
good_kept_b = record { within = within_from versions.Two kept_b refl; status = omega arith; explicit = tt }

kept_is_batch : IsBatch versions.Two true (batch_of (kept_b ∷ []))
kept_is_batch = record { is_open = lit< tt; filled = record { some = omega arith; good = (good_kept_b, tt); allowed = (refl, tt); short = lit≤ tt } }

later_batch : IsBatch versions.Two false (batch_of (begun_a ∷ []))
later_batch = record { is_open = lit< tt; filled = record { some = omega arith; good = (good_begun_a, tt); allowed = (refl, tt); short = lit≤ tt } }

abbrev behind : List Batch
behind = batch_of (kept_b ∷ []) ∷ batch_of (begun_a ∷ []) ∷ []

-- what stands behind the first gate
abbrev rest_in : ℕ → List Batch → List ℕ
rest_in generation batches = magic ++ (to_le_bytes w16 2 ++ (to_le_bytes w64 generation ++ (text_of versions.Two batches ++ 0 ∷ [])))

first_holds : (batches : List Batch) → AreBatches versions.Two true batches → HoldsUpTo (side_of batches) versions.Two 1 (records_of batches) (length (rest_in 1 batches))
first_holds batches are = record {
  batches = batches;
  after = [];
  reached = record { allowed = are; header = record { some = lit< tt; fits = lit< tt; named = record { gate = 1; is_open = lit< tt; text = refl } } };
  in_order = refl;
  place = omega arith;
}

second_holds : (batches : List Batch) → AreBatches versions.Two true batches → HoldsUpTo (side_in 2 batches) versions.Two 2 (records_of batches) (length (rest_in 2 batches))
second_holds batches are = record {
  batches = batches;
  after = [];
  reached = record { allowed = are; header = record { some = lit< tt; fits = lit< tt; named = record { gate = 1; is_open = lit< tt; text = refl } } };
  in_order = refl;
  place = omega arith;
}

-- side B counts over side A
recovers_second : (batches : List Batch) → AreBatches versions.Two true batches → Recovers (side_of kept_batch) (side_in 2 batches) (replay map.empty (records_of batches))
recovers_second batches are =
    inr (inr (record {
      form = forms.Plain;
      generation = 2;
      end = length (rest_in 2 batches);
      counts = record {
        is_read = omega arith;
        held = records_of batches;
        holds = second_holds batches are;
        over = inr (1, (records_of kept_batch, (forms.Plain, omega arith, length (rest_in 1 kept_batch), first_holds kept_batch (kept_is_batch, tt))), lit< tt);
        state_is = refl;
      };
    }))

all_of_both : (batches : List Batch) → AreBatches versions.Two true batches → AllRecover (replay map.empty (records_of batches)) (on_both (side_of kept_batch) (side_in 2 batches))
all_of_both batches are a b is_a is_b =
    let m : StateMap = replay map.empty (records_of batches) in
    ∣ subst (λ (y : List ℕ). Recovers a y m) (sym (only_image is_b)) (subst (λ (x : List ℕ). Recovers x (side_in 2 batches) m) (sym (only_image is_a)) (recovers_second batches are)) ∣₁

second_of_both : (m : StateMap) (batches : List Batch) → AreBatches versions.Two true batches → AllRecoverEither m (replay map.empty (records_of batches)) (on_both (side_of kept_batch) (side_in 2 batches))
second_of_both m batches are a b is_a is_b = ∥∥₁_map (all_of_both batches are a b is_a is_b) (λ r. inr r)

abbrev receipt_of_a : Receipt
receipt_of_a = record { ticket = 0; noted = begun_a; batch = 0 }

pub some_compaction : SomeCompaction
some_compaction = record {
  knows = set_own (λ (o : Option Entry). o ≡ Some entry_b) map.empty name_b entry_b refl;
  recovers = all_of_side kept_batch (kept_is_batch, tt);
  events = compaction_call (on_both (side_of kept_batch) (side_in 2 kept_batch)) false ∷ submit begun_a ∷ drain ∷ commit_call (on_both (side_of kept_batch) (side_in 2 behind)) false
      ∷ commit_end ∷ look receipt_of_a ∷ power_cut (side_of kept_batch) (side_in 2 behind) ∷ [];
  run = (
    refl,
    (refl, all_of_both kept_batch (kept_is_batch, tt)),
    (
      refl,
      (good_begun_a, silent_past name_a []),
      (
        refl,
        refl,
        (
          refl,
          (refl, omega arith, second_of_both (replay map.empty (kept_b ∷ [])) behind (kept_is_batch, (later_batch, tt))),
          (
            refl,
            (refl, omega arith, all_of_both behind (kept_is_batch, (later_batch, tt))),
            (refl, (omega arith, refl, (omega arith, omega arith)), (refl, (settled_image (side_of kept_batch), settled_image (side_in 2 behind)), tt)),
          ),
        ),
      ),
    ),
  );
  goes_on = record {
    compacted = (0, omega arith, refl);
    cut = recovers_second behind (kept_is_batch, (later_batch, tt));
    acknowledged = (receipt_of_a, contains_first receipt_of_a [], refl);
    begun = refl;
  };
}
