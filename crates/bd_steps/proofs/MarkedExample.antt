-- A run over bytes of version 4, whose records have marks.
use Rattle.std.proofs.Common.{◌≡◌, ℕ, true, false, List, [], ◌∷◌, ◌++◌, length, Contains, refl, sym, subst, inl, inr, arith, lit<, lit≤}
use Rattle.std.proofs.Math.Logic.{∥∥₁_map}
use Rattle.std.specs.Int.{w16, w64, to_le_bytes}
use Rattle.std.specs.FinMap as map
use Rattle.st_disk.proofs.CrashLaws.{only_image, settled_image}
use Rattle.st_records.specs.declared.version.Form.TheVariants as forms
use Rattle.st_records.specs.Limits.{IsGoodIn}
use Rattle.st_records.proofs.TestLemmas.{within_in}
use Rattle.st_state.specs.State.{StateMap, replay}
use Rattle.st_file.specs.Layout.{magic}
use Rattle.st_file.specs.Batch.{Batch, AreBatchesIn, IsBatchIn, records_of, text_of_in}
use Rattle.st_recovery.specs.Recovers.{RecoversIn}
use Rattle.st_recovery.specs.Stored.{AllRecoverIn, AllRecoverEitherIn}
use Rattle.bd_flusher.specs.declared.site.receipt.Receipt.{Receipt}
use Rattle.bd_flusher.proofs.ListLemmas.{contains_first}
use Rattle.bd_steps.specs.Event.{submit, drain, commit_call, commit_end, look, advance, start, finish, power_cut}
use Rattle.bd_steps.specs.Examples.{name_a, begun_a, marked_a, batch_of, marked_side_of, on_a, SomeMarkedDone}
use Rattle.bd_steps.proofs.ExampleLemmas.{silent_past, not_empty}

good_begun : IsGoodIn forms.Marked begun_a
good_begun = record { within = within_in forms.Marked begun_a refl; status = omega arith; explicit = tt }

good_done : IsGoodIn forms.Marked marked_a
good_done = record { within = within_in forms.Marked marked_a refl; status = omega arith; explicit = tt }

begun_batch : IsBatchIn forms.Marked true (batch_of (begun_a ∷ []))
begun_batch = record { is_open = lit< tt; filled = record { some = omega arith; good = (good_begun, tt); allowed = (refl, tt); short = lit≤ tt } }

done_batch : IsBatchIn forms.Marked false (batch_of (marked_a ∷ []))
done_batch = record { is_open = lit< tt; filled = record { some = omega arith; good = (good_done, tt); allowed = (refl, tt); short = lit≤ tt } }

-- what stands behind the first gate
abbrev behind_gate : List Batch → List ℕ
behind_gate batches = magic ++ (to_le_bytes w16 4 ++ (to_le_bytes w64 1 ++ (text_of_in forms.Marked batches ++ 0 ∷ [])))

recovers_side : (batches : List Batch) → AreBatchesIn forms.Marked true batches → RecoversIn forms.Marked (marked_side_of batches) [] (replay map.empty (records_of batches))
recovers_side batches are =
    inr (inl (record {
      form = forms.Marked;
      generation = 1;
      end = length (behind_gate batches);
      counts = record {
        is_read = omega arith;
        held = records_of batches;
        holds = record {
          batches = batches;
          after = [];
          reached = record {
            allowed = are;
            header = record { some = lit< tt; fits = lit< tt; named = record { gate = 1; is_open = lit< tt; text = refl } };
          };
          in_order = refl;
          place = omega arith;
        };
        over = inl tt;
        state_is = refl;
      };
    }))

all_of_side : (batches : List Batch) → AreBatchesIn forms.Marked true batches → AllRecoverIn forms.Marked (replay map.empty (records_of batches)) (on_a (marked_side_of batches))
all_of_side batches are a b is_a is_b =
    let m : StateMap = replay map.empty (records_of batches) in
    ∣ subst (λ (y : List ℕ). RecoversIn forms.Marked a y m) (sym (only_image is_b)) (subst (λ (x : List ℕ). RecoversIn forms.Marked x [] m) (sym (only_image is_a)) (recovers_side batches are)) ∣₁

second_of : (m : StateMap) (batches : List Batch) → AreBatchesIn forms.Marked true batches → AllRecoverEitherIn forms.Marked m (replay map.empty (records_of batches)) (on_a (marked_side_of batches))
second_of m batches are a b is_a is_b = ∥∥₁_map (all_of_side batches are a b is_a is_b) (λ r. inr r)

abbrev first_receipt : Receipt
first_receipt = record { ticket = 0; noted = begun_a; batch = 0 }

abbrev second_receipt : Receipt
second_receipt = record { ticket = 1; noted = marked_a; batch = 1 }

abbrev one_begun : List Batch
one_begun = batch_of (begun_a ∷ []) ∷ []

abbrev then_done : List Batch
then_done = batch_of (begun_a ∷ []) ∷ batch_of (marked_a ∷ []) ∷ []

pub some_marked : SomeMarkedDone
some_marked = (
  submit begun_a ∷ drain ∷ commit_call (on_a (marked_side_of one_begun)) false ∷ commit_end ∷ look first_receipt ∷ advance first_receipt ∷ start 0 ∷ finish 0
      ∷ submit marked_a ∷ drain ∷ commit_call (on_a (marked_side_of then_done)) false ∷ commit_end ∷ look second_receipt ∷ power_cut (marked_side_of then_done) [] ∷ [],
  (
    (
      refl,
      (good_begun, silent_past name_a []),
      (
        refl,
        refl,
        (
          refl,
          (refl, omega arith, second_of map.empty one_begun (begun_batch, tt)),
          (
            refl,
            (refl, omega arith, all_of_side one_begun (begun_batch, tt)),
            (
              refl,
              (omega arith, refl, (omega arith, omega arith)),
              (
                refl,
                (contains_first first_receipt [], refl),
                (
                  refl,
                  (contains_first 0 [], not_empty 0, not_empty 0),
                  (
                    refl,
                    contains_first 0 [],
                    (
                      refl,
                      (good_done, record { ticket = 0; first = refl; over = contains_first 0 []; silent = silent_past name_a (begun_a ∷ []) }),
                      (
                        refl,
                        refl,
                        (
                          refl,
                          (refl, omega arith, second_of (replay map.empty (begun_a ∷ [])) then_done (begun_batch, (done_batch, tt))),
                          (
                            refl,
                            (refl, omega arith, all_of_side then_done (begun_batch, (done_batch, tt))),
                            (
                              refl,
                              (omega arith, refl, (omega arith, omega arith)),
                              (refl, (settled_image (marked_side_of then_done), settled_image []), tt),
                            ),
                          ),
                        ),
                      ),
                    ),
                  ),
                ),
              ),
            ),
          ),
        ),
      ),
    ),
    (refl, ((second_receipt, contains_first second_receipt (first_receipt ∷ []), refl), refl)),
  ),
)
