-- Runs that there are.
use Rattle.std.proofs.Common.{◌≡◌, ℕ, zero, suc, ◌<◌, true, false, List, [], ◌∷◌, ◌++◌, length, get_or, Contains, refl, sym, ap, subst, ◌∙◌, inl, inr, arith, lit<, lit≤}
use Rattle.std.proofs.Math.Logic.{∥∥₁_map}
use Rattle.std.proofs.lemmas.Option.{slice_get_within}
use Rattle.std.specs.Int.{w16, w64, to_le_bytes}
use Rattle.std.specs.FinMap as map
use Rattle.st_disk.proofs.CrashLaws.{only_image, settled_image}
use Rattle.st_records.specs.declared.version.Version.TheVariants as versions
use Rattle.st_records.specs.declared.version.Form.TheVariants as forms
use Rattle.st_records.specs.declared.record.Record.{Record}
use Rattle.st_records.specs.Limits.{IsGood}
use Rattle.st_records.specs.Parts.{target_of}
use Rattle.st_state.specs.State.{StateMap, replay}
use Rattle.st_records.proofs.TestLemmas.{within_from}
use Rattle.st_file.specs.Layout.{magic}
use Rattle.st_file.specs.Batch.{Batch, AreBatches, IsBatch, records_of, text_of}
use Rattle.st_recovery.specs.Recovers.{Recovers}
use Rattle.st_recovery.specs.Stored.{AllRecover, AllRecoverEither}
use Rattle.bd_flusher.specs.declared.site.receipt.Receipt.{Receipt}
use Rattle.bd_steps.specs.Event.{submit, drain, commit_call, commit_end, look, advance, start, finish, power_cut, IsSilentFrom}
use Rattle.bd_steps.specs.Examples.{name_a, name_b, begun_a, begun_b, done_a, batch_of, side_of, on_a, SomeAcknowledgedDone, SomeCutOff}
use Rattle.bd_flusher.proofs.ListLemmas.{none_is, some_is, all_at, contains_first, contains_more}

-- ---- the bytes

pub good_begun_a : IsGood versions.Two begun_a
good_begun_a = record { within = within_from versions.Two begun_a refl; status = omega arith; explicit = tt }

good_begun_b : IsGood versions.Two begun_b
good_begun_b = record { within = within_from versions.Two begun_b refl; status = omega arith; explicit = tt }

good_done_a : IsGood versions.Two done_a
good_done_a = record { within = within_from versions.Two done_a refl; status = omega arith; explicit = tt }

-- what stands behind the first gate
abbrev behind_gate : List Batch → List ℕ
behind_gate batches = magic ++ (to_le_bytes w16 2 ++ (to_le_bytes w64 1 ++ (text_of versions.Two batches ++ 0 ∷ [])))

recovers_side : (batches : List Batch) → AreBatches versions.Two true batches → Recovers (side_of batches) [] (replay map.empty (records_of batches))
recovers_side batches are =
    inr (inl (record {
      form = forms.Plain;
      generation = 1;
      end = length (behind_gate batches);
      counts = record {
        is_read = omega arith;
        held = records_of batches;
        holds = record {
          batches = batches;
          after = [];
          reached = record {
            allowed = are;
            header = record { some = lit< tt; fits = lit< tt; named = record { gate = 1; is_open = lit< tt; text = refl } };
          };
          in_order = refl;
          place = omega arith;
        };
        over = inl tt;
        state_is = refl;
      };
    }))

pub all_of_side : (batches : List Batch) → AreBatches versions.Two true batches → AllRecover (replay map.empty (records_of batches)) (on_a (side_of batches))
all_of_side batches are a b is_a is_b =
    let m : StateMap = replay map.empty (records_of batches) in
    ∣ subst (λ (y : List ℕ). Recovers a y m) (sym (only_image is_b)) (subst (λ (x : List ℕ). Recovers x [] m) (sym (only_image is_a)) (recovers_side batches are)) ∣₁

second_of : (m : StateMap) (batches : List Batch) → AreBatches versions.Two true batches → AllRecoverEither m (replay map.empty (records_of batches)) (on_a (side_of batches))
second_of m batches are a b is_a is_b = ∥∥₁_map (all_of_side batches are a b is_a is_b) (λ r. inr r)

begun_batch : IsBatch versions.Two true (batch_of (begun_a ∷ []))
begun_batch = record { is_open = lit< tt; filled = record { some = omega arith; good = (good_begun_a, tt); allowed = (refl, tt); short = lit≤ tt } }

both_batch : IsBatch versions.Two true (batch_of (begun_a ∷ begun_b ∷ []))
both_batch = record { is_open = lit< tt; filled = record { some = omega arith; good = (good_begun_a, (good_begun_b, tt)); allowed = (refl, (refl, tt)); short = lit≤ tt } }

done_batch : IsBatch versions.Two false (batch_of (done_a ∷ []))
done_batch = record { is_open = lit< tt; filled = record { some = omega arith; good = (good_done_a, tt); allowed = (refl, tt); short = lit≤ tt } }

-- ---- small lists

pub not_empty : (x : ℕ) → Contains [] x → ⊥
not_empty x c = absurd (omega (arith, c.1))

only_one : (x y : ℕ) → Contains (x ∷ []) y → x ≡ y
only_one x y c = all_at (λ (z : ℕ). x ≡ z) (x ∷ []) y (refl, tt) c

a_is_not_b : name_a ≡ name_b → ⊥
a_is_not_b e = let first : 97 ≡ 98 = ap (λ (l : List ℕ). get_or l 0 0) e in absurd (omega (arith, first))

pub silent_past : (target : List ℕ) (notes : List Record) → IsSilentFrom (length notes) target notes
silent_past target notes ticket note from at same = absurd (omega (arith, from, slice_get_within notes ticket note at))

-- of b nothing was submitted where only a was begun
silent_b : IsSilentFrom 0 name_b (begun_a ∷ [])
silent_b zero note from at same = a_is_not_b (ap target_of (some_is begun_a note at) ∙ same)
silent_b (suc ticket) note from at same = absurd (none_is note at)

silent_a : IsSilentFrom 1 name_a (begun_a ∷ begun_b ∷ [])
silent_a zero note from at same = absurd (omega (arith, from))
silent_a (suc zero) note from at same = a_is_not_b (sym (ap target_of (some_is begun_b note at) ∙ same))
silent_a (suc (suc ticket)) note from at same = absurd (none_is note at)

-- ---- the first run

abbrev first_receipt : Receipt
first_receipt = record { ticket = 0; noted = begun_a; batch = 0 }

abbrev second_receipt : Receipt
second_receipt = record { ticket = 1; noted = done_a; batch = 1 }

abbrev one_begun : List Batch
one_begun = batch_of (begun_a ∷ []) ∷ []

abbrev then_done : List Batch
then_done = batch_of (begun_a ∷ []) ∷ batch_of (done_a ∷ []) ∷ []

pub some_acknowledged : SomeAcknowledgedDone
some_acknowledged = (
  submit begun_a ∷ drain ∷ commit_call (on_a (side_of one_begun)) false ∷ commit_end ∷ look first_receipt ∷ advance first_receipt ∷ start 0 ∷ finish 0
      ∷ submit done_a ∷ drain ∷ commit_call (on_a (side_of then_done)) false ∷ commit_end ∷ look second_receipt ∷ power_cut (side_of then_done) [] ∷ [],
  (
    (
      refl,
      (good_begun_a, silent_past name_a []),
      (
        refl,
        refl,
        (
          refl,
          (refl, omega arith, second_of map.empty one_begun (begun_batch, tt)),
          (
            refl,
            (refl, omega arith, all_of_side one_begun (begun_batch, tt)),
            (
              refl,
              (omega arith, refl, (omega arith, omega arith)),
              (
                refl,
                (contains_first first_receipt [], refl),
                (
                  refl,
                  (contains_first 0 [], not_empty 0, not_empty 0),
                  (
                    refl,
                    contains_first 0 [],
                    (
                      refl,
                      (good_done_a, record { ticket = 0; first = refl; over = contains_first 0 []; silent = silent_past name_a (begun_a ∷ []) }),
                      (
                        refl,
                        refl,
                        (
                          refl,
                          (refl, omega arith, second_of (replay map.empty (begun_a ∷ [])) then_done (begun_batch, (done_batch, tt))),
                          (
                            refl,
                            (refl, omega arith, all_of_side then_done (begun_batch, (done_batch, tt))),
                            (
                              refl,
                              (omega arith, refl, (omega arith, omega arith)),
                              (refl, (settled_image (side_of then_done), settled_image []), tt),
                            ),
                          ),
                        ),
                      ),
                    ),
                  ),
                ),
              ),
            ),
          ),
        ),
      ),
    ),
    (refl, ((second_receipt, contains_first second_receipt (first_receipt ∷ []), refl), refl)),
  ),
)

-- ---- the second run

abbrev receipt_a : Receipt
receipt_a = record { ticket = 0; noted = begun_a; batch = 0 }

abbrev receipt_b : Receipt
receipt_b = record { ticket = 1; noted = begun_b; batch = 0 }

abbrev both_begun : List Batch
both_begun = batch_of (begun_a ∷ begun_b ∷ []) ∷ []

abbrev both_then_done : List Batch
both_then_done = batch_of (begun_a ∷ begun_b ∷ []) ∷ batch_of (done_a ∷ []) ∷ []

nobody_knows : (receipt : Receipt) → Contains (receipt_b ∷ receipt_a ∷ []) receipt → receipt.ticket ≡ 2 → ⊥
nobody_knows receipt c is =
    let below = all_at (λ (r : Receipt). r.ticket < 2) (receipt_b ∷ receipt_a ∷ []) receipt (omega arith, (omega arith, tt)) c in
    omega (arith, below, is)

pub some_cut_off : SomeCutOff
some_cut_off = (
  submit begun_a ∷ submit begun_b ∷ drain ∷ commit_call (on_a (side_of both_begun)) false ∷ commit_end ∷ look receipt_a ∷ look receipt_b ∷ advance receipt_a ∷ advance receipt_b
      ∷ start 0 ∷ start 1 ∷ finish 0 ∷ submit done_a ∷ drain ∷ commit_call (on_a (side_of both_then_done)) true ∷ power_cut (side_of both_then_done) [] ∷ [],
  (
    (
      refl,
      (good_begun_a, silent_past name_a []),
      (
        refl,
        (good_begun_b, silent_b),
        (
          refl,
          refl,
          (
            refl,
            (refl, omega arith, second_of map.empty both_begun (both_batch, tt)),
            (
              refl,
              (refl, omega arith, all_of_side both_begun (both_batch, tt)),
              (
                refl,
                (omega arith, refl, (omega arith, omega arith)),
                (
                  refl,
                  (omega arith, refl, (omega arith, omega arith)),
                  (
                    refl,
                    (contains_more receipt_b (receipt_a ∷ []) receipt_a (contains_first receipt_a []), refl),
                    (
                      refl,
                      (contains_first receipt_b (receipt_a ∷ []), refl),
                      (
                        refl,
                        (contains_more 1 (0 ∷ []) 0 (contains_first 0 []), not_empty 0, not_empty 0),
                        (
                          refl,
                          (contains_first 1 (0 ∷ []), (λ c. let e = only_one 0 1 c in absurd (omega (arith, e))), not_empty 1),
                          (
                            refl,
                            contains_more 1 (0 ∷ []) 0 (contains_first 0 []),
                            (
                              refl,
                              (good_done_a, record { ticket = 0; first = refl; over = contains_first 0 []; silent = silent_a }),
                              (
                                refl,
                                refl,
                                (
                                  refl,
                                  (refl, omega arith, second_of (replay map.empty (begun_a ∷ begun_b ∷ [])) both_then_done (both_batch, (done_batch, tt))),
                                  (refl, (settled_image (side_of both_then_done), settled_image []), tt),
                                ),
                              ),
                            ),
                          ),
                        ),
                      ),
                    ),
                  ),
                ),
              ),
            ),
          ),
        ),
      ),
    ),
    record {
      failed = refl;
      cut = recovers_side both_then_done (both_batch, (done_batch, tt));
      more = omega arith;
      done = refl;
      unknown = λ known. nobody_knows known.0 known.1 known.2;
      begun = refl;
      started = contains_first 1 (0 ∷ []);
      going = λ c. let e = only_one 0 1 c in absurd (omega (arith, e));
      one_batch = ((omega arith, omega arith), (omega arith, omega arith));
    },
  ),
)
