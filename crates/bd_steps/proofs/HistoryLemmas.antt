-- What the submitted records are: of each target a 'begun', and after it at most one end, which comes after its recipe's.
use Rattle.std.proofs.Common.{◌≡◌, ◌⊎◌, ℕ, ◌<◌, List, [], ◌∷◌, ◌++◌, length, Contains, refl, sym, ap, subst, ◌∙◌, inl, inr, arith}
use Rattle.std.proofs.lemmas.Bool.{cases_lt}
use Rattle.std.proofs.lemmas.Option.{slice_get_within}
use Rattle.st_records.specs.declared.record.Record.{Record}
use Rattle.st_records.specs.declared.record.Record.TheVariants as records
use Rattle.st_records.specs.Parts.{target_of}
use Rattle.bd_flusher.specs.Batches.{StandsAt}
use Rattle.bd_steps.specs.Kind.{Kind, kind_of}
use Rattle.bd_steps.specs.Kind as kinds
use Rattle.bd_steps.specs.World.{World}
use Rattle.bd_steps.specs.Event.{HasEnded, MayCome}
use Rattle.bd_flusher.proofs.ListLemmas.{some_is, at-push, at-push_cases, contains_more}

-- it says how a recipe ended
abbrev pub IsEnd : Kind → Type 0
IsEnd k = (k ≡ kinds.done) ⊎ (k ≡ kinds.failed)

begun_is_no_end : IsEnd kinds.begun → ⊥
begun_is_no_end (inl e) = cc
begun_is_no_end (inr e) = cc

-- no kept records; and of two records of one target the earlier is a 'begun', and the later an end
pub record IsHistory (notes : List Record) : Type 0 where
  pub none_kept : (k : ℕ) (note : Record) → StandsAt notes k note → kind_of note ≡ kinds.kept → ⊥
  pub in_turn : (i j : ℕ) (x y : Record) → i < j → StandsAt notes i x → StandsAt notes j y → target_of x ≡ target_of y
      → (kind_of x ≡ kinds.begun) × IsEnd (kind_of y)

-- a 'begun' of the target stands before this place, and its recipe has ended
abbrev pub HasEndedBefore : List Record → (ended : List ℕ) → ℕ → (target : List ℕ) → Type 0
HasEndedBefore notes ended place target = (ticket : ℕ) × (ticket < place) × StandsAt notes ticket (records.Begun target) × Contains ended ticket

-- each end has such a one
abbrev pub EndsAreOver : List Record → (ended : List ℕ) → Type 0
EndsAreOver notes ended = (k : ℕ) (note : Record) → StandsAt notes k note → IsEnd (kind_of note) → HasEndedBefore notes ended k (target_of note)

-- ---- a record stands once

pub stands_once : {notes : List Record} → IsHistory notes → (i j : ℕ) (x : Record) → StandsAt notes i x → StandsAt notes j x → i ≡ j
stands_once history i j x at_i at_j =
    elim (cases_lt i j) [
      | inl lt ↦ absurd (not_both (history.in_turn i j x x lt at_i at_j refl))
      | inr le ↦ elim (cases_lt j i) [
        | inl gt ↦ absurd (not_both (history.in_turn j i x x gt at_j at_i refl))
        | inr ge ↦ omega (arith, le, ge)
      ]
    ]
  where
    not_both : (kind_of x ≡ kinds.begun) × IsEnd (kind_of x) → ⊥
    not_both both = begun_is_no_end (subst IsEnd both.0 both.1)

-- ---- one record more

-- where a record with an earlier one of its target may come, that is a 'begun', and it is an end
after_begun : (w : World) (target : List ℕ) → IsHistory w.submitted → HasEnded w target → (i : ℕ) (x : Record) → StandsAt w.submitted i x → target_of x ≡ target → kind_of x ≡ kinds.begun
after_begun w target history ended i x at_i same =
    elim (cases_lt i ended.ticket) [
      | inl lt ↦ absurd (begun_is_no_end (history.in_turn i ended.ticket x (records.Begun target) lt at_i ended.first same).1)
      | inr le ↦ elim (cases_lt ended.ticket i) [
        | inl gt ↦ absurd (ended.silent i x (omega (arith, gt)) at_i same)
        | inr ge ↦
            let here : ended.ticket ≡ i = omega (arith, le, ge) in
            let at_first : StandsAt w.submitted i (records.Begun target) = subst (λ (k : ℕ). StandsAt w.submitted k (records.Begun target)) here ended.first in
            ap kind_of (some_is x (records.Begun target) (sym at_i ∙ at_first))
      ]
    ]

before_new : (w : World) (k : Kind) (target : List ℕ) → IsHistory w.submitted → MayCome k w target → (i : ℕ) (x : Record) → StandsAt w.submitted i x → target_of x ≡ target → (kind_of x ≡ kinds.begun) × IsEnd k
before_new w kinds.begun target history may i x at_i same = absurd (may i x (omega arith) at_i same)
before_new w kinds.done target history may i x at_i same = (after_begun w target history may i x at_i same, inl refl)
before_new w kinds.failed target history may i x at_i same = (after_begun w target history may i x at_i same, inr refl)
before_new w kinds.kept target history may i x at_i same = absurd may

pub history-push : (w : World) (note : Record) → IsHistory w.submitted → MayCome (kind_of note) w (target_of note) → IsHistory (w.submitted ++ note ∷ [])
history-push w note history may = record { none_kept = none_kept; in_turn = in_turn }
  where
    none_kept : (k : ℕ) (x : Record) → StandsAt (w.submitted ++ note ∷ []) k x → kind_of x ≡ kinds.kept → ⊥
    none_kept k x at is = elim (at-push_cases w.submitted note k x at) [
      | inl old ↦ history.none_kept k x old is
      | inr new ↦ subst (λ (kind : Kind). MayCome kind w (target_of note)) (sym (ap kind_of new.1) ∙ is) may
    ]

    in_turn : (i j : ℕ) (x y : Record) → i < j → StandsAt (w.submitted ++ note ∷ []) i x → StandsAt (w.submitted ++ note ∷ []) j y → target_of x ≡ target_of y → (kind_of x ≡ kinds.begun) × IsEnd (kind_of y)
    in_turn i j x y lt at_i at_j same = elim (at-push_cases w.submitted note j y at_j) [
      | inl old_j ↦ elim (at-push_cases w.submitted note i x at_i) [
        | inl old_i ↦ history.in_turn i j x y lt old_i old_j same
        | inr new_i ↦ absurd (omega (arith, lt, new_i.0, slice_get_within w.submitted j y old_j))
      ]
      | inr new_j ↦ elim (at-push_cases w.submitted note i x at_i) [
        | inl old_i ↦
            let both = before_new w (kind_of note) (target_of note) history may i x old_i (same ∙ ap target_of new_j.1) in
            (both.0, subst IsEnd (sym (ap kind_of new_j.1)) both.1)
        | inr new_i ↦ absurd (omega (arith, lt, new_i.0, new_j.0))
      ]
    ]

-- ---- ends come after their recipes

begun_before : (w : World) (target : List ℕ) → HasEnded w target → HasEndedBefore w.submitted w.ended (length w.submitted) target
begun_before w target ended = (ended.ticket, slice_get_within w.submitted ended.ticket (records.Begun target) ended.first, ended.first, ended.over)

ended_before : (w : World) (k : Kind) (target : List ℕ) → MayCome k w target → IsEnd k → HasEndedBefore w.submitted w.ended (length w.submitted) target
ended_before w kinds.begun target may is = absurd (begun_is_no_end is)
ended_before w kinds.done target may is = begun_before w target may
ended_before w kinds.failed target may is = begun_before w target may
ended_before w kinds.kept target may is = absurd may

pub ends-push : (w : World) (note : Record) → EndsAreOver w.submitted w.ended → MayCome (kind_of note) w (target_of note) → EndsAreOver (w.submitted ++ note ∷ []) w.ended
ends-push w note over may k x at is = elim (at-push_cases w.submitted note k x at) [
  | inl old ↦
      let before = over k x old is in
      (before.0, before.1, at-push w.submitted note before.0 (records.Begun (target_of x)) before.2, before.3)
  | inr new ↦
      let before = ended_before w (kind_of note) (target_of note) may (subst IsEnd (ap kind_of new.1) is) in
      let begun = at-push w.submitted note before.0 (records.Begun (target_of note)) before.2 in (
        before.0,
        omega (arith, before.1, new.0),
        subst (λ (name : List ℕ). StandsAt (w.submitted ++ note ∷ []) before.0 (records.Begun name)) (sym (ap target_of new.1)) begun,
        before.3,
      )
]

pub ends-more : (notes : List Record) (ended : List ℕ) (ticket : ℕ) → EndsAreOver notes ended → EndsAreOver notes (ticket ∷ ended)
ends-more notes ended ticket over k note at is =
    let before = over k note at is in
    (before.0, before.1, before.2, contains_more ticket ended before.0 before.3)

-- of a recipe that hasn't ended no end was submitted
pub not_over : {notes : List Record} (ended : List ℕ) → IsHistory notes → EndsAreOver notes ended → (ticket : ℕ) (target : List ℕ) → StandsAt notes ticket (records.Begun target) → (Contains ended ticket → ⊥)
    → (k : ℕ) (note : Record) → StandsAt notes k note → target_of note ≡ target → IsEnd (kind_of note) → ⊥
not_over {notes} ended history over ticket target begun going k note at same is =
    let before = over k note at is in
    let first : StandsAt notes before.0 (records.Begun target) = subst (λ (name : List ℕ). StandsAt notes before.0 (records.Begun name)) same before.2 in
    let here : before.0 ≡ ticket = stands_once history before.0 ticket (records.Begun target) first begun in
    going (subst (λ (t : ℕ). Contains ended t) here before.3)
