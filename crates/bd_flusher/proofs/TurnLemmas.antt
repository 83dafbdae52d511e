-- Tickets that count up by one.
use Rattle.std.proofs.Common.{◌≡◌, ◌↔◌, ℕ, Bool, false, ◌+◌, ◌<◌, List, length, take, slice_get, Some, sym, ap, subst, ◌∙◌, inl, inr, arith}
use Rattle.std.proofs.lemmas.Bool.{cases_lt}
use Rattle.bd_flusher.specs.declared.fault.FlushFault.TheVariants as faults
use Rattle.bd_flusher.specs.Turns.{AreInTurn, IsOutOfTurn}
use Rattle.bd_flusher.proofs.ListLemmas.{some_is, at-take, at-take_back, take-whole}

pub no_tickets : (from : ℕ) (tickets : List ℕ) → AreInTurn from (take 0 tickets)
no_tickets from tickets place ticket at = let back = at-take_back tickets 0 place ticket at in absurd (omega (arith, back.0))

pub one_more_in_turn : (from : ℕ) (tickets : List ℕ) (i t : ℕ) → AreInTurn from (take i tickets) → slice_get tickets i ≡ Some t → t ≡ from + i → AreInTurn from (take (i + 1) tickets)
one_more_in_turn from tickets i t so_far here turn place ticket at =
    let back = at-take_back tickets (i + 1) place ticket at in
    elim (cases_lt place i) [
      | inl earlier ↦ so_far place ticket (at-take tickets i place ticket earlier back.1)
      | inr later ↦
          let last : place ≡ i = omega (arith, later, back.0) in
          let same : t ≡ ticket = some_is t ticket (sym here ∙ ap (slice_get tickets) (sym last) ∙ back.1) in
          sym same ∙ turn ∙ ap (λ k. from + k) (sym last)
    ]

pub all_in_turn : (from : ℕ) (tickets : List ℕ) (i : ℕ) → i ≡ length tickets → AreInTurn from (take i tickets) → AreInTurn from tickets
all_in_turn from tickets i whole so_far = subst (AreInTurn from) (ap (λ n. take n tickets) whole ∙ take-whole tickets) so_far

-- one ticket is the first out of turn
before_other : (from : ℕ) (tickets : List ℕ) (t e u f : ℕ) (one : IsOutOfTurn from tickets t e) (other : IsOutOfTurn from tickets u f) → one.place < other.place → ⊥
before_other from tickets t e u f one other lt =
    one.other (other.before one.place t (at-take tickets other.place one.place t lt one.there) ∙ sym one.turn)

pub one_turn : (from : ℕ) (tickets : List ℕ) (t e u f : ℕ) → IsOutOfTurn from tickets t e → IsOutOfTurn from tickets u f → (t ≡ u) × (e ≡ f)
one_turn from tickets t e u f one other =
    elim (cases_lt one.place other.place) [
      | inl lt ↦ absurd (before_other from tickets t e u f one other lt)
      | inr le ↦ elim (cases_lt other.place one.place) [
        | inl gt ↦ absurd (before_other from tickets u f t e other one gt)
        | inr ge ↦
            let here : one.place ≡ other.place = omega (arith, le, ge) in (
              some_is t u (sym one.there ∙ ap (slice_get tickets) here ∙ other.there),
              one.turn ∙ ap (λ k. from + k) here ∙ sym other.turn,
            )
      ]
    ]

-- where all are in turn, none is out of turn
pub in_turn_none : (from : ℕ) (tickets : List ℕ) (t e : ℕ) → AreInTurn from tickets → IsOutOfTurn from tickets t e → ⊥
in_turn_none from tickets t e all one = one.other (all one.place t one.there ∙ sym one.turn)

-- ---- how a flush tells it

turn_is : (t e u f : ℕ) → faults.OutOfTurn t e ≡ faults.OutOfTurn u f → (t ≡ u) × (e ≡ f)
turn_is t e u f same = (cc, cc)

pub out_of_turn_told : (dead : Bool) (from : ℕ) (tickets : List ℕ) (t e u f : ℕ) → dead ≡ false → IsOutOfTurn from tickets t e
    → (faults.OutOfTurn t e ≡ faults.OutOfTurn u f) ↔ ((dead ≡ false) × IsOutOfTurn from tickets u f)
out_of_turn_told dead from tickets t e u f alive one = (
  (λ same. let are = turn_is t e u f same in
      (alive, subst (λ (n : ℕ). IsOutOfTurn from tickets u n) are.1 (subst (λ (n : ℕ). IsOutOfTurn from tickets n e) are.0 one))),
  (λ other. let are = one_turn from tickets t e u f one other.1 in
      ap (λ n. faults.OutOfTurn n e) are.0 ∙ ap (λ n. faults.OutOfTurn u n) are.1),
)
