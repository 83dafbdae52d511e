-- Ends of commits: one more end, and the one batch of a ticket.
use Rattle.std.proofs.Common.{◌≡◌, ℕ, zero, suc, ◌<◌, ◌≤◌, List, [], ◌∷◌, ◌++◌, length, get_or, refl, ap, arith}
use Rattle.std.specs.List.Sorted.{IsNonDecreasingBy}
use Rattle.bd_flusher.specs.Batches.{AreIncreasing, last_of, IsInBatch}

pub AreIncreasing-push : (from : ℕ) (ends : List ℕ) (n : ℕ) → AreIncreasing from ends → last_of from ends < n → AreIncreasing from (ends ++ n ∷ [])
AreIncreasing-push from [] n increasing more = (more, tt)
AreIncreasing-push from (e ∷ ends) n increasing more = (increasing.0, AreIncreasing-push e ends n increasing.1 more)

pub last_of-push : (from : ℕ) (ends : List ℕ) (n : ℕ) → last_of from (ends ++ n ∷ []) ≡ n
last_of-push from [] n = refl
last_of-push from (e ∷ ends) n = last_of-push e ends n

pub IsInBatch-push : (from : ℕ) (ends : List ℕ) (n ticket batch : ℕ) → IsInBatch from ends ticket batch → IsInBatch from (ends ++ n ∷ []) ticket batch
IsInBatch-push from [] n ticket batch none = absurd none
IsInBatch-push from (e ∷ ends) n ticket zero here = here
IsInBatch-push from (e ∷ ends) n ticket (suc batch) later = IsInBatch-push e ends n ticket batch later

-- ---- where a ticket of a batch lies

pub batch_from : (from : ℕ) (ends : List ℕ) (ticket batch : ℕ) → AreIncreasing from ends → IsInBatch from ends ticket batch → from ≤ ticket
batch_from from [] ticket batch increasing none = absurd none
batch_from from (e ∷ ends) ticket zero increasing here = here.0
batch_from from (e ∷ ends) ticket (suc batch) increasing later = omega (arith, increasing.0, batch_from e ends ticket batch increasing.1 later)

pub one_batch : (from : ℕ) (ends : List ℕ) (ticket j k : ℕ) → AreIncreasing from ends → IsInBatch from ends ticket j → IsInBatch from ends ticket k → j ≡ k
one_batch from [] ticket j k increasing one other = absurd one
one_batch from (e ∷ ends) ticket zero zero increasing one other = refl
one_batch from (e ∷ ends) ticket zero (suc k) increasing one other = absurd (omega (arith, one.1, batch_from e ends ticket k increasing.1 other))
one_batch from (e ∷ ends) ticket (suc j) zero increasing one other = absurd (omega (arith, other.1, batch_from e ends ticket j increasing.1 one))
one_batch from (e ∷ ends) ticket (suc j) (suc k) increasing one other = ap suc (one_batch e ends ticket j k increasing.1 one other)

-- ---- a batch by its place

-- the end at this place is the first that is over the ticket
pub placed : (from : ℕ) (ends : List ℕ) (ticket k : ℕ) → from ≤ ticket → k < length ends → ((j : ℕ) → j < k → get_or ends j 0 ≤ ticket) → ticket < get_or ends k 0 → IsInBatch from ends ticket k
placed from [] ticket k over within before at = absurd (omega (arith, within))
placed from (e ∷ ends) ticket zero over within before at = (over, at)
placed from (e ∷ ends) ticket (suc k) over within before at =
    placed e ends ticket k (before 0 (omega arith)) (omega (arith, within)) (λ j lt. before (suc j) (omega (arith, lt))) at

-- where no end is over the ticket, the last one isn't
pub none_over : (from : ℕ) (ends : List ℕ) (ticket : ℕ) → from ≤ ticket → ((j : ℕ) → j < length ends → get_or ends j 0 ≤ ticket) → last_of from ends ≤ ticket
none_over from [] ticket over each = over
none_over from (e ∷ ends) ticket over each = none_over e ends ticket (each 0 (omega arith)) (λ j lt. each (suc j) (omega (arith, lt)))

over_first : (from : ℕ) (ends : List ℕ) → AreIncreasing from ends → (j d : ℕ) → j < length ends → from < get_or ends j d
over_first from [] increasing j d lt = absurd (omega (arith, lt))
over_first from (e ∷ ends) increasing zero d lt = increasing.0
over_first from (e ∷ ends) increasing (suc j) d lt = omega (arith, increasing.0, over_first e ends increasing.1 j d (omega (arith, lt)))

pub nondecreasing : (from : ℕ) (ends : List ℕ) → AreIncreasing from ends → IsNonDecreasingBy (λ (e : ℕ). e) ends
nondecreasing from [] increasing i j d le lt = absurd (omega (arith, lt))
nondecreasing from (e ∷ ends) increasing zero zero d le lt = omega arith
nondecreasing from (e ∷ ends) increasing zero (suc j) d le lt = omega (arith, over_first e ends increasing.1 j d (omega (arith, lt)))
nondecreasing from (e ∷ ends) increasing (suc i) zero d le lt = absurd (omega (arith, le))
nondecreasing from (e ∷ ends) increasing (suc i) (suc j) d le lt = nondecreasing e ends increasing.1 i j d (omega (arith, le)) (omega (arith, lt))
