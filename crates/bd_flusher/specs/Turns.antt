-- Tickets that count up by one. Own.
use Rattle.std.specs.Prelude.{◌≡◌, ◌≢◌, ℕ, ◌+◌, List, take, Some, slice_get}

-- the tickets count up by one from here
abbrev pub AreInTurn : ℕ → (tickets : List ℕ) → Type 0
AreInTurn from tickets = (place : ℕ) (ticket : ℕ) → slice_get tickets place ≡ Some ticket → ticket ≡ from + place

-- this ticket is the first that isn't its turn, which would be the other number
pub record IsOutOfTurn (from : ℕ) (tickets : List ℕ) (ticket expected : ℕ) : Type 0 where
  pub place : ℕ
  pub there : slice_get tickets place ≡ Some ticket
  pub turn : expected ≡ from + place
  pub other : ticket ≢ expected
  pub before : AreInTurn from (take place tickets)
