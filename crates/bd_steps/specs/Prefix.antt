-- The first clause: recovery gives the state after some of the submitted records, from the first on.
use Rattle.std.specs.Prelude.{◌≡◌, ◌⊎◌, ℕ, ◌<◌, List}
use Rattle.st_state.specs.State.{StateMap}
use Rattle.st_recovery.specs.Recovers.{RecoversIn}
use Rattle.bd_steps.specs.Acknowledged.{IsAcknowledged}
use Rattle.bd_steps.specs.World.{World, state_after}

-- recovery gives the state after the first n submitted records and no other; these are the told ones, or those that were taken
-- too; and each acknowledged one is among them
pub record GivesPrefix (w : World) (a b : List ℕ) (n : ℕ) : Type 0 where
  pub told_or_taken : (n ≡ w.told) ⊎ (n ≡ w.taken)
  pub recovers : RecoversIn w.form a b (state_after w n)
  pub only : (m : StateMap) → RecoversIn w.form a b m → m ≡ state_after w n
  pub acknowledged : (ticket : ℕ) → IsAcknowledged w ticket → ticket < n
