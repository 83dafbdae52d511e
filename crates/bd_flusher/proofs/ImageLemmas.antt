-- Pairs of crash images that recover one state, or one of two.
use Rattle.std.proofs.Common.{◌≡◌, ◌⊎◌, ℕ, List, subst, inl, inr}
use Rattle.std.proofs.Math.Logic.{∥∥₁_map}
use Rattle.st_disk.specs.Crash.{Sides}
use Rattle.st_records.specs.declared.version.Form.{Form}
use Rattle.st_state.specs.State.{StateMap}
use Rattle.st_recovery.specs.Recovers.{RecoversIn}
use Rattle.st_recovery.specs.Stored.{AllRecoverIn, AllRecoverEitherIn}

pub first_of_either : {form : Form} (m n : StateMap) (sides : Sides) → AllRecoverIn form m sides → AllRecoverEitherIn form m n sides
first_of_either m n sides all = λ a b is_a is_b. ∥∥₁_map (all a b is_a is_b) (λ r. inl r)

-- where both are one state, either is either
pub either_is_one : {form : Form} (m n k : StateMap) (sides : Sides) → n ≡ m → AllRecoverEitherIn form m n sides → AllRecoverEitherIn form m k sides
either_is_one {form} m n k sides same images = λ a b is_a is_b. ∥∥₁_map (images a b is_a is_b) (λ either. one a b either)
  where
    one : (a b : List ℕ) → RecoversIn form a b m ⊎ RecoversIn form a b n → RecoversIn form a b m ⊎ RecoversIn form a b k
    one a b (inl r) = inl r
    one a b (inr r) = inl (subst (RecoversIn form a b) same r)
