-- The fault of a stage as one of the run.
use Rattle.std.proofs.Common.{◌≡◌, ◌∙◌, ℕ, List, sym, subst, Result, Ok, Err, IfErr, IsErrAnd, IsErrOf, ◌⊎◌, inl, inr}
use Rattle.mk_reader.specs.declared.item.Item.{Item}
use Rattle.st_disk.specs.declared.which.Which.{Which}
use Rattle.st_disk.specs.declared.which.Which.TheVariants as sides
use Rattle.st_file.specs.declared.fault.OpenFault.{OpenFault}
use Rattle.st_file.specs.declared.fault.OpenFault.TheVariants as open_fault
use Rattle.st_state.specs.State.{StateMap}
use Rattle.st_records.specs.declared.version.Form.{Form}
use Rattle.st_recovery.specs.Recovers.{RefusesWithIn}
use Rattle.dmk_dry.specs.Faults.{IsOpenFault, IsRunFault}
use Rattle.dmk_messages.specs.declared.fault.Fault.{Fault}
use Rattle.dmk_messages.specs.declared.fault.Fault.TheVariants.{OutOfMemory, NoMakefile, Read, State, Rules, Recipe, Write}

module _ (Text : Fault → Type 0) (Items : List Item → Type 0) (Plan : List Item → Fault → Type 0) where
  -- the makefile's own. It has no fault of a later stage
  pub text_fault : (fault : Fault) → Text fault → ((f : _) → Text (State f) → ⊥) → ((f : _) → Text (Rules f) → ⊥) →
      ((f : _) → Text (Recipe f) → ⊥) → (Text Write → ⊥) → IsRunFault Text Items Plan fault
  text_fault OutOfMemory is no_state no_rules no_recipe no_write = tt
  text_fault NoMakefile is no_state no_rules no_recipe no_write = is
  text_fault (Read f) is no_state no_rules no_recipe no_write = is
  text_fault (State f) is no_state no_rules no_recipe no_write = absurd (no_state f is)
  text_fault (Rules f) is no_state no_rules no_recipe no_write = absurd (no_rules f is)
  text_fault (Recipe f) is no_state no_rules no_recipe no_write = absurd (no_recipe f is)
  text_fault Write is no_state no_rules no_recipe no_write = no_write is

  -- that of a plan for items that were read. It has no fault of an earlier stage
  pub plan_fault : (items : List Item) → Items items → (fault : Fault) → Plan items fault → (Plan items NoMakefile → ⊥) →
      ((f : _) → Plan items (Read f) → ⊥) → (Plan items Write → ⊥) → IsRunFault Text Items Plan fault
  plan_fault items are OutOfMemory is no_makefile no_read no_write = tt
  plan_fault items are NoMakefile is no_makefile no_read no_write = absurd (no_makefile is)
  plan_fault items are (Read f) is no_makefile no_read no_write = absurd (no_read f is)
  plan_fault items are (State f) is no_makefile no_read no_write = (items, are, is)
  plan_fault items are (Rules f) is no_makefile no_read no_write = (items, are, is)
  plan_fault items are (Recipe f) is no_makefile no_read no_write = (items, are, is)
  plan_fault items are Write is no_makefile no_read no_write = no_write is

-- a result whose fault is the makefile's has none of the state's
pub no_state : {T : Type 0} (Text : Fault → Type 0) (got : Result T Fault) (fault : Fault) (f : OpenFault) → IsErrAnd got (λ g. g ≡ fault) →
    Text fault → (Text (State f) → ⊥) → IsErrOf got (State f) → ⊥
no_state Text (Ok x) fault f is meets none of = absurd is
no_state Text (Err g) fault f is meets none of = let same : g ≡ State f = cc in none (subst Text (sym is ∙ same) meets)

-- a pair of sides that is refused has the fault that is answered
refused_pair : (newest : Form) (seen : Which → List ℕ) (f : OpenFault) → RefusesWithIn newest (seen sides.A) (seen sides.B) f → IsOpenFault newest seen f
refused_pair newest seen open_fault.Device refuses = tt
refused_pair newest seen open_fault.OutOfMemory refuses = tt
refused_pair newest seen (open_fault.NotState s) refuses = refuses
refused_pair newest seen (open_fault.UnknownVersion s version) refuses = refuses
refused_pair newest seen (open_fault.Damaged s place) refuses = refuses
refused_pair newest seen open_fault.SameGeneration refuses = refuses

open_fault_of : (newest : Form) (seen : Which → List ℕ) (f : OpenFault) →
    (f ≡ open_fault.Device) ⊎ ((f ≡ open_fault.OutOfMemory) ⊎ RefusesWithIn newest (seen sides.A) (seen sides.B) f) → IsOpenFault newest seen f
open_fault_of newest seen f (inl is) = subst (IsOpenFault newest seen) (sym is) tt
open_fault_of newest seen f (inr (inl is)) = subst (IsOpenFault newest seen) (sym is) tt
open_fault_of newest seen f (inr (inr refuses)) = refused_pair newest seen f refuses

pub pair_refused : (newest : Form) (seen : Which → List ℕ) (found : Result StateMap OpenFault) →
    IfErr found (λ f. (f ≡ open_fault.Device) ⊎ ((f ≡ open_fault.OutOfMemory) ⊎ RefusesWithIn newest (seen sides.A) (seen sides.B) f)) →
    IfErr found (IsOpenFault newest seen)
pair_refused newest seen (Ok m) is = tt
pair_refused newest seen (Err f) is = open_fault_of newest seen f is
