-- What holds of the records of what is offered.
use Rattle.std.proofs.Common.{◌≡◌, true, false, List, [], ◌∷◌, refl, sym, subst}
use Rattle.std.specs.List.{AllByRecursion}
use Rattle.st_file.specs.Batch.{may_stand}
use Rattle.st_records.specs.Limits.{IsGoodIn}
use Rattle.st_records.specs.declared.version.Form.TheVariants as forms
use Rattle.st_records.specs.declared.record.Record.{Record}
use Rattle.st_state.specs.State.{StateMap}
use Rattle.mk_levels.specs.declared.level.Level.{Level}
use Rattle.mk_nodes.specs.declared.graph.Graph.{Graph}
use Rattle.mk_levels.specs.Picked.{IsOfOffer, ArePicked}
use Rattle.dmk_levels.specs.Known.{AreKnown, nothing_offered}

-- each is good, and may stand in any batch
pub offers_good : (own : StateMap) (levels : List Level) (notes : List Record) → AllByRecursion (IsOfOffer own levels) notes →
    AllByRecursion (IsGoodIn forms.Marked) notes
offers_good own levels [] offered = tt
offers_good own levels (r ∷ rs) ((name, e, is, offered, good), more) = (good, offers_good own levels rs more)

pub offers_stand : (own : StateMap) (levels : List Level) (notes : List Record) → AllByRecursion (IsOfOffer own levels) notes →
    AllByRecursion (λ r. may_stand false r ≡ true) notes
offers_stand own levels [] offered = tt
offers_stand own levels (r ∷ rs) ((name, e, is, offered, good), more) =
    (subst (λ r. may_stand false r ≡ true) (sym is) refl, offers_stand own levels rs more)

-- nothing is offered
pub none_known : (IsWanted : StateMap → Graph → Type 0) (levels : List Level) (own : StateMap) (graph : Graph) (offers : List Record) → offers ≡ [] →
    IsWanted own graph → ArePicked own levels true graph offers → AreKnown IsWanted levels own offers
none_known IsWanted levels own graph [] none wanted picked = nothing_offered graph wanted picked
none_known IsWanted levels own graph (r ∷ rs) none wanted picked = cc
