-- The targets of a graph that other levels have an entry of. Own.
use Rattle.std.specs.Prelude.{◌≡◌, ℕ, Bool, true, false, List, [], ◌∷◌, ◌++◌, Option, Some, None, length, replicate, slice_set, not, option_to_list}
use Rattle.mk_names.specs.Names.{name_at}
use Rattle.mk_rule_lines.specs.declared.fault.TextFault.{TextFault}
use Rattle.mk_nodes.specs.declared.graph.Graph.{Graph}
use Rattle.mk_plan.specs.Passage.{Passage, to_make, finished}
use Rattle.mk_plan.specs.Passing.{Passes, IsFaultAt}
use Rattle.mk_plan.specs.declared.fault.RecipeFault.TheVariants as fault
use Rattle.st_records.specs.Limits.{IsGoodIn}
use Rattle.st_records.specs.declared.version.Form.TheVariants as forms
use Rattle.st_records.specs.declared.record.Entry.{Entry}
use Rattle.st_records.specs.declared.record.Record.{Record}
use Rattle.st_records.specs.declared.record.Record.TheVariants as records
use Rattle.st_state.specs.State.{StateMap}
use Rattle.mk_levels.specs.declared.level.Level.{Level}
use Rattle.mk_levels.specs.Offered.{IsOffered}

-- the record that a target's recipe was run to its end, as this entry has it
abbrev pub done_of : (name : List ℕ) → Entry → Record
done_of name e = records.Done name e.commands e.hidden e.explicit

-- what there is to tell of a node is that of a target whose recipe is to be run, or else of one with a recipe that is up to date
abbrev pub is_so : (listed : Bool) → List Passage → Bool
is_so listed [] = false
is_so listed (to_make target why lines ∷ more) = listed
is_so listed (finished target ∷ more) = not listed

-- what comes of node n, where the marks are those of the nodes that count as remade before it: whether it counts as remade by what is
-- recorded, and the record with which it is picked
pub data Picks (own : StateMap) (levels : List Level) (listed : Bool) (graph : Graph) (marks : List Bool) (n : ℕ) : (remade : Bool) → (note : Option Record) → Type 0 where
  -- it is passed so, and an entry is offered of it
  is_picked : (remade : Bool) (told : List Passage) (e : Entry) → Passes true graph marks n remade told → is_so listed told ≡ true →
      IsOffered own levels (name_at graph.names n) e → IsGoodIn forms.Marked (done_of (name_at graph.names n) e) →
      Picks own levels listed graph marks n remade (Some (done_of (name_at graph.names n) e))
  -- the record of that entry may not stand in a state
  cannot_be_recorded : (remade : Bool) (told : List Passage) (e : Entry) → Passes true graph marks n remade told →
      IsOffered own levels (name_at graph.names n) e → (IsGoodIn forms.Marked (done_of (name_at graph.names n) e) → ⊥) →
      Picks own levels listed graph marks n remade None
  has_no_offer : (remade : Bool) (told : List Passage) → Passes true graph marks n remade told →
      ((e : Entry) → IsOffered own levels (name_at graph.names n) e → ⊥) → Picks own levels listed graph marks n remade None
  is_otherwise : (remade : Bool) (told : List Passage) → Passes true graph marks n remade told → is_so listed told ≡ false →
      Picks own levels listed graph marks n remade None
  -- a line of its recipe has no expansion, which is told when the run comes to it
  is_faulty : (f : TextFault) → IsFaultAt graph marks n (fault.Macro f) → Picks own levels listed graph marks n true None

-- the nodes are passed in this order, behind others whose marks these are, and these are the records of those that are picked
pub data PicksAll (own : StateMap) (levels : List Level) (listed : Bool) (graph : Graph) : (marks : List Bool) → (order : List ℕ) → List Record → Type 0 where
  at_end : {marks : List Bool} → PicksAll own levels listed graph marks [] []
  behind : {marks : List Bool} {n : ℕ} {order : List ℕ} {remade : Bool} {note : Option Record} {picked : List Record} →
      Picks own levels listed graph marks n remade note → PicksAll own levels listed graph (slice_set marks n remade) order picked →
      PicksAll own levels listed graph marks (n ∷ order) (option_to_list note ++ picked)

-- the records of all targets of the graph that are picked, in its order
abbrev pub ArePicked : (own : StateMap) → (levels : List Level) → (listed : Bool) → Graph → List Record → Type 0
ArePicked own levels listed graph picked =
    PicksAll own levels listed graph (replicate (length graph.nodes.items) false) graph.order.items picked

-- the record is the one of an entry that is offered of its target, so of none whose recipe a state has as begun or failed, and may stand
-- in a state
abbrev pub IsOfOffer : (own : StateMap) → (levels : List Level) → Record → Type 0
IsOfOffer own levels r =
    (name : List ℕ) × (e : Entry) × (r ≡ done_of name e) × IsOffered own levels name e × IsGoodIn forms.Marked r
