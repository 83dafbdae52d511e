-- One node of a graph passed: whether its recipe is listed, and whether it counts as remade. Own; that a listed target counts
-- as built is what make(1S) says of -n.
use Rattle.std.specs.Prelude.{◌≡◌, ℕ, Bool, true, false, List, [], ◌∷◌, Some, None}
use Rattle.std.specs.List.{list_any}
use Rattle.mk_names.specs.Names.{name_at}
use Rattle.mk_recipe.specs.declared.line.Line.{Line}
use Rattle.mk_verdict.specs.Verdict.{IsOutOfDate}
use Rattle.mk_verdict.specs.declared.verdict.Target.{Target}
use Rattle.mk_rule_lines.specs.declared.rule_line.RuleLine.{RuleLine}
use Rattle.mk_nodes.specs.declared.graph.Graph.{Graph}
use Rattle.mk_seen.specs.Nodes.{entry_of}
use Rattle.mk_plan.specs.Nodes.{EndsRemade}
use Rattle.mk_plan.specs.Parts.{recipe_of}
use Rattle.mk_plan.specs.Passage.{Passage, to_make, finished, is_listed}
use Rattle.mk_plan.specs.Recipe.{AreLinesOf, IsFaultOf}
use Rattle.mk_plan.specs.Target.{IsTargetOf}
use Rattle.mk_plan.specs.Why.{IsWhy}
use Rattle.mk_plan.specs.declared.fault.RecipeFault.{RecipeFault}
use Rattle.mk_plan.specs.declared.fault.RecipeFault.TheVariants as fault
use Rattle.mk_plan.specs.declared.why.Why.{Why}
use Rattle.mk_plan.specs.declared.passing.Passed.{Passed}
use Rattle.mk_plan.specs.declared.passing.Passed.TheVariants as passed

-- node n is passed, where the marks are those of the nodes that were remade before it: whether it counts as remade, and
-- what there is to tell of it. A node with a recipe is listed where it is out of date, with the reason of that verdict, and then
-- counts as remade; of one without, nothing is told
pub data Passes (keeping : Bool) (graph : Graph) (marks : List Bool) (n : ℕ) : (remade : Bool) → (told : List Passage) → Type 0 where
  is_to_be_run : (recipe : List RuleLine) (lines : List Line) (target : Target) (why : Why) →
      recipe_of graph n ≡ Some recipe → AreLinesOf graph marks n recipe lines → IsTargetOf graph marks n lines target →
      IsWhy keeping graph n target why →
      Passes keeping graph marks n true (to_make (name_at graph.names n) why lines ∷ [])
  is_up_to_date : (recipe : List RuleLine) (lines : List Line) (target : Target) →
      recipe_of graph n ≡ Some recipe → AreLinesOf graph marks n recipe lines → IsTargetOf graph marks n lines target →
      (IsOutOfDate keeping (entry_of graph n) target → ⊥) → Passes keeping graph marks n false (finished (name_at graph.names n) ∷ [])
  has_no_recipe : recipe_of graph n ≡ None → EndsRemade graph marks n → Passes keeping graph marks n true []
  is_left : recipe_of graph n ≡ None → (EndsRemade graph marks n → ⊥) → Passes keeping graph marks n false []

-- it is passed, and no recipe is listed
abbrev pub PassesUnlisted : (keeping : Bool) → Graph → (marks : List Bool) → (n : ℕ) → (remade : Bool) → Type 0
PassesUnlisted keeping graph marks n remade =
    (told : List Passage) × Passes keeping graph marks n remade told × (list_any is_listed told ≡ false)

-- what passing a node came to, as `Passes` has it
abbrev pub is_remade : Passed → Bool
is_remade (passed.Listed why lines) = true
is_remade passed.Remade = true
is_remade passed.UpToDate = false
is_remade passed.Left = false

abbrev pub told_in : Graph → (n : ℕ) → Passed → List Passage
told_in graph n (passed.Listed why lines) = to_make (name_at graph.names n) why lines.items ∷ []
told_in graph n passed.Remade = []
told_in graph n passed.UpToDate = finished (name_at graph.names n) ∷ []
told_in graph n passed.Left = []

-- the fault is that of the recipe of node n, where the marks are those of the nodes that were remade before it; want of
-- memory says nothing of them
abbrev pub IsFaultAt : Graph → (marks : List Bool) → (n : ℕ) → RecipeFault → Type 0
IsFaultAt graph marks n fault.OutOfMemory = Unit {0}
IsFaultAt graph marks n (fault.Macro f) =
    (recipe : List RuleLine) × (recipe_of graph n ≡ Some recipe) × IsFaultOf graph marks n recipe (fault.Macro f)
