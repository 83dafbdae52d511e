-- The text of a listing, and the fault that ends it.
use Rattle.std.specs.Prelude.{ℕ, Bool, true, false, List, [], ◌∷◌, ◌++◌, slice_set, if◌then◌else◌}
use Rattle.std.specs.List.{flat_map}
use Rattle.mk_plan.specs.declared.fault.RecipeFault.{RecipeFault}
use Rattle.mk_plan.specs.declared.fault.RecipeFault.TheVariants.{OutOfMemory}
use Rattle.mk_plan.specs.Passage.{Passage, to_make, finished}
use Rattle.mk_plan.specs.Passing.{Passes, IsFaultAt}
use Rattle.mk_plan.specs.Telling.{lines_about}
use Rattle.mk_plan.specs.declared.passing.Passed.{Passed}
use Rattle.mk_plan.specs.declared.passing.Passed.TheVariants as passed
use Rattle.mk_plan.specs.declared.telling.Telling.{Telling}
use Rattle.mk_recipe.specs.Line.{is_blank_text}
use Rattle.mk_recipe.specs.declared.line.Line.{Line}
use Rattle.mk_nodes.specs.declared.graph.Graph.{Graph}
use Rattle.dmk_reading.specs.Lost.{IsLost}
use Rattle.dmk_reading.specs.Passing.{no_marks}

-- passing them in this order meets the fault: it is that of the recipe of a node, and all before it are passed. A lost node has none
pub data ListsFault (keeping : Bool) (graph : Graph) : (marks : List Bool) → (order : List ℕ) → (fault : RecipeFault) → Type 0 where
  here : {marks : List Bool} {n : ℕ} {order : List ℕ} {fault : RecipeFault} → (IsLost graph n → ⊥) →
      IsFaultAt graph marks n fault → ListsFault keeping graph marks (n ∷ order) fault
  later : {marks : List Bool} {n : ℕ} {order : List ℕ} {fault : RecipeFault} {remade : Bool} {front : List Passage} → (IsLost graph n → ⊥) →
      Passes keeping graph marks n remade front → ListsFault keeping graph (slice_set marks n remade) order fault →
      ListsFault keeping graph marks (n ∷ order) fault
  beyond : {marks : List Bool} {n : ℕ} {order : List ℕ} {fault : RecipeFault} → IsLost graph n →
      ListsFault keeping graph marks order fault → ListsFault keeping graph marks (n ∷ order) fault

-- the fault that ends the listing: that of the first node with one in this order; want of memory says nothing of the nodes
abbrev pub IsListingFault : (keeping : Bool) (graph : Graph) → RecipeFault → Type 0
IsListingFault keeping graph OutOfMemory = Unit {0}
IsListingFault keeping graph fault = ListsFault keeping graph (no_marks graph) graph.order.items fault

-- a line as it is printed: its text, which has no prefixes, and a newline. A blank one isn't printed
abbrev pub printed_line : Line → List ℕ
printed_line line = if is_blank_text line.text then [] else line.text ++ 10 ∷ []

abbrev pub printed : List Line → List ℕ
printed lines = flat_map printed_line lines

-- lines, each with a newline
abbrev pub text_of : List (List ℕ) → List ℕ
text_of lines = flat_map (λ line. line ++ 10 ∷ []) lines

-- the recipe of a listed target, where recipes are printed
abbrev pub recipe_text : (recipes : Bool) → Passage → List ℕ
recipe_text true (to_make target why lines) = printed lines
recipe_text true (finished target) = []
recipe_text false passage = []

-- the recipe that passing a node listed, where recipes are printed
abbrev pub recipe_in : (recipes : Bool) → Passed → List ℕ
recipe_in true (passed.Listed why lines) = printed lines.items
recipe_in true passed.Remade = []
recipe_in true passed.UpToDate = []
recipe_in true passed.Left = []
recipe_in false p = []

-- what is printed of a target: so much of why it is made, and then its recipe
abbrev pub passage_text : Telling → (recipes : Bool) → Passage → List ℕ
passage_text telling recipes passage = text_of (lines_about telling passage) ++ recipe_text recipes passage

-- the text of a listing, where so much is told of why targets are made, and recipes are printed or not
abbrev pub listing_text : Telling → (recipes : Bool) → List Passage → List ℕ
listing_text telling recipes listed = flat_map (passage_text telling recipes) listed
