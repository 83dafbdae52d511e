-- The lines of a recipe that were expanded so far.
use Rattle.std.proofs.Common.{◌≡◌, ◌+◌, ℕ, List, [], ◌∷◌, ◌++◌, drop, Option, inr, sym, subst}
use Rattle.std.proofs.lemmas.List.{append-nil}
use Rattle.mk_macros.specs.Expansion.{Meanings, ExpandsToFault}
use Rattle.mk_macros.specs.declared.fault.MacroFault.{MacroFault}
use Rattle.mk_macros.specs.declared.fault.MacroFault.TheVariants as faults
use Rattle.mk_reader.specs.declared.item.RecipeLine.{RecipeLine}
use Rattle.mk_recipe.specs.declared.line.Line.{Line}
use Rattle.mk_rule_lines.specs.declared.fault.TextFault.{TextFault}
use Rattle.mk_rule_lines.specs.declared.fault.TextPlace.{TextPlace}
use Rattle.mk_plan.specs.Recipe.{IsExpandedLine, AreExpanded, IsLineFault, HasFirstFault, IsToldAt, place_in}
use Rattle.mk_plan.specs.declared.fault.RecipeFault.{RecipeFault}

-- these lines are what the first ones give: with what the others give they are what all give
abbrev pub ExpandedSoFar : (meanings : Meanings) (recipe : List RecipeLine) (i : ℕ) (lines : List Line) → Type 0
ExpandedSoFar meanings recipe i lines = (rest : List Line) → AreExpanded meanings (drop i recipe) rest → AreExpanded meanings recipe (lines ++ rest)

-- all lines are expanded
pub expanded_all : (meanings : Meanings) (recipe : List RecipeLine) (i : ℕ) (lines : List Line) →
    drop i recipe ≡ [] → ExpandedSoFar meanings recipe i lines → AreExpanded meanings recipe lines
expanded_all meanings recipe i lines none before =
    subst (AreExpanded meanings recipe) (append-nil lines) (before [] (subst (λ left. AreExpanded meanings left []) (sym none) tt))

-- the fault of a line's expansion, told of the place of the line, is one of the line
pub told_at : (meanings : Meanings) (file : Option (List ℕ)) (raw : RecipeLine) (place : Option TextPlace) (f : MacroFault) (told : RecipeFault) →
    place ≡ place_in file raw.line → IsToldAt place f told → ExpandsToFault meanings raw.text f → IsLineFault meanings file raw told
told_at meanings file raw place faults.OutOfMemory told here is meets = subst (IsLineFault meanings file raw) (sym is) tt
told_at meanings file raw place (faults.Loop name) told here is meets = subst (IsLineFault meanings file raw) (sym is) (record { cause = meets; place = here })
told_at meanings file raw place faults.Unclosed told here is meets = subst (IsLineFault meanings file raw) (sym is) (record { cause = meets; place = here })
told_at meanings file raw place faults.NestedReference told here is meets = subst (IsLineFault meanings file raw) (sym is) (record { cause = meets; place = here })
told_at meanings file raw place faults.TooLong told here is meets = subst (IsLineFault meanings file raw) (sym is) (record { cause = meets; place = here })
told_at meanings file raw place (faults.Function word) told here is meets = subst (IsLineFault meanings file raw) (sym is) (record { cause = meets; place = here })

-- the first fault of the lines that are left is that of all
abbrev pub NoFaultSoFar : (meanings : Meanings) (file : Option (List ℕ)) (recipe : List RecipeLine) (i : ℕ) → Type 0
NoFaultSoFar meanings file recipe i = (f : TextFault) → HasFirstFault meanings file (drop i recipe) f → HasFirstFault meanings file recipe f

-- a line more gives one
pub no_fault_more : (meanings : Meanings) (file : Option (List ℕ)) (recipe : List RecipeLine) (i : ℕ) (raw : RecipeLine) (line : Line) →
    drop i recipe ≡ raw ∷ drop (i + 1) recipe → IsExpandedLine meanings raw line → NoFaultSoFar meanings file recipe i →
    NoFaultSoFar meanings file recipe (i + 1)
no_fault_more meanings file recipe i raw line here is before = λ f behind.
    before f (subst (λ left. HasFirstFault meanings file left f) (sym here) (inr (line, is, behind)))
