-- The graph of a makefile, a tree and a state, and why there is none.
use Rattle.std.proofs.Common.{◌≡◌, ℕ, List, Option, inl, inr, refl}
use Rattle.std.specs.Prelude.{◌⊎◌}
use Rattle.mk_graph.specs.declared.numbering.Numbered.{Numbered}
use Rattle.mk_reader.specs.declared.item.Item.{Item}
use Rattle.st_records.specs.declared.record.Entry.{Entry}
use Rattle.mk_rules.specs.Faults.{IsGraphFault, IsRuleFault, AreInputs}
use Rattle.mk_rules.specs.Found.{AreFound, IsGraphlessFault}
use Rattle.mk_settings.specs.Goals.{goals_of}
use Rattle.mk_nodes.specs.Graph.{IsGraph}
use Rattle.mk_macros.specs.Ranks.{Defined}
use Rattle.mk_makefile.specs.InForce.{AreLinesInForce}
use Rattle.mk_rule_lines.specs.Lines.{IsLinesFault}
use Rattle.mk_nodes.specs.Prerequisites.{Inputs, inputs_of}
use Rattle.mk_makefile.specs.Taken.{IsTakingFault}
use Rattle.mk_rule_lines.specs.declared.fault.RuleFault.{RuleFault}
use Rattle.mk_rule_lines.specs.declared.fault.RuleFault.TheVariants as fault
use Rattle.mk_nodes.specs.declared.graph.Graph.{Graph}
use Rattle.mk_nodes.specs.declared.graph.Node.{Node}
use Rattle.mk_rule_lines.specs.declared.rule_line.RuleLine.{RuleLine}
use Rattle.mk_rules.proofs.FaultLemmas.{graph_fault}
use Rattle.mk_nodes.specs.declared.file_look.FileLook.{FileLook}

-- ---- parts of the fault of these inputs

module _ (inputs : Inputs) (refuses : List ℕ → Type 0) (named : List (List ℕ)) (limit : ℕ) where
  taking : (f : RuleFault) → IsTakingFault inputs.lines f → IsGraphFault inputs refuses named limit f
  taking fault.OutOfMemory meets = tt
  taking (fault.TwoRecipes name line) meets = meets
  taking (fault.BothKinds name line) meets = meets
  taking (fault.Unsupported what line) meets = meets
  taking (fault.Pool told) meets = meets
  taking _ meets = absurd meets

  graphless : (f : RuleFault) → IsGraphlessFault inputs named f → IsGraphFault inputs refuses named limit f
  graphless fault.OutOfMemory meets = tt
  graphless (fault.NoRule name) meets = meets
  graphless (fault.Cycle cycle) meets = meets
  graphless _ meets = absurd meets

module _ (given : Defined) (items : List Item) (looks : (name : List ℕ) → Option FileLook) (entries : (name : List ℕ) → Option Entry)
    (named : List (List ℕ)) (lines : List RuleLine) (are : AreLinesInForce given items lines) where
  are_inputs : AreInputs given items looks entries (inputs_of lines entries looks)
  are_inputs = record { lines = are; looks_are = refl; entries_are = refl }

  module _ (n : Numbered Node) (found : AreFound (inputs_of lines entries looks) (goals_of lines named) n) where
    pub built : (graph : Graph) →
        ((inputs : Inputs) (names : List (List ℕ)) → inputs.lines ≡ lines → entries ≡ inputs.entries → AreFound inputs (goals_of inputs.lines names) n → IsGraph inputs names graph) →
        (inputs : Inputs) × AreInputs given items looks entries inputs × IsGraph inputs named graph
    built graph is = (inputs_of lines entries looks, are_inputs, is (inputs_of lines entries looks) named refl refl found)

    pub graph_refused : (refuses : List ℕ → Type 0) (limit : ℕ) (f : RuleFault) →
        ((inputs : Inputs) (names : List (List ℕ)) → inputs.lines ≡ lines → AreFound inputs (goals_of inputs.lines names) n → IsGraphlessFault inputs names f) →
        IsRuleFault given items looks entries refuses named limit f
    graph_refused refuses limit f meets =
        let inputs = inputs_of lines entries looks in
        graph_fault given items looks entries refuses named limit inputs are_inputs f
        (graphless inputs refuses named limit f (meets inputs named refl found))

  module _ (refuses : List ℕ → Type 0) (limit : ℕ) (f : RuleFault) where
    lines_refused : IsTakingFault lines f → IsRuleFault given items looks entries refuses named limit f
    lines_refused meets =
        let inputs = inputs_of lines entries looks in
        graph_fault given items looks entries refuses named limit inputs are_inputs f (taking inputs refuses named limit f meets)

    pub names_refused : IsGraphFault (inputs_of lines entries looks) refuses named limit f → IsRuleFault given items looks entries refuses named limit f
    names_refused meets = graph_fault given items looks entries refuses named limit (inputs_of lines entries looks) are_inputs f meets

-- a makefile is refused for a fault of its text, or of its rule lines
pub makefile_refused : (given : Defined) (items : List Item) (looks : (name : List ℕ) → Option FileLook)
    (entries : (name : List ℕ) → Option Entry) (named : List (List ℕ)) (refuses : List ℕ → Type 0) (limit : ℕ) (f : RuleFault) →
    IsLinesFault given items f ⊎ ((lines : List RuleLine) × AreLinesInForce given items lines × IsTakingFault lines f) →
    IsRuleFault given items looks entries refuses named limit f
makefile_refused given items looks entries named refuses limit f (inl meets) = inl meets
makefile_refused given items looks entries named refuses limit f (inr meets) =
    lines_refused given items looks entries named meets.0 meets.1 refuses limit f meets.2
