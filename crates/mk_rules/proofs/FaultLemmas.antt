-- Each part's fault as one of the whole: of a makefile, a tree and a state.
use Rattle.std.proofs.Common.{◌≡◌, ℕ, Bool, List, inl, inr, Option, sym, subst}
use Rattle.mk_graph.specs.Numbering.{IsNumbering}
use Rattle.mk_reader.specs.declared.item.Item.{Item}
use Rattle.st_records.specs.declared.record.Entry.{Entry}
use Rattle.mk_rules.specs.Faults.{IsGraphFault, IsRuleFault, AreInputs}
use Rattle.mk_rules.specs.Found.{IsFindingFault}
use Rattle.mk_settings.specs.Goals.{goals_of, IsGoalFault}
use Rattle.mk_macros.specs.Ranks.{Defined}
use Rattle.mk_rule_lines.specs.Lines.{IsLinesFault}
use Rattle.mk_nodes.specs.Prerequisites.{Inputs, prerequisites_of}
use Rattle.mk_rule_lines.specs.Rules.{targets_by, suffixes_of}
use Rattle.mk_makefile.specs.Supported.{IsRefusal}
use Rattle.mk_makefile.specs.Table.{IsTableFault}
use Rattle.mk_rule_lines.specs.declared.fault.RuleFault.{RuleFault}
use Rattle.mk_rule_lines.specs.declared.fault.RuleFault.TheVariants as fault
use Rattle.mk_nodes.specs.declared.file_look.FileLook.{FileLook}

-- ---- faults of the inputs

module _ (inputs : Inputs) (refuses : List ℕ → Type 0) (named : List (List ℕ)) (limit : ℕ) where
  -- a line that is refused
  pub refused_line : (f : RuleFault) → IsRefusal inputs.lines f → IsGraphFault inputs refuses named limit f
  refused_line (fault.Unsupported what line) meets = meets
  refused_line fault.OutOfMemory meets = absurd meets
  refused_line fault.NoTarget meets = absurd meets
  refused_line (fault.NoRule name) meets = absurd meets
  refused_line (fault.TwoRecipes name line) meets = absurd meets
  refused_line (fault.BothKinds name line) meets = absurd meets
  refused_line (fault.Cycle cycle) meets = absurd meets
  refused_line fault.TooMany meets = absurd meets
  refused_line (fault.Macro f) meets = absurd meets
  refused_line (fault.Tree name) meets = absurd meets
  refused_line (fault.Pool told) meets = absurd meets

  -- a name with two recipes
  pub two_recipes : (suffix_rules : Bool) (f : RuleFault) → IsTableFault (targets_by suffix_rules (suffixes_of inputs.lines)) inputs.lines f →
      IsGraphFault inputs refuses named limit f
  two_recipes suffix_rules fault.OutOfMemory meets = tt
  two_recipes suffix_rules (fault.TwoRecipes name line) meets = (suffix_rules, meets)
  two_recipes suffix_rules _ meets = absurd meets

  -- no goal
  pub no_goal : (f : RuleFault) → IsGoalFault inputs.lines named f → IsGraphFault inputs refuses named limit f
  no_goal fault.OutOfMemory meets = tt
  no_goal fault.NoTarget meets = meets
  no_goal _ meets = absurd meets

  -- what looking up all names meets
  pub not_found : (goals : List (List ℕ)) → goals ≡ goals_of inputs.lines named → (f : RuleFault) → IsFindingFault inputs refuses goals limit f → IsGraphFault inputs refuses named limit f
  not_found goals are fault.OutOfMemory meets = tt
  not_found goals are fault.TooMany meets = λ names numbered. meets names (subst (λ g. IsNumbering (prerequisites_of inputs) g names) (sym are) numbered)
  not_found goals are (fault.Tree name) meets = (
    record {
      node = meets.0.node;
      is_name = λ names numbered. meets.0.is_name names (subst (λ g. IsNumbering (prerequisites_of inputs) g names) (sym are) numbered);
      asked = meets.0.asked;
    },
    meets.1,
  )
  not_found goals are _ meets = absurd meets

-- ---- faults of the whole

module _ (given : Defined) (items : List Item) (looks : (name : List ℕ) → Option FileLook) (entries : (name : List ℕ) → Option Entry)
    (refuses : List ℕ → Type 0) (named : List (List ℕ)) (limit : ℕ) where
  pub line_fault : (f : RuleFault) → IsLinesFault given items f → IsRuleFault given items looks entries refuses named limit f
  line_fault f meets = inl meets

  pub graph_fault : (inputs : Inputs) → AreInputs given items looks entries inputs → (f : RuleFault) → IsGraphFault inputs refuses named limit f →
      IsRuleFault given items looks entries refuses named limit f
  graph_fault inputs are f meets = inr (inputs, are, meets)
