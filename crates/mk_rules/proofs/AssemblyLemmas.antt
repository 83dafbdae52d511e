-- A graph of its parts.
use Rattle.std.proofs.Common.{◌≡◌, ℕ, true, List, length, map, sym, ap, subst, ◌∙◌}
use Rattle.std.specs.FinMap as finmap
use Rattle.std.specs.Prelude.{slice_get, unwrap_or}
use Rattle.st_state.specs.State.{StateMap}
use Rattle.mk_graph.specs.Counted.{counting, IsDropped}
use Rattle.mk_graph.specs.Cycle.{HasCycle}
use Rattle.mk_graph.specs.Edges.{row, is_closed}
use Rattle.mk_names.specs.Names.{name_at, has_name}
use Rattle.mk_graph.specs.Numbering.{IsNumbering}
use Rattle.mk_graph.specs.Plan.{IsPlan}
use Rattle.mk_graph.specs.declared.numbering.Numbered.{Numbered}
use Rattle.mk_rules.specs.Assembly.{IsPutTogether}
use Rattle.mk_rules.specs.Found.{AreFound, IsUnmadeFault, IsGraphlessFault}
use Rattle.mk_settings.specs.Goals.{goals_of, settings_of}
use Rattle.mk_nodes.specs.Graph.{IsGraph, IsNode, AreUnmade, AreHard, AreRequired, AreSoft, required_in, counting_in}
use Rattle.mk_rules.specs.Nodes.{IsNamedOf}
use Rattle.mk_edges.specs.Ordering.{IsCycleFault}
use Rattle.mk_nodes.specs.Prerequisites.{Inputs, prerequisites_of, is_made}
use Rattle.mk_edges.specs.Rows.{EachRow, IsHardRow, IsSoftRow}
use Rattle.mk_makefile.specs.Taken.{AreTaken}
use Rattle.mk_rule_lines.specs.declared.fault.RuleFault.{RuleFault}
use Rattle.mk_rule_lines.specs.declared.fault.RuleFault.TheVariants as fault
use Rattle.mk_nodes.specs.declared.graph.Graph.{Graph}
use Rattle.mk_nodes.specs.declared.graph.Node.{Node}
use Rattle.mk_rules.specs.declared.nodes.Named.{Named}
use Rattle.mk_edges.specs.declared.ordering.Ordered.{Ordered}
use Rattle.mk_rule_lines.specs.declared.rule_line.RuleLine.{RuleLine}
use Rattle.mk_rules.proofs.MadeLemmas.{has_at}
use Rattle.mk_rules.proofs.NeededLemmas.{needed_is}
use Rattle.mk_edges.proofs.RowLaws.{are_hard, nodes_are}

module _ (inputs : Inputs) (named : List (List ℕ)) (lines : List RuleLine) (lines_are : inputs.lines ≡ lines) (n : Numbered Node)
    (found : AreFound inputs (goals_of inputs.lines named) n) (node_count : length n.nodes.items ≡ length n.names) where
  module _ (o : Ordered) (hard_count : length o.hard ≡ length n.names) (rows : EachRow (IsHardRow n.rows n.nodes.items) o.hard) (taken : AreTaken lines)
      (unmade : List ℕ) (are_unmade : AreUnmade inputs n.names unmade) (required : AreRequired inputs n.names (unwrap_or o.required o.hard)) (soft : AreSoft inputs n.names o.soft)
      (dropped : IsDropped (unwrap_or o.required o.hard) o.soft o.soft_dropped)
      (acyclic : HasCycle (unwrap_or o.required o.hard) → ⊥) (order : IsPlan (counting (unwrap_or o.required o.hard) o.soft o.soft_dropped) o.order.items) (soft_count : length o.soft ≡ length n.names)
      (soft_rows : EachRow (IsSoftRow n.rows n.nodes.items) o.soft) (closed : is_closed o.soft ≡ true) (state : StateMap)
      (entries : finmap.get state ≡ inputs.entries) (graph : Graph)
      (named_nodes : Named) (of : IsNamedOf n unmade named_nodes) (p : IsPutTogether lines named_nodes o state graph) where
    names_is : graph.names ≡ n.names
    names_is = p.names ∙ of.names

    hard_is : AreHard inputs n.names o.hard
    hard_is = are_hard inputs n.names n.rows n.nodes.items found.rows_are found.known node_count o.hard (hard_count ∙ sym node_count) rows

    required_is : required_in graph ≡ unwrap_or o.required o.hard
    required_is = ap (λ r. unwrap_or r graph.hard) p.required ∙ ap (unwrap_or o.required) p.hard

    dropped_is : IsDropped (required_in graph) graph.soft graph.soft_dropped
    dropped_is =
        let edges : List (List ℕ) = unwrap_or o.required o.hard in
        subst (λ h. IsDropped h graph.soft graph.soft_dropped) (sym required_is)
        (subst (λ s. IsDropped edges s graph.soft_dropped) (sym p.soft) (subst (IsDropped edges o.soft) (sym p.dropped) dropped))

    counting_is : counting_in graph ≡ counting (unwrap_or o.required o.hard) o.soft o.soft_dropped
    counting_is =
        ap (λ h. counting h graph.soft graph.soft_dropped) required_is
        ∙ ap (λ s. counting (unwrap_or o.required o.hard) s graph.soft_dropped) p.soft
        ∙ ap (counting (unwrap_or o.required o.hard) o.soft) p.dropped

    pub assembled : IsGraph inputs named graph
    assembled = record {
      lines = p.lines_are ∙ sym lines_are;
      taken = subst AreTaken (sym lines_are) taken;
      names = subst (IsNumbering (prerequisites_of inputs) (goals_of inputs.lines named)) (sym names_is) found.names_are;
      goals = ap (λ ns. map (name_at ns) graph.goals.items) names_is ∙ ap (map (name_at n.names)) (p.goals ∙ of.goals) ∙ found.goals_are;
      unmade = subst (λ ns. AreUnmade inputs ns graph.unmade.items) (sym names_is) (subst (AreUnmade inputs n.names) (sym (p.unmade ∙ of.unmade)) are_unmade);
      nodes = ap length (p.nodes ∙ of.nodes) ∙ node_count ∙ ap length (sym names_is);
      node = λ k node at.
          subst (λ ns. IsNode inputs ns (row graph.hard k) (row graph.soft k) (name_at ns k) node) (sym names_is)
          (subst (λ h. IsNode inputs n.names (row h k) (row graph.soft k) (name_at n.names k) node) (sym p.hard)
          (subst (λ s. IsNode inputs n.names (row o.hard k) (row s k) (name_at n.names k) node) (sym p.soft)
          (nodes_are inputs n.names n.rows n.nodes.items found.rows_are found.known node_count o.hard (hard_count ∙ sym node_count) rows
          o.soft (soft_count ∙ sym node_count) soft_rows closed k node
          (ap (λ ns. slice_get ns k) (sym (p.nodes ∙ of.nodes)) ∙ at))));
      hard = subst (λ ns. AreHard inputs ns graph.hard) (sym names_is) (subst (AreHard inputs n.names) (sym p.hard) hard_is);
      required = subst (λ ns. AreRequired inputs ns (required_in graph)) (sym names_is) (subst (AreRequired inputs n.names) (sym required_is) required);
      soft = subst (λ ns. AreSoft inputs ns graph.soft) (sym names_is) (subst (AreSoft inputs n.names) (sym p.soft) soft);
      dropped = dropped_is;
      acyclic = subst (λ h. HasCycle h → ⊥) (sym required_is) acyclic;
      order = subst (λ g. IsPlan g graph.order.items) (sym counting_is) (subst (IsPlan (counting (unwrap_or o.required o.hard) o.soft o.soft_dropped)) (sym p.order) order);
      settings = p.settings ∙ ap settings_of (sym lines_are);
      entries = ap finmap.get p.recorded ∙ entries;
    }

  -- the faults that are met on the way
  pub unmade_fault : (f : RuleFault) → IsUnmadeFault inputs n.names n.rows f → IsGraphlessFault inputs named f
  unmade_fault fault.OutOfMemory meets = tt
  unmade_fault (fault.NoRule told) meets = record {
    names = n.names;
    are_names = found.names_are;
    is_name = ap (has_name n.names) meets.name ∙ has_at n.names meets.node meets.within;
    unmade = ap (is_made inputs) meets.name ∙ meets.unmade;
    needed = needed_is inputs n.names n.rows n.nodes.items found.rows_are found.known node_count meets.node told.name meets.name told.needed_by meets.needed;
  }
  unmade_fault (fault.Cycle cycle) meets = absurd meets
  unmade_fault _ meets = absurd meets

  pub cycle_fault : (required : List (List ℕ)) → AreRequired inputs n.names required → (f : RuleFault) → IsCycleFault required n.names f → IsGraphlessFault inputs named f
  cycle_fault required are fault.OutOfMemory meets = tt
  cycle_fault required are (fault.Cycle cycle) meets = record {
    names = n.names;
    are_names = found.names_are;
    required = required;
    are_required = are;
    numbers = meets.numbers;
    is_cycle = meets.is_cycle;
    told = meets.told;
  }
  cycle_fault required are (fault.NoRule name) meets = absurd meets
  cycle_fault required are _ meets = absurd meets
