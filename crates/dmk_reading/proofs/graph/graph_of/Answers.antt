use Rattle.std.proofs.Common.{ℕ, inr, refl, ap, subst, ◌∙◌}
use Rattle.std.specs.Cmp.Lexicographic.{nat_list_cmp_total}
use Rattle.std.specs.FinMap.{same_map}
use Rattle.std.specs.FinMap as finmap
use Rattle.mk_macros.specs.Ranks.{Defined, defined_by}
use Rattle.mk_rule_lines.specs.Lines.{behind_items}
use Rattle.mk_rules.specs.Faults.{AreInputs, IsRuleFault}
use Rattle.mk_rules.specs.Limit.{node_limit}
use Rattle.st_state.proofs.StateLemmas.{by_bytes-exact}
use Rattle.dmk_reading.proofs.graph.graph_of.Goals as goal

-- for some looks the graph is one of this state's entries
pub returns-in-Ok-clause-state : goal.returns-in-Ok-clause-state
returns-in-Ok-clause-state g c =
    let (looks, may) = g.met.T.Tree.possible c.build.new.tree in
    let (inputs, are_inputs, is_graph) = c.in-Ok.ensures.graph looks may in
    same_map nat_list_cmp_total by_bytes-exact c.in-Ok.graph.state c.args.state (λ name. ap (λ entries. entries name) (is_graph.entries ∙ are_inputs.entries_are))

pub returns-in-Err-clause-fault : goal.returns-in-Err-clause-fault
returns-in-Err-clause-fault g c =
    let fault = c.in-Err.fault in
    let refuses = g.T.Tree.refuses c.build.new.tree in
    let items = c.args.items.items in
    inr (
      fault,
      refl,
      λ looks may.
          subst (λ (given : Defined). IsRuleFault given items looks (finmap.get c.args.state) refuses c.args.targets (node_limit c.args.profile) fault) c.in_ok-macros.ensures
          (subst (λ (limit : ℕ). IsRuleFault (defined_by c.in_ok-macros.macros) items looks (finmap.get c.args.state) refuses c.args.targets limit fault) c.node_limit-limit.ensures
          (c.in-Err.ensures.fault looks may)),
    )

-- and so are those before its items
pub returns-in-Ok-clause-graph : goal.returns-in-Ok-clause-graph
returns-in-Ok-clause-graph g c = λ looks allows.
    let built = c.in-Ok.ensures.graph looks allows in
    record {
      inputs = built.0;
      are_inputs = subst (λ given. AreInputs given c.args.items.items looks (finmap.get c.args.state) built.0) c.in_ok-macros.ensures built.1;
      is_graph = built.2;
      macros = c.in-Ok.ensures.macros ∙ ap (λ given. behind_items given c.args.items.items) c.in_ok-macros.ensures;
    }
