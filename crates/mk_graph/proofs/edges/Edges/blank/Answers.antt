use Rattle.std.proofs.Common.{length, ap, ◌∙◌}
use Rattle.mk_graph.specs.Counted.{joined}
use Rattle.mk_graph.proofs.JoinLemmas.{ends_blank, joined_blank, length_blank}
use Rattle.mk_graph.proofs.edges.Edges.blank.Goals as goal

pub invariant_of-rows : goal.invariant_of-rows
invariant_of-rows c = ends_blank _ _ _ (c.in_ok-from_elem.ensures.items_if_clones_equal (λ y e. e)) c.new.ensures.items

pub returns-clause-nodes : goal.returns-clause-nodes
returns-clause-nodes c = ap length c.of_packed.ensures ∙ length_blank _ _ _ (c.in_ok-from_elem.ensures.items_if_clones_equal (λ y e. e)) ∙ c.len.ensures

pub returns-clause-joined : goal.returns-clause-joined
returns-clause-joined c = ap (joined c.args.self.now) c.of_packed.ensures ∙ joined_blank c.args.self.now _ _ c.new.ensures.items
