use Rattle.std.proofs.Common.{arith, ◌∙◌}
use Rattle.std.proofs.lemmas.Grind.{common_steps}
use Rattle.mk_graph.proofs.WaitLemmas.{begin_through}
use Rattle.mk_edges.proofs.waits.add_all_waits.Goals as goal

pub loop-line-preserved : goal.loop-line-preserved
loop-line-preserved c = record {
  nodes = c.in_ok-add_line_waits.ensures.nodes ∙ c.loop-line.invariant.nodes;
  members = grind (arith, common_steps);
  closed = λ was. c.in_ok-add_line_waits.ensures.closed (c.loop-line.invariant.closed was);
  begin = begin_through _ _ _ c.loop-line.invariant.begin c.in_ok-add_line_waits.ensures.begin;
}
