use Rattle.std.proofs.Common.{sym}
use Rattle.dmk_levels.proofs.knowing.graph_asked.Goals as goal

pub returns-clause-graph : goal.returns-clause-graph
returns-clause-graph g c = rw (sym c.in_ok-targets.ensures, sym c.as_slice-definitions.ensures.value) c.graph_of.ensures.graph
