use Rattle.std.proofs.Common.{◌≡◌}
use Rattle.mk_names.specs.Names.{all_added}
use Rattle.mk_nodes.specs.Prerequisites.{hidden_in}
use Rattle.mk_seen.specs.Nodes.{entry_of}
use Rattle.mk_plan.proofs.why.mention_hidden.Given as goal

abbrev pub invariant-loop-name : goal.invariant-loop-name
invariant-loop-name l = all_added l.names l.name-iterator ≡ all_added l.fn.names (hidden_in (entry_of l.graph l.node))
