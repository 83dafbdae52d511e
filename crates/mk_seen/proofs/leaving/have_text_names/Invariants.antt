use Rattle.std.proofs.Common.{◌≡◌}
use Rattle.std.specs.List.{list_all}
use Rattle.mk_seen.specs.Leaving.{has_text_name}
use Rattle.mk_seen.specs.Nodes.{hidden_of}
use Rattle.mk_seen.proofs.leaving.have_text_names.Given as goal

abbrev pub invariant-loop-hidden : goal.invariant-loop-hidden
invariant-loop-hidden l = list_all (has_text_name l.graph) l.hidden-iterator ≡ list_all (has_text_name l.graph) (hidden_of l.graph l.node)
