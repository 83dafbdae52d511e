use Rattle.std.proofs.Common.{map}
use Rattle.mk_edges.proofs.WaitLemmas.{GroupsGo}
use Rattle.mk_edges.proofs.waits.number_groups.Given as goal

abbrev pub invariant-loop-word : goal.invariant-loop-word
invariant-loop-word l = GroupsGo l.names l.word-iterator l.words (map (λ g. g.items) l.groups.items) l.group.items
