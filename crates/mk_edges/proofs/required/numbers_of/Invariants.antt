use Rattle.std.proofs.Common.{◌≡◌, ◌++◌, map, filter, true}
use Rattle.mk_names.specs.Names.{name_at, has_name}
use Rattle.mk_edges.proofs.WaitLemmas.{are_below}
use Rattle.mk_edges.proofs.required.numbers_of.Given as goal

abbrev pub invariant-loop-name : goal.invariant-loop-name
invariant-loop-name l = record {
  numbers : map (name_at l.names) l.numbers.items ++ filter (has_name l.names) l.name-iterator ≡ filter (has_name l.names) l.listed;
  nodes : are_below l.names l.numbers.items ≡ true;
}
