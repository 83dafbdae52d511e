use Rattle.std.proofs.Common.{◌≡◌, ◌++◌, map, filter}
use Rattle.mk_wildcards.specs.Found.{is_word, ordered_behind, in_order}
use Rattle.mk_wildcards.proofs.OrderLemmas.{bytes_of}
use Rattle.mk_wildcards.proofs.order.in_order.Given as goal

abbrev pub invariant-loop-name : goal.invariant-loop-name
invariant-loop-name l = ordered_behind (map bytes_of l.those.keys) (filter is_word l.name-iterator) ≡ in_order l.names

abbrev pub invariant-loop-name-2 : goal.invariant-loop-name-2
invariant-loop-name-2 l = l.ordered ++ map bytes_of l.name-iterator ≡ in_order l.names
