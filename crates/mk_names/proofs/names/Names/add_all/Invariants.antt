use Rattle.std.proofs.Common.{◌≡◌, ◌≤◌, ◌++◌, true, length, map, nat_lt}
use Rattle.std.specs.List.{list_all}
use Rattle.mk_names.specs.Names.{name_at, all_added}
use Rattle.mk_names.proofs.names.Names.add_all.Given as goal

abbrev pub invariant-loop-name : goal.invariant-loop-name
invariant-loop-name l = record {
  names : all_added l.self l.name-iterator ≡ all_added l.fn.self l.mentioned;
  below : list_all (λ n. nat_lt n (length l.self)) l.row.items ≡ true;
  row : map (name_at l.self) l.row.items ++ l.name-iterator ≡ l.mentioned;
  within : length l.fn.self ≤ l.limit → length l.self ≤ l.limit;
}
