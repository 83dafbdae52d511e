use Rattle.std.proofs.Common.{◌≡◌, ℕ, ◌-◌, ◌≤◌, true, List, length, take, map, nat_lt}
use Rattle.std.specs.List.{list_all, IsDistinct}
use Rattle.std.specs.Str.{bytes_eq}
use Rattle.mk_names.specs.Names.{name_at, has_name}
use Rattle.mk_graph.specs.Numbering.{AreDescribed}
use Rattle.mk_graph.proofs.NumberingLemmas.{Numbers}
use Rattle.mk_graph.proofs.numbering.number.Given as goal

abbrev pub invariant-loop-alloc : goal.invariant-loop-alloc
invariant-loop-alloc g l = record {
  numbers : (of : List ℕ → List (List ℕ)) → g.R.Dependencies.allows l.source of → Numbers of l.goals l.numbered.names l.numbered.rows;
  below : list_all (λ ns. list_all (λ n. nat_lt n (length l.numbered.names)) ns) l.numbered.rows ≡ true;
  looked : length l.numbered.rows ≤ length l.numbered.names;
  within : length l.numbered.names ≤ l.limit;
  goals : map (name_at l.numbered.names) l.numbered.goals.items ≡ l.goals;
  goal_nodes : list_all (λ n. nat_lt n (length l.numbered.names)) l.numbered.goals.items ≡ true;
  grows : (of : List ℕ → List (List ℕ)) → g.R.Dependencies.allows l.source of → g.R.Dependencies.allows l.fn.source of;
  distinct : IsDistinct bytes_eq l.numbered.names;
  asked : (name : List ℕ) → g.R.Dependencies.asked l.source name → has_name (take (length l.numbered.rows) l.numbered.names) name ≡ true;
  nodes : length l.numbered.nodes.items ≡ length l.numbered.rows;
  described : AreDescribed (g.R.Dependencies.describes l.source) l.numbered.names l.numbered.nodes.items;
  noted : g.R.Dependencies.fits l.source l.numbered.names l.notes;
  follows : g.R.Dependencies.follows l.fn.source true l.source;
}

abbrev pub decreases-loop-alloc : goal.decreases-loop-alloc
decreases-loop-alloc g l = l.limit - length l.numbered.rows
