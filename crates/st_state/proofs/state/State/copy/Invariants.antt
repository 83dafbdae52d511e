use Rattle.std.proofs.Common.{◌≡◌, ◌≤◌, length}
use Rattle.std.specs.FinMap as map
use Rattle.std.proofs.lemmas.Map.Lookups.{map_keys}
use Rattle.st_state.proofs.StateLemmas.{with_entries}
use Rattle.st_state.proofs.state.State.copy.Given as goal

-- with what is left added to it, the copy is the whole map, and no more is left than the map has
abbrev pub invariant-loop-name : goal.invariant-loop-name
invariant-loop-name l = record {
  whole : with_entries l.copied (map_keys (λ k. k) l.name-iterator) ≡ l.self;
  left : length l.name-iterator ≤ map.len l.self;
}
