use Rattle.std.proofs.Common.{◌≡◌, ◌<◌, length, take}
use Rattle.std.proofs.Common.{map as list_map}
use Rattle.std.specs.List.{All}
use Rattle.st_state.specs.Listed.{entry_at}
use Rattle.st_state.specs.Ranks.{HasRank}
use Rattle.st_state.proofs.name_order.with_ranks.Given as goal

-- the first places, each with its rank
abbrev pub invariant-loop-place : goal.invariant-loop-place
invariant-loop-place l = record {
  all : list_map (λ r. entry_at l.entries.entries r.place) l.ranked.items ≡ take l.place l.entries.entries;
  within : All (λ r. r.place < length l.entries.entries) l.ranked.items;
  ranks : All (λ r. HasRank l.beginning (entry_at l.entries.entries r.place).0 r.rank) l.ranked.items;
}
