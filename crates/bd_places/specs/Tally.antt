-- What nodes still lack, as it is counted. Own.
use Rattle.std.specs.Prelude.{◌≡◌, ℕ, ◌≤◌, false, not, ◌&&◌, List, length, count_by, Option, None, slice_index, slice_index_or}
use Rattle.std.specs.List.{list_any}
use Rattle.mk_graph.specs.Edges.{row, has, times, AreUsers}
use Rattle.bd_places.specs.declared.end.End.{End}
use Rattle.bd_places.specs.declared.tally.Tally.{Tally}
use Rattle.bd_places.specs.Settling.{Prerequisites, is_lost}

abbrev pub prerequisites_of : Tally → Prerequisites
prerequisites_of t = record { counted = t.counted; hard = t.hard }

-- how many of these nodes haven't settled
abbrev pub lacking : (settled : List ℕ) → List ℕ → ℕ
lacking settled nodes = count_by (λ n. not (has settled n)) nodes

-- once these nodes have settled with these ends, the tables say how many of those that a node waits for haven't, and
-- whether one settled without which it can't be made
pub record IsTallied (t : Tally) (settled : List ℕ) (ends : List (Option End)) : Type 0 where
  pub nodes : length t.hard ≡ length t.counted
  pub users : AreUsers t.counted t.users
  pub hard_users : AreUsers t.hard t.hard_users
  pub once : (u n : ℕ) → times n (row t.counted u) ≤ 1
  pub missing_nodes : length t.missing.items ≡ length t.counted
  pub doomed_nodes : length t.doomed.items ≡ length t.counted
  pub missing : (u : ℕ) → slice_index t.missing.items u ≡ lacking settled (row t.counted u)
  pub doomed : (u : ℕ) → slice_index_or t.doomed.items u false
      ≡ list_any (λ n. has settled n && is_lost (slice_index_or ends n None)) (row t.hard u)
