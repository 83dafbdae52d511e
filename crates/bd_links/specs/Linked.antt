-- The six lists as rings of links. Own.
use Rattle.std.specs.Prelude.{◌≡◌, ℕ, zero, suc, ◌+◌, ◌<◌, ◌≤◌, ◌&&◌, nat_eq, nat_lt, nat_le, ◌-◌, List, [], ◌∷◌, length, slice_index, if◌then◌else◌}
use Rattle.bd_links.specs.declared.stand.Stand.{Stand}
use Rattle.bd_links.specs.declared.stand.Stand.TheVariants.{Waiting, Ready, Running, Unflushed, Flushing, Settled}
use Rattle.bd_links.specs.declared.mark.Mark.{Mark}
use Rattle.bd_links.specs.Mark.{stand_now, mark_at}
use Rattle.bd_links.specs.Ring.{IsRing, Leads}
use Rattle.mk_graph.specs.Edges.{times}
use Rattle.bd_links.specs.SixLists.{SixLists, list_in, code, same_stand}

-- what contracts see of the links: how many nodes there are, how often Unflushed was joined to Flushing, and the lists
pub record Linked : Type 0 where
  pub nodes : ℕ
  pub joins : ℕ
  pub lists : SixLists

-- the nodes that the links meet from a place on, before they meet something else
abbrev pub met : (next : ℕ → ℕ) (nodes at most : ℕ) → List ℕ
met next nodes at zero = []
met next nodes at (suc most) = if nat_lt at nodes then at ∷ met next nodes (next at) most else []

-- the nodes of a list: they are linked in a ring with a place of the list's own
abbrev pub behind : (next : ℕ → ℕ) (nodes : ℕ) → Stand → List ℕ
behind next nodes s = met next nodes (next (nodes + code s)) nodes

unfoldable pub linked_lists : (next : ℕ → ℕ) (nodes : ℕ) → SixLists
linked_lists next nodes = record {
  waiting = behind next nodes Waiting;
  ready = behind next nodes Ready;
  running = behind next nodes Running;
  unflushed = behind next nodes Unflushed;
  flushing = behind next nodes Flushing;
  settled = behind next nodes Settled;
}

-- the links where Waiting has all nodes in number order and the other lists are empty
abbrev pub next_at_first : (nodes place : ℕ) → ℕ
next_at_first nodes place = if nat_lt place nodes then place + 1 else if nat_eq place nodes then 0 else place

abbrev pub prev_at_first : (nodes place : ℕ) → ℕ
prev_at_first nodes place = if nat_eq place 0 then nodes else if nat_le place nodes then place - 1 else place

-- the links and the lists' names at the nodes spell these lists
pub record IsLinked (next prev : ℕ → ℕ) (stand : ℕ → Stand) (nodes : ℕ) (l : SixLists) : Type 0 where
  pub ring : IsRing next prev (nodes + 6)
  pub leads : (s : Stand) → Leads next (nodes + code s) (list_in l s) (nodes + code s)
  pub once : (s : Stand) (n : ℕ) → times n (list_in l s) ≡ (if nat_lt n nodes && same_stand (stand n) s then 1 else 0)

-- the tables spell these lists
pub record IsSpelled (next prev : List ℕ) (marks : List Mark) (nodes joins : ℕ) (l : SixLists) : Type 0 where
  pub next_places : length next ≡ nodes + 6
  pub prev_places : length prev ≡ nodes + 6
  pub marked : length marks ≡ nodes
  pub linked : IsLinked (slice_index next) (slice_index prev) (λ n. stand_now joins (mark_at marks n)) nodes l
  pub before : (n : ℕ) → n < nodes → (mark_at marks n).joins ≤ joins
