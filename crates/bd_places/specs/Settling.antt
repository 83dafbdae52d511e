-- What settles once a node has. Own.
use Rattle.std.specs.Prelude.{◌≡◌, ℕ, ◌+◌, Bool, true, false, ◌&&◌, List, [], ◌∷◌, length, filter, Option, Some, None, is_some, slice_get, slice_set, slice_index_or, if◌then◌else◌}
use Rattle.std.specs.List.{list_any, list_all, range_with_len}
use Rattle.mk_graph.specs.Edges.{row, has}
use Rattle.bd_places.specs.declared.end.End.{End}
use Rattle.bd_places.specs.declared.end.End.TheVariants.{UpToDate, Remade, Built, Failed, Abandoned}
use Rattle.bd_links.specs.declared.stand.Stand.{Stand}
use Rattle.bd_links.specs.declared.stand.Stand.TheVariants.{Waiting, Ready, Running, Unflushed, Flushing, Settled}
use Rattle.bd_links.specs.SixLists.{SixLists, list_in, moved, IsEachOnce}

-- the prerequisites of each node: those that it waits for, and those without which it can't be made
pub record Prerequisites : Type 0 where
  pub counted : List (List ℕ)
  pub hard : List (List ℕ)

-- where the nodes stand, and how they ended
pub record Standing : Type 0 where
  pub lists : SixLists
  pub ends : List (Option End)

abbrev pub standing : SixLists → List (Option End) → Standing
standing lists ends = record { lists = lists; ends = ends }

abbrev pub end_of : Standing → ℕ → Option End
end_of s n = slice_index_or s.ends n None

-- whether a node ended so that what can't be made without it can't be made
abbrev pub is_lost : Option End → Bool
is_lost None = false
is_lost (Some UpToDate) = false
is_lost (Some Remade) = false
is_lost (Some Built) = false
is_lost (Some (Failed status)) = true
is_lost (Some Abandoned) = true

-- the nodes that wait for a node, in number order
abbrev pub users_of : Prerequisites → ℕ → List ℕ
users_of g n = filter (λ u. has (row g.counted u) n) (range_with_len 0 (length g.counted))

-- all that the node waits for has settled
abbrev pub is_free : Prerequisites → Standing → ℕ → Bool
is_free g s n = list_all (has s.lists.settled) (row g.counted n)

-- the node can't be made
abbrev pub is_doomed : Prerequisites → Standing → ℕ → Bool
is_doomed g s n = list_any (λ p. is_lost (end_of s p)) (row g.hard n)

-- a node goes to the end of Settled with this end
abbrev pub ended : ℕ → End → Standing → Standing
ended n end s = record { lists = moved n Settled s.lists; ends = slice_set s.ends n (Some end) }

-- a node that waited for nothing more goes on: to the end of Ready, or, where it can't be made, of Settled
abbrev pub gone_on : (doomed : Bool) → ℕ → Standing → Standing
gone_on doomed n s = if doomed then ended n Abandoned s else record s { lists = moved n Ready s.lists }

-- these nodes go on, one after the other
abbrev pub all_gone_on : (doomed : ℕ → Bool) → List ℕ → Standing → Standing
all_gone_on doomed [] s = s
all_gone_on doomed (n ∷ more) s = all_gone_on doomed more (gone_on (doomed n) n s)

-- the node is in Waiting, and waits for nothing that hasn't settled
abbrev pub can_go_on : Prerequisites → Standing → ℕ → Bool
can_go_on g s n = has s.lists.waiting n && is_free g s n

-- what a look at a settled node leaves: those of its users that can go on have, in number order
abbrev pub looked_at : Prerequisites → ℕ → Standing → Standing
looked_at g n s = all_gone_on (is_doomed g s) (filter (can_go_on g s) (users_of g n)) s

-- the nodes in Settled behind so many are looked at in their order, also those that settle so
pub data LooksOn (g : Prerequisites) : (looked : ℕ) → Standing → Standing → Type 0 where
  all_looked : {looked : ℕ} {s : Standing} → looked ≡ length s.lists.settled → LooksOn g looked s s
  looks : {looked : ℕ} {s t : Standing} (n : ℕ) → slice_get s.lists.settled looked ≡ Some n
      → LooksOn g (looked + 1) (looked_at g n s) t → LooksOn g looked s t

-- the node settles with this end, and with it what it frees and can't be made
abbrev pub Settles : Prerequisites → ℕ → End → Standing → Standing → Type 0
Settles g n end s t = LooksOn g (length s.lists.settled) (ended n end s) t

-- the lists of nodes that have begun to be made, or can be
abbrev pub is_under_way : Stand → Bool
is_under_way Waiting = false
is_under_way Ready = true
is_under_way Running = true
is_under_way Unflushed = true
is_under_way Flushing = true
is_under_way Settled = false

-- each node stands in one list, those in Settled have an end, and those under way wait for nothing
pub record IsStanding (g : Prerequisites) (nodes : ℕ) (s : Standing) : Type 0 where
  pub each_once : IsEachOnce nodes s.lists
  pub ends_nodes : length s.ends ≡ nodes
  pub ended : (n : ℕ) → is_some (end_of s n) ≡ has s.lists.settled n
  pub free : (stand : Stand) (n : ℕ) → is_under_way stand ≡ true → has (list_in s.lists stand) n ≡ true → is_free g s n ≡ true
