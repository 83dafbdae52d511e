-- The six lists of a board. Own.
use Rattle.std.specs.Prelude.{◌≡◌, ℕ, ◌+◌, Bool, not, nat_eq, nat_lt, List, [], ◌∷◌, ◌++◌, filter, if◌then◌else◌}
use Rattle.std.specs.List.{range_with_len}
use Rattle.mk_graph.specs.Edges.{times}
use Rattle.bd_links.specs.declared.stand.Stand.{Stand}
use Rattle.bd_links.specs.declared.stand.Stand.TheVariants.{Waiting, Ready, Running, Unflushed, Flushing, Settled}

-- lists of node numbers
pub record SixLists : Type 0 where
  pub waiting : List ℕ
  pub ready : List ℕ
  pub running : List ℕ
  pub unflushed : List ℕ
  pub flushing : List ℕ
  pub settled : List ℕ

abbrev pub list_in : SixLists → Stand → List ℕ
list_in l Waiting = l.waiting
list_in l Ready = l.ready
list_in l Running = l.running
list_in l Unflushed = l.unflushed
list_in l Flushing = l.flushing
list_in l Settled = l.settled

-- the lists, in order
abbrev pub code : Stand → ℕ
code Waiting = 0
code Ready = 1
code Running = 2
code Unflushed = 3
code Flushing = 4
code Settled = 5

abbrev pub same_stand : (a b : Stand) → Bool
same_stand a b = nat_eq (code a) (code b)

-- a list without a node
abbrev pub without : ℕ → List ℕ → List ℕ
without n xs = filter (λ m. not (nat_eq n m)) xs

-- what a list is once a node has gone from wherever it stood to the end of the list `to`
abbrev pub after_move : (node : ℕ) (to : Stand) → SixLists → Stand → List ℕ
after_move node to l s = without node (list_in l s) ++ (if same_stand to s then node ∷ [] else [])

-- the node goes from wherever it stands to the end of the list `to`
abbrev pub moved : (node : ℕ) (to : Stand) → SixLists → SixLists
moved node to l = record {
  waiting = after_move node to l Waiting;
  ready = after_move node to l Ready;
  running = after_move node to l Running;
  unflushed = after_move node to l Unflushed;
  flushing = after_move node to l Flushing;
  settled = after_move node to l Settled;
}

-- all of Unflushed goes to the end of Flushing
abbrev pub joined : SixLists → SixLists
joined l = record l { unflushed = []; flushing = l.flushing ++ l.unflushed }

-- the node stands in that list and in no other, once
abbrev pub StandsIn : SixLists → (node : ℕ) → Stand → Type 0
StandsIn l node stand = (s : Stand) → times node (list_in l s) ≡ (if same_stand stand s then 1 else 0)

-- each node stands in just one list, once, and nothing else stands in any
abbrev pub IsEachOnce : (nodes : ℕ) → SixLists → Type 0
IsEachOnce nodes l = (n : ℕ)
    → times n l.waiting + times n l.ready + times n l.running + times n l.unflushed + times n l.flushing + times n l.settled
    ≡ (if nat_lt n nodes then 1 else 0)

-- all nodes in Waiting, in number order
abbrev pub all_waiting : (nodes : ℕ) → SixLists
all_waiting nodes = record { waiting = range_with_len 0 nodes; ready = []; running = []; unflushed = []; flushing = []; settled = [] }

-- the nodes that may go on in Ready, the others in Waiting, both in number order
abbrev pub split_by : (may : ℕ → Bool) (nodes : ℕ) → SixLists
split_by may nodes = record {
  waiting = filter (λ n. not (may n)) (range_with_len 0 nodes);
  ready = filter may (range_with_len 0 nodes);
  running = [];
  unflushed = [];
  flushing = [];
  settled = [];
}
