-- That no run is stuck, and that each one ends, as three statements:
--
-- Where the edges that order nodes make no cycle, then however workers interleave: a node that waits counts one that hasn't settled;
-- as long as a node hasn't settled, some node is ready, running, unflushed or flushing; and each of these has a move before it. Each
-- move leaves less to be done. So a run has at most seven moves a node; once no move can be made but to give up nodes, all nodes
-- have settled; and moves that give up none always lead on to that.
--
-- Premises: a recipe that was begun ends, so that it has a run; each call returns and does what it is for, so that a move which can
-- be made is made: what was submitted is drained, and a receipt is given for it. What failed has settled too, and with it what
-- can't be made without it.
use Rattle.std.specs.Prelude.{◌≡◌, ℕ, ◌<◌, ◌≤◌, ◌*◌, true, false, List, [], ◌∷◌, length, Some, None}
use Rattle.mk_graph.specs.Edges.{row, has, is_closed}
use Rattle.mk_graph.specs.Cycle.{HasCycle}
use Rattle.st_records.specs.declared.version.Form.{Form}
use Rattle.st_records.specs.declared.record.Record.{Record}
use Rattle.st_records.specs.declared.record.Record.TheVariants as records
use Rattle.bd_links.specs.declared.stand.Stand.{Stand}
use Rattle.bd_links.specs.declared.stand.Stand.TheVariants.{Waiting, Ready, Running, Unflushed, Flushing, Settled}
use Rattle.bd_links.specs.SixLists.{list_in}
use Rattle.bd_places.specs.declared.end.End.TheVariants.{UpToDate}
use Rattle.bd_places.specs.Placed.{IsUnderWay}
use Rattle.bd_places.specs.Settling.{Prerequisites}
use Rattle.bd_ledger.specs.declared.sent.Sent.{Sent}
use Rattle.bd_ledger.specs.declared.sent.Sent.TheVariants as sent
use Rattle.bd_ledger.specs.Sheet.{Sheet, nodes_on, name_of, sent_by}
use Rattle.bd_lists.specs.Admission.{Run, IsOf}
use Rattle.bd_progress.specs.Moves.{Position, first_position, Move, claim, submit, drain, advance, settle, abandon, IsMove, AreMoves, CanMove}
use Rattle.bd_progress.specs.Left.{left_on}

-- the edges that order nodes lead to nodes, and make no cycle
pub record AreOrdered (g : Prerequisites) : Type 0 where
  pub closed : is_closed g.counted ≡ true
  pub no_cycle : HasCycle g.counted → ⊥

-- ---- nobody waits for nothing

-- a node that waits counts one that hasn't settled
abbrev pub EachWaitsForOne : Sheet → Type 0
EachWaitsForOne b =
    (n : ℕ) → has b.standing.lists.waiting n ≡ true
    → (m : ℕ) × (has (row b.prerequisites.counted n) m ≡ true) × (has b.standing.lists.settled m ≡ false)

-- as long as a node hasn't settled, some node is ready, running, unflushed or flushing
abbrev pub SomeIsUnderWay : Sheet → Type 0
SomeIsUnderWay b = (n : ℕ) → n < nodes_on b → has b.standing.lists.settled n ≡ false → (m : ℕ) × IsUnderWay b.standing.lists m

-- the record tells how this run of the target's recipe ended: as failed, or, where it came to its end, as done
abbrev pub TellsEnd : (name : List ℕ) → Run → Record → Type 0
TellsEnd name run (records.Begun target) = ⊥
TellsEnd name run (records.Done target commands hidden explicit) = (target ≡ name) × IsOf commands (Some run)
TellsEnd name run (records.Failed target status) = target ≡ name
TellsEnd name run (records.Kept target entry) = ⊥

-- a running node that has submitted nothing may submit its 'begun', or settle where nothing is to be done; once it has, whatever
-- its recipe's run came to may be submitted
abbrev pub CanGoOn : Position → ℕ → Sent → Type 0
CanGoOn p n sent.Nothing = CanMove p (submit n (records.Begun (name_of p.board n)) None) × CanMove p (settle n UpToDate)
CanGoOn p n (sent.Begun ticket) =
    (run : Run) → run.ticket ≡ ticket → (note : Record) → TellsEnd (name_of p.board n) run note → CanMove p (submit n note (Some run))
CanGoOn p n (sent.End ticket) = ⊥

-- the move that is before a node of this list
abbrev pub HasMove : Position → ℕ → Stand → Type 0
HasMove p n Waiting = Unit {0}
HasMove p n Ready = CanMove p claim
HasMove p n Running = CanGoOn p n (sent_by p.board n)
HasMove p n Unflushed = CanMove p drain
HasMove p n Flushing = (ticket : ℕ) × (noted : Record) × CanMove p (advance n ticket noted)
HasMove p n Settled = Unit {0}

pub record IsGoingOn (p : Position) : Type 0 where
  pub waits : EachWaitsForOne p.board
  pub under_way : SomeIsUnderWay p.board
  pub moves : (stand : Stand) (n : ℕ) → has (list_in p.board.standing.lists stand) n ≡ true → HasMove p n stand

-- it is so behind any moves of any workers
abbrev pub NeverStuckIn : Form → Type 0
NeverStuckIn form =
    (g : Prerequisites) (names : List (List ℕ)) (moves : List Move) (p : Position) → AreOrdered g
    → AreMoves (first_position form g names) moves p → IsGoingOn p

-- ---- less and less is left

-- behind any moves of any workers, each one leaves less to be done
abbrev pub EachMoveDoesMoreIn : Form → Type 0
EachMoveDoesMoreIn form =
    (g : Prerequisites) (names : List (List ℕ)) (moves : List Move) (p q : Position) (move : Move)
    → AreMoves (first_position form g names) moves p → IsMove p move q → left_on q.board < left_on p.board

-- ---- each run ends

-- of each recipe that was begun there is a run
abbrev pub EachRecipeEnds : Sheet → Type 0
EachRecipeEnds b =
    (n ticket : ℕ) → has b.standing.lists.running n ≡ true → sent_by b n ≡ sent.Begun ticket → (run : Run) × (run.ticket ≡ ticket)

abbrev pub GivesUp : Move → Type 0
GivesUp (abandon n) = Unit {0}
GivesUp _ = ⊥

-- no move can be made but to give up nodes
abbrev pub IsOver : Position → Type 0
IsOver p = (move : Move) (q : Position) → IsMove p move q → GivesUp move

abbrev pub HaveAllSettled : Sheet → Type 0
HaveAllSettled b = (n : ℕ) → n < nodes_on b → has b.standing.lists.settled n ≡ true

-- whichever recipe is begun has a run
abbrev pub RecipesEnd : Type 0
RecipesEnd = (ticket : ℕ) → (run : Run) × (run.ticket ≡ ticket)

abbrev pub GiveUpNone : List Move → Type 0
GiveUpNone [] = Unit {0}
GiveUpNone (move ∷ moves) = (GivesUp move → ⊥) × GiveUpNone moves

-- moves that give up no node lead on to where all nodes have settled
abbrev pub CanBeEnded : Position → Type 0
CanBeEnded p = (moves : List Move) × (q : Position) × AreMoves p moves q × GiveUpNone moves × HaveAllSettled q.board

-- there were few moves; where no more can be made all nodes have settled; and there always are moves that lead to that
pub record Ends (moves : List Move) (p : Position) : Type 0 where
  pub few : length moves ≤ 7 * nodes_on p.board
  pub all : EachRecipeEnds p.board → IsOver p → HaveAllSettled p.board
  pub can : RecipesEnd → CanBeEnded p

-- it is so of any moves of any workers
abbrev pub EveryRunEndsIn : Form → Type 0
EveryRunEndsIn form =
    (g : Prerequisites) (names : List (List ℕ)) (moves : List Move) (p : Position) → AreOrdered g
    → AreMoves (first_position form g names) moves p → Ends moves p
