-- The moves of a board, one after another, whoever makes them: each is a call that moves nodes, as its clauses have it. Own.
use Rattle.std.specs.Prelude.{◌≡◌, ℕ, true, List, [], ◌∷◌, ◌++◌, Option, Some, slice_get}
use Rattle.st_records.specs.declared.version.Form.{Form}
use Rattle.st_records.specs.declared.record.Record.{Record}
use Rattle.bd_links.specs.declared.stand.Stand.TheVariants.{Running}
use Rattle.bd_places.specs.declared.end.End.{End}
use Rattle.bd_places.specs.declared.end.End.TheVariants.{Abandoned}
use Rattle.bd_places.specs.Placed.{holds_any, IsOpen}
use Rattle.bd_places.specs.Settling.{Prerequisites}
use Rattle.bd_ledger.specs.Sheet.{Sheet, first_sheet_in, relisted, drained, submits, SettlesOn}
use Rattle.bd_lists.specs.declared.board.Advanced.{Advanced}
use Rattle.bd_lists.specs.Admission.{Run}
use Rattle.bd_lists.specs.Board.{IsTaken, CanAdvance, Advances, IsUntouched, end_noted}

-- where a board's nodes stand, and the records that it has taken, in order, so that a ticket is a place among them
pub record Position : Type 0 where
  pub board : Sheet
  pub taken : List Record

-- the board behind which these were taken
abbrev pub at : Sheet → List Record → Position
at b taken = record { board = b; taken = taken }

-- before any move
abbrev pub first_position : Form → Prerequisites → (names : List (List ℕ)) → Position
first_position form g names = at (first_sheet_in form g names) []

-- the calls that move nodes, with what they are called with: a receipt is a ticket and the record that it tells of
pub data Move : Type 0 where
  claim : Move
  submit : (node : ℕ) → Record → Option Run → Move
  drain : Move
  advance : (node ticket : ℕ) → Record → Move
  settle : (node : ℕ) → End → Move
  abandon : (node : ℕ) → Move

-- the move leads from one position to another: Ready's first node is claimed; a node submits a record; all of Unflushed is
-- drained; a node goes on with a receipt, which tells of the record that was taken with its ticket; one of which nothing had to be
-- done settles; or a node is abandoned. A call that moves no node is no move
abbrev pub IsMove : Position → Move → Position → Type 0
IsMove p claim q =
    (n : ℕ) × (slice_get p.board.standing.lists.ready 0 ≡ Some n) × (q.board ≡ relisted n Running p.board) × (q.taken ≡ p.taken)
IsMove p (submit n note run) q = IsTaken p.board n note run × (q.board ≡ submits n note p.board) × (q.taken ≡ p.taken ++ note ∷ [])
IsMove p drain q = (holds_any p.board.standing.lists.unflushed ≡ true) × (q.board ≡ drained p.board) × (q.taken ≡ p.taken)
IsMove p (advance n ticket noted) q =
    CanAdvance p.board n ticket noted × (slice_get p.taken ticket ≡ Some noted)
    × ((a : Advanced ℕ) × Advances p.board n ticket (end_noted noted) a q.board) × (q.taken ≡ p.taken)
IsMove p (settle n end) q = IsUntouched p.board n end × SettlesOn p.board n end q.board × (q.taken ≡ p.taken)
IsMove p (abandon n) q = IsOpen p.board.standing.lists n × SettlesOn p.board n Abandoned q.board × (q.taken ≡ p.taken)

-- these moves, one after another, lead from one position to another
abbrev pub AreMoves : Position → List Move → Position → Type 0
AreMoves p [] q = p ≡ q
AreMoves p (move ∷ moves) q = (next : Position) × IsMove p move next × AreMoves next moves q

-- the move can be made
abbrev pub CanMove : Position → Move → Type 0
CanMove p move = (q : Position) × IsMove p move q

-- the move was made, whatever had been taken before
abbrev pub IsMade : Sheet → Move → Sheet → Type 0
IsMade b move c = (taken : List Record) → IsMove (at b taken) move (at c taken)

-- nothing has changed, since the move can't be made
abbrev pub IsRefused : Sheet → Move → Sheet → Type 0
IsRefused b move c = (c ≡ b) × ((taken : List Record) → CanMove (at b taken) move → ⊥)
