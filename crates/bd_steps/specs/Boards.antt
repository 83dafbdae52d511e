-- What a board's calls do, and what is done with its clearances, are steps. Own.
use Rattle.std.specs.Prelude.{◌≡◌, ◌⊎◌, ℕ, ◌+◌, ◌<◌, ◌≤◌, true, List, [], length, drop, map as list_map, Option, Some, None, Contains}
use Rattle.mk_graph.specs.Edges.{has}
use Rattle.st_disk.specs.Crash.{Sides}
use Rattle.st_disk.specs.Moments.{Moments}
use Rattle.st_records.specs.declared.version.Form.{Form}
use Rattle.st_records.specs.declared.version.Form.TheVariants.{Plain}
use Rattle.st_records.specs.declared.record.Record.{Record}
use Rattle.st_records.specs.declared.record.Record.TheVariants as records
use Rattle.st_records.specs.Limits.{IsGoodIn}
use Rattle.st_records.specs.Parts.{target_of}
use Rattle.st_state.specs.State.{StateMap}
use Rattle.bd_links.specs.declared.stand.Stand.TheVariants.{Running}
use Rattle.bd_places.specs.declared.end.End.{End}
use Rattle.bd_places.specs.Settling.{Prerequisites, IsStanding}
use Rattle.bd_ledger.specs.declared.sent.Sent.{Sent}
use Rattle.bd_ledger.specs.declared.sent.Sent.TheVariants as sent
use Rattle.bd_ledger.specs.Sheet.{Sheet, nodes_on, name_of, sent_by, last_ticket, first_sheet_in, relisted, drained, submits, SettlesOn}
use Rattle.bd_lists.specs.declared.board.Advanced.{Advanced}
use Rattle.bd_lists.specs.Admission.{Run}
use Rattle.bd_lists.specs.Board.{IsTaken, CanAdvance, Advances, end_noted}
use Rattle.bd_flusher.specs.declared.site.receipt.Receipt.{Receipt}
use Rattle.bd_flusher.specs.Batches.{StandsAt}
use Rattle.bd_flusher.specs.Turns.{AreInTurn}
use Rattle.bd_flusher.specs.Site.{FactsIn, holding_in, Facts, in_form, holding}
use Rattle.bd_steps.specs.World.{World, opened_in}
use Rattle.bd_steps.specs.Event.{Event, submit, drain, advance, start, finish, power_cut, IsSilentFrom, MayHappen, after}
use Rattle.bd_steps.specs.Steps.{IsLeftBy}

-- what was submitted of the target of a node that has submitted so much: nothing; its 'begun' with this ticket and nothing since;
-- or an end with this ticket
abbrev pub IsSent : List Record → (name : List ℕ) → Sent → Type 0
IsSent notes name sent.Nothing = IsSilentFrom 0 name notes
IsSent notes name (sent.Begun ticket) = StandsAt notes ticket (records.Begun name) × IsSilentFrom (ticket + 1) name notes
IsSent notes name (sent.End ticket) = (note : Record) × StandsAt notes ticket note × (target_of note ≡ name)

-- nobody has gone on yet with the last record of the node
abbrev pub IsPending : Sheet → ℕ → Type 0
IsPending b n = (has b.standing.lists.unflushed n ≡ true) ⊎ (has b.standing.lists.flushing n ≡ true)

-- the board's records have this form; what waits on it are the submitted records that weren't taken, each under its ticket,
-- which count up to the number of submissions; of each node was submitted what it says; and recipes were cleared with tickets
-- with which somebody has gone on, and started and ended with such as were cleared. No two nodes have one name
pub record IsBoardBy (b : Sheet) (form : Form) (notes : List Record) (taken : ℕ) (cleared started ended : List ℕ) : Type 0 where
  pub own_form : b.form ≡ form
  pub own_names : (m n : ℕ) → m < nodes_on b → n < nodes_on b → name_of b m ≡ name_of b n → m ≡ n
  pub each_node : length b.sent ≡ nodes_on b
  pub count : b.submitted ≡ length notes
  pub fewer : taken ≤ length notes
  pub waiting : list_map (λ n. n.1) b.notes ≡ drop taken notes
  pub tickets : AreInTurn taken (list_map (λ n. n.0) b.notes)
  pub sent : (n : ℕ) → n < nodes_on b → IsSent notes (name_of b n) (sent_by b n)
  pub pending : (n ticket : ℕ) → n < nodes_on b → IsPending b n → last_ticket (sent_by b n) ≡ Some ticket → Contains cleared ticket → ⊥
  pub below : (ticket : ℕ) → Contains cleared ticket → ticket < length notes
  pub known : (ticket : ℕ) → Contains started ticket ⊎ Contains ended ticket → Contains cleared ticket

-- the board is as the steps so far have left it
abbrev pub IsBoardOf : Sheet → World → Type 0
IsBoardOf b w = IsBoardBy b w.form w.submitted w.taken w.cleared w.started w.ended

-- a board that was just made is as an opened world before any step
abbrev pub NewBoardIsOpenedIn : Form → Type 0
NewBoardIsOpenedIn form =
    (g : Prerequisites) (names : List (List ℕ)) (opening : StateMap) (sides : Sides)
    → ((m n : ℕ) → m < length g.counted → n < length g.counted → name_of (first_sheet_in form g names) m ≡ name_of (first_sheet_in form g names) n → m ≡ n)
    → IsBoardOf (first_sheet_in form g names) (opened_in form opening sides)

-- the recipe of the run that comes with a record has ended
abbrev pub HasEndedRun : World → Option Run → Type 0
HasEndedRun w None = Unit {0}
HasEndedRun w (Some run) = Contains w.ended run.ticket

-- what a board takes may be submitted by a step, and the board stays so
abbrev pub SubmitsAreSteps : Type 0
SubmitsAreSteps =
    (b : Sheet) (w : World) (n : ℕ) (note : Record) (run : Option Run)
    → IsBoardOf b w → IsStanding b.prerequisites (nodes_on b) b.standing → IsTaken b n note run → IsGoodIn w.form note → HasEndedRun w run
    → MayHappen w (submit note) × IsBoardOf (submits n note b) (after w (submit note))

-- where a site holds nothing, to take in what waits on the board is a step, and leaves both so
abbrev pub DrainsAreStepsIn : {D : Type 0} → (D → Moments) → Type 0
DrainsAreStepsIn {D} moments =
    (s : FactsIn D) (b : Sheet) (w : World) → IsLeftBy moments s w → IsBoardOf b w → s.held ≡ []
    → MayHappen w drain × IsLeftBy moments (holding_in b.notes s) (after w drain) × IsBoardOf (drained b) (after w drain)

-- the clearance with this ticket was handed out, and its recipe was neither started nor has it ended
pub record IsOut (w : World) (ticket : ℕ) : Type 0 where
  pub cleared : Contains w.cleared ticket
  pub unstarted : Contains w.started ticket → ⊥
  pub going : Contains w.ended ticket → ⊥

-- what going on with a receipt is: a recipe is cleared, with a ticket with which none was, or the node settles
abbrev pub IsAdvance : World → Receipt → Option End → Sheet → Type 0
IsAdvance w receipt None c =
    MayHappen w (advance receipt) × (Contains w.cleared receipt.ticket → ⊥) × IsOut (after w (advance receipt)) receipt.ticket
    × IsBoardOf c (after w (advance receipt))
IsAdvance w receipt (Some end) c = IsBoardOf c w

-- where a receipt was given by a look, a board that takes it makes such a step
abbrev pub AdvancesAreSteps : Type 0
AdvancesAreSteps =
    (b c : Sheet) (w : World) (n : ℕ) (receipt : Receipt) (a : Advanced Receipt)
    → IsBoardOf b w → IsStanding b.prerequisites (nodes_on b) b.standing → CanAdvance b n receipt.ticket receipt.noted
    → Contains w.receipts receipt → Advances b n receipt (end_noted receipt.noted) a c → IsAdvance w receipt (end_noted receipt.noted) c

-- a board's other moves are no steps
abbrev pub ClaimsAreNoSteps : Type 0
ClaimsAreNoSteps = (b : Sheet) (w : World) (n : ℕ) → IsBoardOf b w → IsBoardOf (relisted n Running b) w

abbrev pub SettlingsAreNoSteps : Type 0
SettlingsAreNoSteps = (b c : Sheet) (w : World) (n : ℕ) (end : End) → IsBoardOf b w → SettlesOn b n end c → IsBoardOf c w

-- a step that is none of the board's, nor a power cut
abbrev pub IsBesideBoard : Event → Type 0
IsBesideBoard (submit note) = ⊥
IsBesideBoard drain = ⊥
IsBesideBoard (advance receipt) = ⊥
IsBesideBoard (power_cut a b) = ⊥
IsBesideBoard _ = Unit {0}

-- it leaves the board so
abbrev pub StepsKeepBoards : Type 0
StepsKeepBoards = (b : Sheet) (w : World) (event : Event) → IsBoardOf b w → IsBesideBoard event → MayHappen w event → IsBoardOf b (after w event)

-- to run a recipe under a clearance that is out is the step that starts it, and then the one that ends it; to give the clearance
-- up is the latter alone
pub record IsSpending (w : World) (ticket : ℕ) : Type 0 where
  pub starts : MayHappen w (start ticket)
  pub gives_up : MayHappen w (finish ticket)
  pub ends : Contains (after w (start ticket)).started ticket

abbrev pub RecipesAreSteps : Type 0
RecipesAreSteps = (w : World) (ticket : ℕ) → IsOut w ticket → IsSpending w ticket

-- whatever came since, a recipe that was started may end
abbrev pub EndsAreSteps : Type 0
EndsAreSteps = (b : Sheet) (w : World) (ticket : ℕ) → IsBoardOf b w → Contains w.started ticket → MayHappen w (finish ticket)

-- a clearance stays out until that very recipe is started or ends
abbrev pub IsOfRecipe : Event → (ticket : ℕ) → Type 0
IsOfRecipe (start started) ticket = started ≡ ticket
IsOfRecipe (finish ended) ticket = ended ≡ ticket
IsOfRecipe _ ticket = ⊥

abbrev pub ClearancesStay : Type 0
ClearancesStay = (w : World) (event : Event) (ticket : ℕ) → IsOut w ticket → (IsOfRecipe event ticket → ⊥) → IsOut (after w event) ticket

-- ---- where records are written as in version 2

abbrev pub NewBoardIsOpened : Type 0
NewBoardIsOpened = NewBoardIsOpenedIn Plain

abbrev pub DrainsAreSteps : {D : Type 0} → (D → Moments) → Type 0
DrainsAreSteps {D} moments =
    (s : Facts D) (b : Sheet) (w : World) → IsLeftBy moments (in_form s) w → IsBoardOf b w → s.held ≡ []
    → MayHappen w drain × IsLeftBy moments (in_form (holding b.notes s)) (after w drain) × IsBoardOf (drained b) (after w drain)
