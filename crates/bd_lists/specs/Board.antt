-- What a board takes, and what its calls leave. Own.
use Rattle.std.specs.Prelude.{◌≡◌, ℕ, ◌<◌, true, false, Option, Some, None}
use Rattle.mk_graph.specs.Edges.{has}
use Rattle.st_records.specs.declared.record.Record.{Record}
use Rattle.st_records.specs.declared.record.Record.TheVariants as records
use Rattle.st_records.specs.Parts.{target_of}
use Rattle.st_records.specs.declared.version.Form.{Form}
use Rattle.bd_lists.specs.declared.board.Advanced.{Advanced}
use Rattle.bd_lists.specs.declared.board.Advanced.TheVariants as advanced
use Rattle.bd_lists.specs.declared.board.clearance.Spent.{Spent}
use Rattle.bd_places.specs.declared.end.End.{End}
use Rattle.bd_places.specs.declared.end.End.TheVariants as end
use Rattle.bd_ledger.specs.declared.sent.Sent.TheVariants as sent
use Rattle.bd_links.specs.declared.stand.Stand.TheVariants.{Running}
use Rattle.bd_lists.specs.Admission.{Run, MaySend}
use Rattle.bd_ledger.specs.Sheet.{Sheet, nodes_on, name_of, sent_by, last_ticket, is_kept, is_quiet, relisted, SettlesOn}

-- the node is one of the board and in Running, the record is of its target, and the node may submit it
pub record IsTaken (b : Sheet) (n : ℕ) (note : Record) (run : Option Run) : Type 0 where
  pub within : n < nodes_on b
  pub runs : has b.standing.lists.running n ≡ true
  pub own : target_of note ≡ name_of b n
  pub kind : MaySend (sent_by b n) note run

-- and the record's form is that in which the board's are written
abbrev pub IsTakenIn : Form → Sheet → ℕ → Record → Option Run → Type 0
IsTakenIn form b n note run = (b.form ≡ form) × IsTaken b n note run

-- what a submission hands out: the receipt of the run that came with it
abbrev pub handed_out : {T : Type 0} → Option (Spent T) → Option T
handed_out None = None
handed_out (Some spent) = Some spent.told

-- the node is in Flushing, and the receipt is of its last ticket and of no record that was kept
pub record CanAdvance (b : Sheet) (n ticket : ℕ) (noted : Record) : Type 0 where
  pub flushing : has b.standing.lists.flushing n ≡ true
  pub last : last_ticket (sent_by b n) ≡ Some ticket
  pub written : is_kept noted ≡ false

-- how a node ended whose record is that; None where its recipe is yet to be run
abbrev pub end_noted : Record → Option End
end_noted (records.Begun target) = None
end_noted (records.Done target commands hidden explicit) = Some end.Built
end_noted (records.Failed target status) = Some (end.Failed status)
end_noted (records.Kept target entry) = None

-- the node settles, or, where its recipe is yet to be run, goes to the end of Running with a clearance
abbrev pub Advances : {T : Type 0} → Sheet → ℕ → T → Option End → Advanced T → Sheet → Type 0
Advances b n told None a c = (a ≡ advanced.Cleared (record { told = told })) × (c ≡ relisted n Running b)
Advances b n told (Some e) a c = (a ≡ advanced.Settled told) × SettlesOn b n e c

-- the node is in Running and has submitted nothing, and the end says that nothing had to be done
pub record IsUntouched (b : Sheet) (n : ℕ) (end : End) : Type 0 where
  pub runs : has b.standing.lists.running n ≡ true
  pub silent : sent_by b n ≡ sent.Nothing
  pub quiet : is_quiet end ≡ true
