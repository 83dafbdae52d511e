-- What a worker does with a node. Own.
use Rattle.std.specs.Prelude.{◌≡◌, Bool, true, false, Option, Some, None}
use Rattle.st_records.specs.declared.record.Record.{Record}
use Rattle.jb_runner.specs.declared.beginning.Begun.{Begun}
use Rattle.jb_runner.specs.declared.beginning.Begun.TheVariants.{Cleared, Refused}
use Rattle.bd_flusher.specs.declared.site.receipt.Receipt.{Receipt}
use Rattle.bd_lists.specs.declared.board.Advanced.{Advanced}
use Rattle.bd_lists.specs.declared.board.Advanced.TheVariants as advanced
use Rattle.bd_places.specs.declared.end.End.{End}
use Rattle.bd_places.specs.declared.end.End.TheVariants as end

-- whether a node that has ended so was made anew in this run
abbrev pub is_remade : Option End → Bool
is_remade None = false
is_remade (Some end.UpToDate) = false
is_remade (Some end.Remade) = true
is_remade (Some end.Built) = true
is_remade (Some (end.Failed status)) = false
is_remade (Some end.Abandoned) = false

-- where the 'begun' was taken, the clearance holds the receipt of this very record
abbrev pub IsClearedFor : Record → Begun → Type 0
IsClearedFor begun (Cleared clearance) = clearance.told.noted ≡ begun
IsClearedFor begun Refused = Unit {0}

-- what the board hands out for a receipt holds that receipt
abbrev pub IsHandedOut : Receipt → Advanced Receipt → Type 0
IsHandedOut receipt (advanced.Cleared clearance) = clearance.told ≡ receipt
IsHandedOut receipt (advanced.Settled back) = back ≡ receipt
