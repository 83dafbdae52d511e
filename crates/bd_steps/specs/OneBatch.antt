-- The third clause: a receipt says which batch holds its record, and there is just one.
use Rattle.std.specs.Prelude.{◌≡◌, ℕ}
use Rattle.st_records.specs.declared.record.Record.{Record}
use Rattle.bd_flusher.specs.declared.site.receipt.Receipt.{Receipt}
use Rattle.bd_flusher.specs.Batches.{StandsAt, IsInBatch}
use Rattle.bd_steps.specs.World.{World}

-- the batch of this number holds the record: it has the ticket of a submission of it
abbrev pub HoldsRecord : World → Record → (batch : ℕ) → Type 0
HoldsRecord w note batch = (ticket : ℕ) × StandsAt w.submitted ticket note × IsInBatch 0 w.ends ticket batch

-- the receipt's record was submitted with its ticket, its batch has that ticket, and no other batch holds the record
pub record NamesItsBatch (w : World) (receipt : Receipt) : Type 0 where
  pub stands : StandsAt w.submitted receipt.ticket receipt.noted
  pub has_it : IsInBatch 0 w.ends receipt.ticket receipt.batch
  pub only : (batch : ℕ) → HoldsRecord w receipt.noted batch → batch ≡ receipt.batch
