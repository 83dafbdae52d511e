-- Submissions whose workers know that they were written.
use Rattle.std.specs.Prelude.{◌≡◌, ℕ, Contains}
use Rattle.bd_flusher.specs.declared.site.receipt.Receipt.{Receipt}
use Rattle.bd_steps.specs.World.{World}

-- a receipt of this ticket was given
abbrev pub IsAcknowledged : World → (ticket : ℕ) → Type 0
IsAcknowledged w ticket = (receipt : Receipt) × Contains w.receipts receipt × (receipt.ticket ≡ ticket)
