-- Which receipts are those of the records that were told. Own.
use Rattle.std.specs.Prelude.{◌≡◌, ℕ, ◌<◌, List, [], ◌∷◌, ◌++◌, filter, map, nat_eq, Option, Some, None, slice_get}
use Rattle.st_records.specs.declared.record.Record.{Record}
use Rattle.bd_flusher.specs.declared.site.receipt.Receipt.{Receipt}
use Rattle.jb_closing.specs.declared.agreement.Mark.{Mark}
use Rattle.jb_closing.specs.declared.agreement.Mark.TheVariants.{Missing, Right, Wrong}

-- the records that the receipts with this ticket note, in the order of the receipts
abbrev pub noted_at : List Receipt → (ticket : ℕ) → List Record
noted_at receipts ticket = map (λ r. r.noted) (filter (λ r. nat_eq r.ticket ticket) receipts)

-- the record that was told under this ticket, if there is one
abbrev pub as_list : Option Record → List Record
as_list None = []
as_list (Some note) = note ∷ []

abbrev pub told_at : List Record → (ticket : ℕ) → List Record
told_at told ticket = as_list (slice_get told ticket)

-- at this ticket they agree: a record was told and one receipt notes it, or there is neither record nor receipt
abbrev pub Agrees : (told : List Record) → List Receipt → (ticket : ℕ) → Type 0
Agrees told receipts ticket = noted_at receipts ticket ≡ told_at told ticket

-- the receipts are those of the told records, each ticket just once
abbrev pub AreThoseOf : (told : List Record) → List Receipt → Type 0
AreThoseOf told receipts = (ticket : ℕ) → Agrees told receipts ticket

-- the first ticket at which they differ
pub record IsFirstDifference (told : List Record) (receipts : List Receipt) (ticket : ℕ) : Type 0 where
  pub differs : Agrees told receipts ticket → ⊥
  pub first : (earlier : ℕ) → earlier < ticket → Agrees told receipts earlier

-- whatever is noted under the ticket behind these, it isn't the one told record alone
abbrev pub IsWrong : (told : Record) → (noted : List Record) → Type 0
IsWrong told noted = (more : List Record) → noted ++ more ≡ told ∷ [] → ⊥

-- what a mark says of the records that receipts note under the ticket of a told one
abbrev pub IsMark : Mark → (told : Record) → (noted : List Record) → Type 0
IsMark Missing told noted = noted ≡ []
IsMark Right told noted = noted ≡ told ∷ []
IsMark Wrong told noted = IsWrong told noted
