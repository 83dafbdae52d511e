-- The board as contracts see it. Own.
use Rattle.std.specs.Prelude.{◌≡◌, ℕ, ◌+◌, ◌<◌, Bool, true, false, List, [], ◌∷◌, ◌++◌, length, slice_index_or, slice_set, replicate, Option, Some, None}
use Rattle.std.specs.List.{AllByRecursion}
use Rattle.st_records.specs.Limits.{IsGoodIn}
use Rattle.st_records.specs.declared.version.Form.{Form}
use Rattle.st_records.specs.declared.version.Form.TheVariants.{Plain}
use Rattle.st_records.specs.declared.record.Record.{Record}
use Rattle.st_records.specs.declared.record.Record.TheVariants as records
use Rattle.st_records.specs.Parts.{target_of}
use Rattle.bd_places.specs.declared.end.End.{End}
use Rattle.bd_places.specs.declared.end.End.TheVariants as end
use Rattle.bd_ledger.specs.declared.sent.Sent.{Sent}
use Rattle.bd_ledger.specs.declared.sent.Sent.TheVariants as sent
use Rattle.bd_links.specs.declared.stand.Stand.{Stand}
use Rattle.bd_links.specs.declared.stand.Stand.TheVariants.{Unflushed}
use Rattle.bd_places.specs.Placed.{first_standing}
use Rattle.bd_links.specs.SixLists.{moved, joined}
use Rattle.bd_places.specs.Settling.{Prerequisites, Standing, Settles}

-- the form in which records are written, the nodes' prerequisites and names, where they stand and how they ended, what each has
-- submitted, the records of Unflushed in its order, each with its ticket, and how many submissions there were
pub record Sheet : Type 0 where
  pub form : Form
  pub prerequisites : Prerequisites
  pub names : List (List ℕ)
  pub standing : Standing
  pub sent : List Sent
  pub notes : List (ℕ × Record)
  pub submitted : ℕ

abbrev pub nodes_on : Sheet → ℕ
nodes_on b = length b.prerequisites.counted

abbrev pub name_of : Sheet → ℕ → List ℕ
name_of b n = slice_index_or b.names n []

abbrev pub sent_by : Sheet → ℕ → Sent
sent_by b n = slice_index_or b.sent n sent.Nothing

-- no two of the names are alike, so a record's target is the name of one node at most
abbrev pub AreDistinct : (names : List (List ℕ)) → Type 0
AreDistinct names = (n m : ℕ) → n < length names → m < length names → slice_index_or names n [] ≡ slice_index_or names m [] → n ≡ m

-- the node goes to the end of a list
abbrev pub relisted : ℕ → Stand → Sheet → Sheet
relisted n to b = record b { standing = record b.standing { lists = moved n to b.standing.lists } }

-- all of Unflushed goes to the end of Flushing, and its records are handed out
abbrev pub drained : Sheet → Sheet
drained b = record b { standing = record b.standing { lists = joined b.standing.lists }; notes = [] }

-- what a node has submitted once it submits a record with this ticket
abbrev pub sent_with : Record → (ticket : ℕ) → Sent
sent_with (records.Begun target) ticket = sent.Begun ticket
sent_with (records.Done target commands hidden explicit) ticket = sent.End ticket
sent_with (records.Failed target status) ticket = sent.End ticket
sent_with (records.Kept target entry) ticket = sent.Nothing

-- the node submits a record: it goes to the end of Unflushed
abbrev pub submits : ℕ → Record → Sheet → Sheet
submits n note b = record b {
  standing = record b.standing { lists = moved n Unflushed b.standing.lists };
  sent = slice_set b.sent n (sent_with note b.submitted);
  notes = b.notes ++ (b.submitted, note) ∷ [];
  submitted = b.submitted + 1;
}

-- how many records a node has submitted: a 'begun' comes before an end
abbrev pub sent_count : Sent → ℕ
sent_count sent.Nothing = 0
sent_count (sent.Begun ticket) = 1
sent_count (sent.End ticket) = 2

-- nothing had to be done
abbrev pub is_quiet : End → Bool
is_quiet end.UpToDate = true
is_quiet end.Remade = true
is_quiet end.Built = false
is_quiet (end.Failed status) = false
is_quiet end.Abandoned = false

abbrev pub is_kept : Record → Bool
is_kept (records.Begun target) = false
is_kept (records.Done target commands hidden explicit) = false
is_kept (records.Failed target status) = false
is_kept (records.Kept target entry) = true

-- the record can be written where records of this form are: it is good in it, so a done one has marks just where the form has
-- them, and none that was kept
pub record IsWritableIn (form : Form) (note : Record) : Type 0 where
  pub good : IsGoodIn form note
  pub fresh : is_kept note ≡ false

-- so are all of these, each with its ticket
abbrev pub AreWritableIn : Form → List (ℕ × Record) → Type 0
AreWritableIn form notes = AllByRecursion (λ n. IsWritableIn form n.1) notes

-- the ticket of the last record of a node that has submitted so much
abbrev pub last_ticket : Sent → Option ℕ
last_ticket sent.Nothing = None
last_ticket (sent.Begun ticket) = Some ticket
last_ticket (sent.End ticket) = Some ticket

-- the records are of these nodes, one of each in their order: each names the node, and has its last ticket
abbrev pub AreOf : (names : List (List ℕ)) (past : List Sent) → List ℕ → List (ℕ × Record) → Type 0
AreOf names past [] [] = Unit {0}
AreOf names past [] (note ∷ notes) = ⊥
AreOf names past (n ∷ nodes) [] = ⊥
AreOf names past (n ∷ nodes) (note ∷ notes) =
    (last_ticket (slice_index_or past n sent.Nothing) ≡ Some note.0) × (target_of note.1 ≡ slice_index_or names n []) × AreOf names past nodes notes

-- the board of a graph at first: nobody has submitted anything
abbrev pub first_sheet_in : Form → Prerequisites → (names : List (List ℕ)) → Sheet
first_sheet_in form g names = record {
  form = form;
  prerequisites = g;
  names = names;
  standing = first_standing g;
  sent = replicate (length g.counted) sent.Nothing;
  notes = [];
  submitted = 0;
}

-- the node settles with this end, and with it what it frees and can't be made; nothing else changes
pub record SettlesOn (b : Sheet) (n : ℕ) (end : End) (c : Sheet) : Type 0 where
  pub rest : c ≡ record b { standing = c.standing }
  pub settles : Settles b.prerequisites n end b.standing c.standing

-- ---- where records are written as in version 2

abbrev pub IsWritable : Record → Type 0
IsWritable = IsWritableIn Plain

abbrev pub AreWritable : List (ℕ × Record) → Type 0
AreWritable = AreWritableIn Plain

abbrev pub first_sheet : Prerequisites → (names : List (List ℕ)) → Sheet
first_sheet = first_sheet_in Plain
