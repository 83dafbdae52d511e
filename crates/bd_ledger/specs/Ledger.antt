-- What contracts see of a ledger, and what is true of it. Own.
use Rattle.std.specs.Prelude.{◌≡◌, ◌+◌, ◌<◌, ◌≤◌, length, sum_by, vec_capacity}
use Rattle.bd_ledger.specs.declared.ledger.Ledger.TheInside.{Inside}
use Rattle.bd_places.specs.Placed.{nodes_of}
use Rattle.bd_ledger.specs.Sheet.{Sheet, sent_count, AreDistinct, AreWritableIn, AreOf}

abbrev pub sheet_of : Inside → Sheet
sheet_of a = record {
  form = a.form;
  prerequisites = a.places.prerequisites;
  names = a.names.items;
  standing = a.places.standing;
  sent = a.sent.items;
  notes = a.notes.items;
  submitted = a.submitted;
}

-- the tables are as long as there are nodes, no two of which have one name; the records of Unflushed are its nodes' own, can be
-- written in the ledger's form and have room; and the counts don't run over: a node submits two records at most, and a join needs a submission before it
pub record IsLedger (a : Inside) : Type 0 where
  pub names : length a.names.items ≡ nodes_of a.places
  pub distinct : AreDistinct a.names.items
  pub sent : length a.sent.items ≡ nodes_of a.places
  pub own : AreOf a.names.items a.sent.items a.places.standing.lists.unflushed a.notes.items
  pub notes : length a.notes.items ≡ length a.places.standing.lists.unflushed
  pub writable : AreWritableIn a.form a.notes.items
  pub room : nodes_of a.places ≤ vec_capacity a.notes
  pub few : nodes_of a.places + nodes_of a.places < 0xFFFF_FFFF_FFFF_FFFF
  pub submitted : sum_by sent_count a.sent.items ≡ a.submitted
  pub joins : a.places.joins + length a.notes.items ≤ a.submitted
