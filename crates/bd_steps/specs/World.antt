-- All that has happened since a store was opened, as far as the promise speaks of it. Own.
use Rattle.std.specs.Prelude.{ℕ, Bool, false, List, [], Option, None, take}
use Rattle.st_disk.specs.Crash.{Sides}
use Rattle.st_records.specs.declared.version.Form.{Form}
use Rattle.st_records.specs.declared.version.Form.TheVariants.{Plain}
use Rattle.st_records.specs.declared.record.Record.{Record}
use Rattle.st_state.specs.State.{StateMap, replay}
use Rattle.bd_flusher.specs.declared.site.receipt.Receipt.{Receipt}

-- the form in which records are written; the state that opening gave; the submitted records in order, so that a ticket is a
-- place among them; how many of them are told, and how many were taken to be told next; the ends of the commits; the receipts
-- that were given; the tickets whose recipe was cleared, started and ended; whether a call of the device has failed; what a
-- power cut may leave of both sides; and what it left, if one came
pub record World : Type 0 where
  pub form : Form
  pub opening : StateMap
  pub submitted : List Record
  pub told : ℕ
  pub taken : ℕ
  pub ends : List ℕ
  pub receipts : List Receipt
  pub cleared : List ℕ
  pub started : List ℕ
  pub ended : List ℕ
  pub dead : Bool
  pub sides : Sides
  pub left : Option (List ℕ × List ℕ)

-- right after a store was opened that writes this form: it recovered this state, and a power cut may leave this
abbrev pub opened_in : Form → StateMap → Sides → World
opened_in form opening sides = record {
  form = form;
  opening = opening;
  submitted = [];
  told = 0;
  taken = 0;
  ends = [];
  receipts = [];
  cleared = [];
  started = [];
  ended = [];
  dead = false;
  sides = sides;
  left = None;
}

-- the same where records are written as in version 2
abbrev pub opened : StateMap → Sides → World
opened = opened_in Plain

-- the state after the first n submitted records, taken in one after another
abbrev pub state_after : World → ℕ → StateMap
state_after w n = replay w.opening (take n w.submitted)
