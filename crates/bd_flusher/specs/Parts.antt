-- A store as contracts see it, whatever its type. Own.
use Rattle.std.specs.Prelude.{◌≡◌, ℕ, Bool}
use Rattle.st_disk.specs.declared.which.Which.{Which}
use Rattle.st_records.specs.declared.version.Version.{Version}
use Rattle.st_records.specs.declared.version.Form.{Form}
use Rattle.st_records.specs.declared.version.Form.TheVariants.{Plain}
use Rattle.st_records.specs.Forms.{form_of}
use Rattle.st_state.specs.State.{StateMap}

-- the disk and the side that counts, with the form of its records, its generation and its end; `newest` is the form that is written
pub record Parts (D : Type 0) : Type 0 where
  pub disk : D
  pub side : Which
  pub form : Form
  pub newest : Form
  pub generation : ℕ
  pub end : ℕ
  pub dead : Bool
  pub state : StateMap

abbrev pub parts : {D : Type 0} (disk : D) (side : Which) (form newest : Form) (generation end : ℕ) (dead : Bool) (state : StateMap) → Parts D
parts disk side form newest generation end dead state = record {
  disk = disk;
  side = side;
  form = form;
  newest = newest;
  generation = generation;
  end = end;
  dead = dead;
  state = state;
}

-- those of a store that writes version 2
abbrev pub plain_parts : {D : Type 0} (disk : D) (side : Which) (version : Version) (generation end : ℕ) (dead : Bool) (state : StateMap) → Parts D
plain_parts disk side version generation end dead state = parts disk side (form_of version) Plain generation end dead state

-- a side of this form takes batches: it is the one that is written
abbrev pub Written : (form newest : Form) → Type 0
Written form newest = form ≡ newest
