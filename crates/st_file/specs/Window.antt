-- The part of a side that is in memory while the side is read forward. The steps are this project's own.
use Rattle.std.specs.Prelude.{◌≡◌, ◌⊎◌, ℕ, ◌+◌, ◌≤◌, ◌^◌, List, [], ◌∷◌, ◌++◌, length, drop}
use Rattle.st_records.specs.declared.version.Form.{Form}
use Rattle.st_records.specs.declared.record.Record.{Record}
use Rattle.st_file.specs.Batch.{body_in, framed_in}
use Rattle.st_file.specs.declared.layout.TheConstants.{HEADER_BYTES}
use Rattle.st_file.specs.declared.window.Window.{Window}

-- the bytes in memory that aren't read off
abbrev pub ahead : Window → List ℕ
ahead w = drop w.passed w.bytes.items

-- no more bytes are read off than there are, and none stands behind the side's length
pub record IsSound (w : Window) : Type 0 where
  pub passed : w.passed ≤ length w.bytes.items
  pub within : w.place + length (ahead w) ≤ w.len

-- the window is on a side of these bytes, and has in memory what follows its place there, or the front of it
pub record Shows (x : List ℕ) (w : Window) : Type 0 where
  pub len_is : w.len ≡ length x
  pub behind : List ℕ
  pub parts : drop w.place x ≡ ahead w ++ behind

-- it has all that a header may take up at the front of the side
pub record ShowsHeader (x : List ℕ) (w : Window) : Type 0 where
  pub shows : Shows x w
  pub whole : (HEADER_BYTES ≤ length (ahead w)) ⊎ (shows.behind ≡ [])

-- where a side has so many bytes left, and these in front of them are all or reach over a batch's frame, no batch that
-- begins with them is longer than this
pub record IsEnough (front : List ℕ) (left n : ℕ) : Type 0 where
  pub holds : (form : Form) (rs : List Record) (gate : ℕ) (behind rest : List ℕ) → length (body_in form rs) ≤ 2 ^ 30
      → length front + length behind ≡ left → (9 ≤ length front) ⊎ (behind ≡ [])
      → front ++ behind ≡ gate ∷ (framed_in form rs ++ rest) → 9 + length (body_in form rs) ≤ n

-- it has all of a batch, of any form and as long as it may be, that begins at its place
pub record ShowsBatch (x : List ℕ) (w : Window) : Type 0 where
  pub shows : Shows x w
  pub whole : (form : Form) (rs : List Record) (gate : ℕ) (rest : List ℕ) → length (body_in form rs) ≤ 2 ^ 30
      → drop w.place x ≡ gate ∷ (framed_in form rs ++ rest) → 9 + length (body_in form rs) ≤ length (ahead w)
