-- The value behind the site lock, as contracts see it, and what is true of it whenever the lock is free. Own.
use Rattle.std.specs.Prelude.{◌≡◌, ℕ, ◌+◌, ◌<◌, ◌^◌, Bool, false, List, [], length, map as list_map}
use Rattle.std.specs.List.{AllByRecursion}
use Rattle.st_disk.specs.declared.which.Which.{Which}
use Rattle.st_disk.specs.Moments.{Moments, now}
use Rattle.st_records.specs.declared.version.Version.{Version}
use Rattle.st_records.specs.declared.version.Form.{Form}
use Rattle.st_records.specs.declared.version.Form.TheVariants.{Plain}
use Rattle.st_records.specs.declared.record.Record.{Record}
use Rattle.st_records.specs.Forms.{form_of}
use Rattle.st_state.specs.State.{StateMap, replay}
use Rattle.st_recovery.specs.Stored.{AllRecoverIn, AllRecoverEitherIn}
use Rattle.bd_ledger.specs.Sheet.{IsWritableIn}
use Rattle.bd_flusher.specs.Batches.{AreIncreasing, last_of}
use Rattle.bd_flusher.specs.Parts.{Parts, parts}

-- the store, part by part; the state that opening gave; the told records, of which each ticket is a place; the batch that is
-- held, as its tickets and its records; the ends of the commits; and how long the side was when it was opened or last compacted
pub record FactsIn (D : Type 0) : Type 0 where
  pub disk : D
  pub side : Which
  pub form : Form
  pub newest : Form
  pub generation : ℕ
  pub end : ℕ
  pub dead : Bool
  pub state : StateMap
  pub opening : StateMap
  pub told : List Record
  pub tickets : List ℕ
  pub held : List Record
  pub ends : List ℕ
  pub size : ℕ

-- a store's parts beside what a site keeps itself
abbrev pub facts_in : {D : Type 0} (p : Parts D) (opening : StateMap) (told : List Record) (tickets : List ℕ) (held : List Record) (ends : List ℕ) (size : ℕ) → FactsIn D
facts_in p opening told tickets held ends size = record {
  disk = p.disk;
  side = p.side;
  form = p.form;
  newest = p.newest;
  generation = p.generation;
  end = p.end;
  dead = p.dead;
  state = p.state;
  opening = opening;
  told = told;
  tickets = tickets;
  held = held;
  ends = ends;
  size = size;
}

-- a site at first: nothing is told or held
abbrev pub first_facts_in : {D : Type 0} (disk : D) (side : Which) (form newest : Form) (generation end : ℕ) (state : StateMap) → FactsIn D
first_facts_in disk side form newest generation end state = facts_in (parts disk side form newest generation end false state) state [] [] [] [] end

-- the state by what was told
abbrev pub told_state : {D : Type 0} → FactsIn D → StateMap
told_state s = replay s.opening s.told

-- and by what is held too
abbrev pub held_state : {D : Type 0} → FactsIn D → StateMap
held_state s = replay (told_state s) s.held

-- what is told and what is held can be written; the store has the state by what was told; the ends increase, and the last is the
-- number of told records; while no call of the device has failed every pair of crash images recovers the state by what was
-- told, and after one that or the state by what is held too
pub record IsSiteIn {D : Type 0} (honest : Type 0) (moments : D → Moments) (s : FactsIn D) : Type 0 where
  pub told_writable : AllByRecursion (IsWritableIn s.newest) s.told
  pub held_writable : AllByRecursion (IsWritableIn s.newest) s.held
  pub each_ticket : length s.tickets ≡ length s.held
  pub few : length s.told + length s.held < 2 ^ 64
  pub folded : s.state ≡ told_state s
  pub increasing : AreIncreasing 0 s.ends
  pub last : last_of 0 s.ends ≡ length s.told
  pub recovers : honest → s.dead ≡ false → AllRecoverIn s.newest (told_state s) (now (moments s.disk))
  pub recovers_either : honest → AllRecoverEitherIn s.newest (told_state s) (held_state s) (now (moments s.disk))

-- the form that is written, what is told and held, its tickets, the ends and both states are as before; the disk, the side, its
-- length and whether the site is dead may be others
pub record KeepsRecords {D : Type 0} (old new : FactsIn D) : Type 0 where
  pub newest : new.newest ≡ old.newest
  pub opening : new.opening ≡ old.opening
  pub state : new.state ≡ old.state
  pub told : new.told ≡ old.told
  pub tickets : new.tickets ≡ old.tickets
  pub held : new.held ≡ old.held
  pub ends : new.ends ≡ old.ends

-- these drained records are held, each with its ticket
abbrev pub holding_in : {D : Type 0} → List (ℕ × Record) → FactsIn D → FactsIn D
holding_in notes s = record s { tickets = list_map (λ n. n.0) notes; held = list_map (λ n. n.1) notes }

-- ---- where version 2 is written

-- the same of a store of version 1 or 2
pub record Facts (D : Type 0) : Type 0 where
  pub disk : D
  pub side : Which
  pub version : Version
  pub generation : ℕ
  pub end : ℕ
  pub dead : Bool
  pub state : StateMap
  pub opening : StateMap
  pub told : List Record
  pub tickets : List ℕ
  pub held : List Record
  pub ends : List ℕ
  pub size : ℕ

abbrev pub facts : {D : Type 0} (disk : D) (side : Which) (version : Version) (generation end : ℕ) (dead : Bool) (state opening : StateMap)
    (told : List Record) (tickets : List ℕ) (held : List Record) (ends : List ℕ) (size : ℕ) → Facts D
facts disk side version generation end dead state opening told tickets held ends size = record {
  disk = disk;
  side = side;
  version = version;
  generation = generation;
  end = end;
  dead = dead;
  state = state;
  opening = opening;
  told = told;
  tickets = tickets;
  held = held;
  ends = ends;
  size = size;
}

abbrev pub first_facts : {D : Type 0} (disk : D) (side : Which) (version : Version) (generation end : ℕ) (state : StateMap) → Facts D
first_facts disk side version generation end state = facts disk side version generation end false state state [] [] [] [] end

-- the forms are those of the version, and of version 2
abbrev pub in_form : {D : Type 0} → Facts D → FactsIn D
in_form s = facts_in (parts s.disk s.side (form_of s.version) Plain s.generation s.end s.dead s.state) s.opening s.told s.tickets s.held s.ends s.size

abbrev pub IsSite : {D : Type 0} (honest : Type 0) (moments : D → Moments) → Facts D → Type 0
IsSite honest moments s = IsSiteIn honest moments (in_form s)

abbrev pub holding : {D : Type 0} → List (ℕ × Record) → Facts D → Facts D
holding notes s = record s { tickets = list_map (λ n. n.0) notes; held = list_map (λ n. n.1) notes }
