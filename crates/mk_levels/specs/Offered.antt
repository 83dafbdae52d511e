-- What the states of other levels know of a target that may be taken over. Own: a recipe that was begun or has failed, by whatever
-- state, is to be run again, as make(1S) has it of one that was interrupted.
use Rattle.std.specs.Prelude.{◌≡◌, ◌&&◌, ℕ, Bool, true, false, List, Option, None, Some, find}
use Rattle.std.specs.FinMap as map
use Rattle.std.specs.List.{list_all}
use Rattle.st_records.specs.declared.record.Phase.{Phase}
use Rattle.st_records.specs.declared.record.Phase.TheVariants.{Begun, Done, Failed}
use Rattle.st_records.specs.declared.record.Explicit.{Explicit}
use Rattle.st_records.specs.declared.record.Explicit.TheVariants.{Unknown, Known, Marked}
use Rattle.st_records.specs.declared.record.Entry.{Entry}
use Rattle.st_state.specs.State.{StateMap}
use Rattle.mk_levels.specs.declared.level.Level.{Level}

-- the recipe was run to its end
abbrev pub is_done : Phase → Bool
is_done Begun = false
is_done Done = true
is_done (Failed status) = false

-- it is known which files the target was made of
abbrev pub has_marks : Explicit → Bool
has_marks Unknown = false
has_marks (Known names) = false
has_marks (Marked names marks) = true

-- nothing is known of a target, or that its recipe was run to its end
abbrev pub is_settled : Option Entry → Bool
is_settled None = true
is_settled (Some e) = is_done e.phase

-- the recipe was run to its end, and it is known of which files
abbrev pub tells : Option Entry → Bool
tells None = false
tells (Some e) = is_done e.phase && has_marks e.explicit

abbrev pub is_settled_by : (name : List ℕ) → Level → Bool
is_settled_by name level = is_settled (map.get level.state name)

-- this level can tell of what the target was made
abbrev pub knows : (name : List ℕ) → Level → Bool
knows name level = tells (map.get level.state name)

-- the entry is offered of the target: neither its own state nor one of another level has its recipe as begun or failed, and this is
-- what the first of those that can tell of what it was made knows
pub record IsOffered (own : StateMap) (levels : List Level) (name : List ℕ) (e : Entry) : Type 0 where
  pub own_settled : is_settled (map.get own name) ≡ true
  pub levels_settled : list_all (is_settled_by name) levels ≡ true
  pub level : Level
  pub is_first : find (knows name) levels ≡ Some level
  pub is_known : map.get level.state name ≡ Some e
