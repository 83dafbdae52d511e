-- What is said and what went out, and why a listing or an answer is refused.
use Rattle.std.specs.Prelude.{true, ◌++◌, codes, ◌≡◌, ◌≢◌, ◌&&◌, ℕ, Bool, false, not, List, [], Option, if◌then◌else◌}
use Rattle.std.specs.Io.KnownBytes.{Appends, Keeps}
use Rattle.mk_plan.specs.Passage.{Passage}
use Rattle.mk_plan.specs.declared.telling.Telling.{Telling}
use Rattle.dmk_dry.specs.AlwaysRun.{lines_run_always}
use Rattle.dmk_dry.specs.declared.always_run.AlwaysRun.{AlwaysRun}
use Rattle.dmk_messages.specs.Messages.{SaysFault, note_lines, line_of}
use Rattle.dmk_dry.specs.Listing.{listing_text}
use Rattle.dmk_reading.specs.Passing.{lists_any}
use Rattle.dmk_messages.specs.declared.fault.Fault.{Fault}
use Rattle.dmk_messages.specs.Output.{AppendsPart}

-- where each line was taken, known bytes grow by what there is to say of soft edges
abbrev pub SaysNote : (err err_after : Option (List ℕ)) (told dropped : Bool) → Type 0
SaysNote err err_after told dropped = told ≡ true → Appends err err_after (note_lines dropped)

-- so they do where the listing wasn't taken, and by the line that says so behind it
abbrev pub SaysCut : (err err_after : Option (List ℕ)) (told dropped : Bool) → Type 0
SaysCut err err_after told dropped = told ≡ true → Appends err err_after (note_lines dropped ++ line_of (codes "cannot write"))

-- a fault is told: it is one of the run, nothing was listed, and where each line was taken its line stands on standard error
pub record TellsFault (Meets : Fault → Type 0) (told : Bool) (out out_after err err_after : Option (List ℕ)) : Type 0 where
  pub fault : Fault
  pub meets : Meets fault
  pub silent : Keeps out out_after
  pub line : told ≡ true → SaysFault err err_after fault

-- the listing of a plan, of which a question has no recipes, is cut short: a part of it went out, and where each line was taken
-- standard error says so. Before that it tells each name that nothing makes, in a text of a crate below
pub record CutsListing (Plans : List Passage → Bool → List (List ℕ) → Type 0) (telling : Telling) (asks : Bool) (told : Bool)
    (out out_after err err_after : Option (List ℕ)) : Type 0 where
  pub plan : List Passage
  pub dropped : Bool
  pub unmade : List (List ℕ)
  pub planned : Plans plan dropped unmade
  pub part : AppendsPart out out_after (listing_text telling (not asks) plan)
  pub line : unmade ≡ [] → SaysCut err err_after told (dropped && not asks)

-- there are names that nothing makes: the listing of a plan without them went out, or what a question has of it, and these are its lines
-- that are run all the same
pub record ListsWithout (Plans : List Passage → Bool → List (List ℕ) → Type 0) (telling : Telling) (asks : Bool)
    (out out_after : Option (List ℕ)) (always : List AlwaysRun) : Type 0 where
  pub plan : List Passage
  pub dropped : Bool
  pub unmade : List (List ℕ)
  pub planned : Plans plan dropped unmade
  pub some : unmade ≢ []
  pub whole : Appends out out_after (listing_text telling (not asks) plan)
  pub lines : always ≡ lines_run_always telling (not asks) plan

-- how `-q` answers of what is listed: 1 where a recipe is
abbrev pub question_status : List Passage → ℕ
question_status plan = if lists_any plan then 1 else 0

-- the status of what went out whole and is without no name: that of the answer, if there is one
abbrev pub shown_status : (asks lists : Bool) → ℕ
shown_status true lists = if lists then 1 else 0
shown_status false lists = 0
