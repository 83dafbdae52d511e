-- The mark of one file, by a look at it. Own; that a file which was changed in the tick of a begin can't be told from a later one is
-- known of git's index ("racy" entries).
use Rattle.std.specs.Prelude.{◌≡◌, ◌⊎◌, ℕ, ℤ, ◌<ℤ◌, Bool, true, false, FitsSigned}
use Rattle.std.specs.Int.{w64}
use Rattle.st_marks.specs.Encoding.{stamp_of}
use Rattle.st_marks.specs.declared.mark.Stamp.{Stamp}
use Rattle.st_marks.specs.declared.mark.Mark.{Mark}
use Rattle.st_marks.specs.declared.mark.Mark.TheVariants as mark
use Rattle.jb_marks.specs.declared.sights.Sight.{Sight}
use Rattle.jb_marks.specs.declared.sights.Sight.TheVariants.{NoFile, Other, File}

-- a mark with the stamp of a file of this time and so many bytes, or an unknown one where a stamp has no place for the time
abbrev pub IsStamped : (kind : Stamp → Mark) → (time : ℤ) (size : ℕ) → Mark → Type 0
IsStamped kind time size m = (FitsSigned w64 time → m ≡ kind (stamp_of time size)) × ((FitsSigned w64 time → ⊥) → m ≡ mark.Unknown)

-- the mark of what a look tells
abbrev pub IsMarkOf : Sight → Mark → Type 0
IsMarkOf NoFile m = m ≡ mark.NoFile
IsMarkOf Other m = m ≡ mark.Other
IsMarkOf (File time size changed) m = IsStamped mark.File time size m

-- the same of a file that the recipe writes itself
abbrev pub IsOwnMarkOf : Sight → Mark → Type 0
IsOwnMarkOf NoFile m = m ≡ mark.NoFile
IsOwnMarkOf Other m = m ≡ mark.Other
IsOwnMarkOf (File time size changed) m = IsStamped mark.Own time size m

-- ---- which looks count

-- a look when the recipe was begun tells the file of then from every later one: nothing of it was changed in the tick of the begin
abbrev pub IsSettled : (tick : ℤ) → Sight → Type 0
IsSettled tick NoFile = Unit {0}
IsSettled tick Other = Unit {0}
IsSettled tick (File time size changed) = changed <ℤ tick

-- a look when it has ended tells what one at the begin would have: nothing of the file was changed since. A file that isn't there
-- may have been there
abbrev pub IsSettledBehind : (tick : ℤ) → Sight → Type 0
IsSettledBehind tick NoFile = ⊥
IsSettledBehind tick Other = Unit {0}
IsSettledBehind tick (File time size changed) = changed <ℤ tick

-- the look counts: it is settled, or the run has said that it made the file before the begin
abbrev pub IsSure : (settled : Type 0) → (said : Bool → Type 0) → Type 0
IsSure settled said = settled ⊎ said true

-- it doesn't count
abbrev pub IsUnsure : (settled : Type 0) → (said : Bool → Type 0) → Type 0
IsUnsure settled said = (settled → ⊥) × said false

-- ---- the mark of a prerequisite

-- by a look when the recipe was begun: of what it told, if the look counts, or else unknown
abbrev pub IsMarkAtBegin : (told : Sight → Type 0) → (said : Bool → Type 0) → (tick : ℤ) → Mark → Type 0
IsMarkAtBegin told said tick m =
    (sight : Sight) × told sight
    × ((IsSure (IsSettled tick sight) said × IsMarkOf sight m) ⊎ (IsUnsure (IsSettled tick sight) said × (m ≡ mark.Unknown)))

-- of a look behind the recipe that doesn't count: where it was so before, the recipe takes the file for its own; else unknown
abbrev pub IsOpenMarkOf : (open' : Bool) → Sight → Mark → Type 0
IsOpenMarkOf true sight m = IsOwnMarkOf sight m
IsOpenMarkOf false sight m = m ≡ mark.Unknown

-- by a look behind the recipe
abbrev pub IsMarkBehind : (told : Sight → Type 0) → (said : Bool → Type 0) → (tick : ℤ) → (open' : Bool) → Mark → Type 0
IsMarkBehind told said tick open' m =
    (sight : Sight) × told sight
    × ((IsSure (IsSettledBehind tick sight) said × IsMarkOf sight m) ⊎ (IsUnsure (IsSettledBehind tick sight) said × IsOpenMarkOf open' sight m))
