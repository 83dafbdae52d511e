-- Whether a file is the one that is recorded. Own.
use Rattle.std.specs.Prelude.{◌≡◌, ◌≢◌, Bool, if◌then◌else◌}
use Rattle.mk_verdict.specs.declared.mark.Look.{Look}
use Rattle.mk_verdict.specs.declared.mark.Look.TheVariants.{Other}
use Rattle.mk_verdict.specs.declared.mark.Mark.{Mark}
use Rattle.mk_verdict.specs.declared.mark.Mark.TheVariants as mark

-- marks count where state is kept
abbrev pub mark_of : (keeping : Bool) → Mark → Mark
mark_of keeping m = if keeping then m else mark.NotKept

-- the file isn't, or may not be, the one that is recorded
abbrev pub Differs : Mark → Look → Type 0
Differs mark.NotKept look = ⊥
Differs mark.Unknown look = Unit {0}
Differs (mark.Was was) look = was ≢ look

-- the file's time is what counts: no mark is kept, or it was a folder or a device
abbrev pub IsTimed : Mark → Type 0
IsTimed mark.NotKept = Unit {0}
IsTimed mark.Unknown = ⊥
IsTimed (mark.Was was) = was ≡ Other
