-- How a line is told that is refused and has blanks in front (GNU make 4.3 asks for a TAB behind eight spaces; behind any blank: own).
use Rattle.std.specs.Prelude.{ℕ, Bool, ◌&&◌, List, Result, Ok, Err, if◌then◌else◌}
use Rattle.mk_profile.specs.Profile.{is_wide}
use Rattle.mk_profile.specs.declared.profile.Profile.{Profile}
use Rattle.mk_reader.specs.Spelled.{begins_blank}
use Rattle.mk_reader.specs.declared.fault.Cause.{Cause}
use Rattle.mk_reader.specs.declared.fault.Cause.TheVariants.{MissingSeparator, BlanksInFront}
use Rattle.mk_reader.specs.declared.fault.Refusal.{Refusal}
use Rattle.mk_reader.specs.declared.form.Form.{Form}

-- a recipe line whose TAB became blanks is most often a line without a separator
abbrev pub behind_blanks : Cause → Cause
behind_blanks MissingSeparator = BlanksInFront
behind_blanks cause = cause

-- so it is in the wide profile
unfoldable pub blanks_cause : Profile → (content : List ℕ) → Cause → Cause
blanks_cause profile content cause = if is_wide profile && begins_blank content then behind_blanks cause else cause

-- a line that is taken is taken as what it is
abbrev pub told_behind : Profile → (content : List ℕ) → Result Form Refusal → Result Form Refusal
told_behind profile content (Ok form) = Ok form
told_behind profile content (Err refused) = Err (record { file = refused.file; line = refused.line; cause = blanks_cause profile content refused.cause })
