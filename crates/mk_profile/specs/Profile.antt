-- What definitions ask of a profile.
use Rattle.std.specs.Prelude.{Bool, true, false}
use Rattle.mk_profile.specs.declared.profile.Profile.{Profile}
use Rattle.mk_profile.specs.declared.profile.Profile.TheVariants.{Strict, Posix}

-- the wider forms are taken
abbrev pub is_wide : Profile → Bool
is_wide Strict = false
is_wide Posix = true
