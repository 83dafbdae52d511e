-- The special names of make and dmake: which are used, which have no effect, and which are refused.
use Rattle.std.specs.Prelude.{ℕ, Bool, true, false, not, ◌&&◌, List, [], ◌∷◌, Option, bytes_eq, codes, find}
use Rattle.mk_profile.specs.Profile.{is_wide}
use Rattle.mk_profile.specs.declared.profile.Profile.{Profile}
use Rattle.mk_reader.specs.declared.special.SpecialName.{SpecialName}
use Rattle.mk_reader.specs.declared.special.SpecialName.TheVariants.{KeepState, Suffixes, NoParallel, Ignore, Silent, Precious, Posix, Parallel, SccsGet, Local, Init, Done, Failed, Default, KeepStateFile, MakeVersion, GetPosix, SccsGetPosix, Phony, NotParallel, DeleteOnError, Depfile, Console, Pool, OneShell, SecondExpansion, ExportAllVariables}

-- how a special name is written (illumos make(1S); the two with PARALLEL: the dmake manual; `.DEPFILE`, `.CONSOLE` and `.POOL`: own; the others of the last nine: GNU make)
abbrev pub name_text : SpecialName → List ℕ
name_text KeepState = codes ".KEEP_STATE"
name_text Suffixes = codes ".SUFFIXES"
name_text NoParallel = codes ".NO_PARALLEL"
name_text Ignore = codes ".IGNORE"
name_text Silent = codes ".SILENT"
name_text Precious = codes ".PRECIOUS"
name_text Posix = codes ".POSIX"
name_text Parallel = codes ".PARALLEL"
name_text SccsGet = codes ".SCCS_GET"
name_text Local = codes ".LOCAL"
name_text Init = codes ".INIT"
name_text Done = codes ".DONE"
name_text Failed = codes ".FAILED"
name_text Default = codes ".DEFAULT"
name_text KeepStateFile = codes ".KEEP_STATE_FILE"
name_text MakeVersion = codes ".MAKE_VERSION"
name_text GetPosix = codes ".GET_POSIX"
name_text SccsGetPosix = codes ".SCCS_GET_POSIX"
name_text Phony = codes ".PHONY"
name_text NotParallel = codes ".NOTPARALLEL"
name_text DeleteOnError = codes ".DELETE_ON_ERROR"
name_text Depfile = codes ".DEPFILE"
name_text Console = codes ".CONSOLE"
name_text Pool = codes ".POOL"
name_text OneShell = codes ".ONESHELL"
name_text SecondExpansion = codes ".SECONDEXPANSION"
name_text ExportAllVariables = codes ".EXPORT_ALL_VARIABLES"

abbrev pub all_names : List SpecialName
all_names = KeepState ∷ Suffixes ∷ NoParallel ∷ Ignore ∷ Silent ∷ Precious ∷ Posix ∷ Parallel ∷ SccsGet ∷ Local ∷ Init ∷ Done ∷ Failed ∷ Default ∷ KeepStateFile ∷ MakeVersion ∷ GetPosix ∷ SccsGetPosix ∷ Phony ∷ NotParallel ∷ DeleteOnError ∷ Depfile ∷ Console ∷ Pool ∷ OneShell ∷ SecondExpansion ∷ ExportAllVariables ∷ []

-- the profile has the name; one that it lacks is an ordinary name in it
abbrev pub is_known : Profile → SpecialName → Bool
is_known profile NotParallel = is_wide profile
is_known profile DeleteOnError = is_wide profile
is_known profile Depfile = is_wide profile
is_known profile Console = is_wide profile
is_known profile Pool = is_wide profile
is_known profile OneShell = is_wide profile
is_known profile SecondExpansion = is_wide profile
is_known profile ExportAllVariables = is_wide profile
is_known profile _ = true

-- the special name that a word is in the profile; any other word is an ordinary name
unfoldable pub special_name : Profile → List ℕ → Option SpecialName
special_name profile word = find (λ name. bytes_eq (name_text name) word && is_known profile name) all_names

-- a rule of this name is refused; those of DEFAULT and PHONY in the strict profile alone
unfoldable pub is_refused : Profile → SpecialName → Bool
is_refused profile Init = true
is_refused profile Done = true
is_refused profile Failed = true
is_refused profile Default = not (is_wide profile)
is_refused profile KeepStateFile = true
is_refused profile MakeVersion = true
is_refused profile GetPosix = true
is_refused profile SccsGetPosix = true
is_refused profile OneShell = true
is_refused profile SecondExpansion = true
is_refused profile ExportAllVariables = true
is_refused profile Phony = not (is_wide profile)
is_refused profile KeepState = false
is_refused profile Suffixes = false
is_refused profile NoParallel = false
is_refused profile Ignore = false
is_refused profile Silent = false
is_refused profile Precious = false
is_refused profile Posix = false
is_refused profile Parallel = false
is_refused profile SccsGet = false
is_refused profile Local = false
is_refused profile NotParallel = false
is_refused profile DeleteOnError = false
is_refused profile Depfile = false
is_refused profile Console = false
is_refused profile Pool = false

-- a rule of this name is refused where it has prerequisites, which would speak of single targets: in the strict profile
unfoldable pub takes_no_prerequisites : Profile → SpecialName → Bool
takes_no_prerequisites profile Ignore = not (is_wide profile)
takes_no_prerequisites profile Silent = not (is_wide profile)
takes_no_prerequisites profile _ = false
