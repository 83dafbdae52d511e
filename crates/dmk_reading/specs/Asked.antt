-- What the words and MAKEFLAGS ask for.
use Rattle.std.specs.Prelude.{◌≡◌, ◌≢◌, ◌⊎◌, ◌↔◌, ◌||◌, ℕ, Bool, true, false, List, codes, IsTrue}
use Rattle.mk_profile.specs.declared.profile.Profile.{Profile}
use Rattle.mk_profile.specs.declared.profile.Profile.TheVariants.{Posix}
use Rattle.jb_auth.specs.Auth.{AsksForDryRun, AsksForPosix}
use Rattle.dmk_reading.specs.Keeping.{value_in}
use Rattle.dmk_reading.specs.declared.options.Mode.{Mode}
use Rattle.dmk_reading.specs.declared.options.Mode.TheVariants as mode
use Rattle.dmk_reading.specs.declared.options.Options.{Options}
use Rattle.bd_lists.specs.declared.recipe.Variable.{Variable}

-- what the words and MAKEFLAGS ask for: `-q` counts before `-n`
abbrev pub mode_of : (asks dry : Bool) → Mode
mode_of true dry = mode.Question
mode_of false true = mode.DryRun
mode_of false false = mode.Run

-- the words and this MAKEFLAGS ask for this
abbrev pub AsksFor : Options → (makeflags : List ℕ) → Mode → Type 0
AsksFor options makeflags m = (asked : Bool) × (IsTrue asked ↔ AsksForDryRun makeflags) × (m ≡ mode_of options.asks (options.is_dry || asked))

-- the language where the words name this one: the wide one where MAKEFLAGS asks for it
abbrev pub language_of : (named : Profile) (asked : Bool) → Profile
language_of named true = Posix
language_of named false = named

-- the words and this MAKEFLAGS ask for this language
abbrev pub AsksForLanguage : Options → (makeflags : List ℕ) → Profile → Type 0
AsksForLanguage options makeflags profile = (asked : Bool) × (IsTrue asked ↔ AsksForPosix makeflags) × (profile ≡ language_of options.profile asked)

-- they ask for recipes to be run
abbrev pub AsksToRun : Options → (makeflags : List ℕ) → Type 0
AsksToRun options makeflags = AsksFor options makeflags mode.Run

-- they ask for a listing, or whether there is any
abbrev pub AsksToLook : Options → (makeflags : List ℕ) → Type 0
AsksToLook options makeflags = (m : Mode) × (m ≢ mode.Run) × AsksFor options makeflags m

-- the words or MAKEFLAGS ask for a listing, and the words don't ask whether there is any
abbrev pub AsksForListing : Options → (environment : List Variable) → Type 0
AsksForListing options environment =
    (options.asks ≡ false) × ((options.is_dry ≡ true) ⊎ AsksForDryRun (value_in environment (codes "MAKEFLAGS")))
