-- The environment's part of what -p prints.
use Rattle.std.proofs.Common.{◌≡◌, ◌∙◌, ap, ℕ, true, false, List, ◌++◌, codes}
use Rattle.std.specs.List.{flat_map}
use Rattle.std.proofs.lemmas.List.{flat_map_more}
use Rattle.bd_lists.specs.declared.recipe.Variable.{Variable}
use Rattle.mk_profile.specs.Profile.{is_wide}
use Rattle.mk_profile.specs.declared.profile.Profile.{Profile}
use Rattle.mk_profile.specs.declared.profile.Profile.TheVariants.{Strict, Posix}
use Rattle.dmk_reading.specs.Definitions.{environment_macros, variable}

pub wide_text : (f : Variable → List ℕ) (profile : Profile) (environment : List Variable) (before between behind : List ℕ) → is_wide profile ≡ true →
    between ≡ before ++ flat_map f environment → behind ≡ between ++ f (variable (codes "SHELL") (codes "/bin/sh")) →
    behind ≡ before ++ flat_map f (environment_macros profile environment)
wide_text f Posix environment before between behind is one two =
    two ∙ ap (λ t. t ++ f (variable (codes "SHELL") (codes "/bin/sh"))) one ∙ flat_map_more f before environment (variable (codes "SHELL") (codes "/bin/sh"))
wide_text f Strict environment before between behind is one two = let both : false ≡ true = is in absurd cc

pub strict_text : (f : Variable → List ℕ) (profile : Profile) (environment : List Variable) (before behind : List ℕ) → is_wide profile ≡ false →
    behind ≡ before ++ flat_map f environment → behind ≡ before ++ flat_map f (environment_macros profile environment)
strict_text f Strict environment before behind is one = one
strict_text f Posix environment before behind is one = let both : true ≡ false = is in absurd cc
