-- What names stand for (GNU make manual, "The Two Flavors of Variables" and "The origin Function").
use Rattle.std.specs.Prelude.{ℕ, List, Option, codes}
use Rattle.mk_functions.specs.declared.variable.Flavor.{Flavor}
use Rattle.mk_functions.specs.declared.variable.Flavor.TheVariants.{Recursive, Simple}
use Rattle.mk_functions.specs.declared.variable.Origin.{Origin}
use Rattle.mk_functions.specs.declared.variable.Origin.TheVariants.{Default, Environment, EnvironmentOverride, File, CommandLine, Override, Automatic}

-- the text of a variable's definition, whether it is expanded where the variable is referred to, and where it comes from
pub record Variable : Type 0 where
  pub text : List ℕ
  pub flavor : Flavor
  pub origin : Origin

-- what each name stands for, where it is defined
abbrev pub Variables : Type 0
Variables = (name : List ℕ) → Option Variable

-- what `flavor` says (GNU make manual, "The flavor Function")
abbrev pub flavor_text : Flavor → List ℕ
flavor_text Recursive = codes "recursive"
flavor_text Simple = codes "simple"

-- what `origin` says
abbrev pub origin_text : Origin → List ℕ
origin_text Default = codes "default"
origin_text Environment = codes "environment"
origin_text EnvironmentOverride = codes "environment override"
origin_text File = codes "file"
origin_text CommandLine = codes "command line"
origin_text Override = codes "override"
origin_text Automatic = codes "automatic"
