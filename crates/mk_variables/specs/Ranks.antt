-- Which of two definitions counts (GNU make manual, "The `override` Directive", "Variables from the Environment", "Overriding Variables").
use Rattle.std.specs.Prelude.{ℕ, Bool, true, false, nat_lt}
use Rattle.mk_functions.specs.declared.variable.Origin.{Origin}
use Rattle.mk_functions.specs.declared.variable.Origin.TheVariants.{Default, Environment, EnvironmentOverride, File, CommandLine, Override, Automatic}

-- what is built in counts least; the environment counts less than a makefile, or more where it is to override it; the command line more than both; and
-- `override` more than that
abbrev pub rank : Origin → ℕ
rank Default = 0
rank Environment = 1
rank File = 2
rank EnvironmentOverride = 3
rank CommandLine = 4
rank Override = 5
rank Automatic = 6

-- a variable of the environment that counts before makefiles overrides them from where a definition meets it (GNU make manual, "The origin Function")
abbrev pub met : (is_environment_first : Bool) → Origin → Origin
met true Environment = EnvironmentOverride
met true origin = origin
met false origin = origin

abbrev pub is_of_environment : Origin → Bool
is_of_environment Environment = true
is_of_environment EnvironmentOverride = true
is_of_environment origin = false

-- a definition from here is passed over, where there is a variable from there
abbrev pub is_passed_over : (here there : Origin) → Bool
is_passed_over here there = nat_lt (rank here) (rank there)
