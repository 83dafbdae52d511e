-- What is defined before the makefile is read.
use Rattle.std.specs.Prelude.{ℕ, Bool, true, false, ◌&&◌, ◌||◌, List, [], ◌∷◌, ◌++◌, Option, Some, None, reverse, find, option_map, nat_eq, codes, if◌then◌else◌}
use Rattle.std.specs.List.{list_any, list_all}
use Rattle.byte_strings.specs.Blanks.{first_word}
use Rattle.mk_profile.specs.Profile.{is_wide}
use Rattle.mk_profile.specs.declared.profile.Profile.{Profile}
use Rattle.mk_profile.specs.declared.profile.Profile.TheVariants.{Strict, Posix}
use Rattle.mk_macros.specs.Ranks.{Ranks, Defined, with_rank}
use Rattle.mk_macros.specs.declared.definitions.Rank.{Rank}
use Rattle.bd_lists.specs.declared.recipe.Variable.{Variable}
use Rattle.dmk_reading.specs.Keeping.{is_named}

-- the value of the last variable of the name
abbrev pub last_value : List Variable → (name : List ℕ) → Option (List ℕ)
last_value variables name = option_map (λ v. v.value) (find (is_named name) (reverse variables))

abbrev pub variable : (name value : List ℕ) → Variable
variable name value = record { name = name; value = value }

-- MAKE alone (make(1S))
abbrev pub make_alone : List Variable
make_alone = variable (codes "MAKE") (codes "dmk") ∷ []

-- MAKE, and what rules refer to, unless it is left out (POSIX make, "Default Rules"; CC and CFLAGS as before the year's standard is named in
-- them; CXX, CPPFLAGS and RM: GNU make; CXXFLAGS like CFLAGS: own)
abbrev pub wide_macros : (leaves_out : Bool) → List Variable
wide_macros true = make_alone
wide_macros false =
    variable (codes "MAKE") (codes "dmk")
    ∷ variable (codes "CC") (codes "cc")
    ∷ variable (codes "CFLAGS") (codes "-O")
    ∷ variable (codes "CXX") (codes "g++")
    ∷ variable (codes "CXXFLAGS") (codes "-O")
    ∷ variable (codes "CPPFLAGS") []
    ∷ variable (codes "LDFLAGS") []
    ∷ variable (codes "AR") (codes "ar")
    ∷ variable (codes "ARFLAGS") (codes "-rv")
    ∷ variable (codes "LEX") (codes "lex")
    ∷ variable (codes "LFLAGS") []
    ∷ variable (codes "YACC") (codes "yacc")
    ∷ variable (codes "YFLAGS") []
    ∷ variable (codes "RM") (codes "rm -f")
    ∷ []

-- the letter of an option without a value that is taken from MAKEFLAGS (e, i, k, n, q, r, S, s, t: POSIX make; B, R, w: GNU make)
abbrev pub is_option_letter : ℕ → Bool
is_option_letter b = list_any (nat_eq b) (codes "BRSeiknqrstw")

-- what may stand in a word beside such a letter: another one, or the hyphen in front of them
abbrev pub may_be_beside : ℕ → Bool
may_be_beside b = nat_eq b 45 || is_option_letter b

-- a word of options by their letters alone, and R is one of them
abbrev pub has_R : (word : List ℕ) → Bool
has_R word = list_all may_be_beside word && list_any (nat_eq 82) word

-- the variable is a MAKEFLAGS that leaves out what rules refer to: its first word has `R` (GNU make, -R)
abbrev pub says_R : Variable → Bool
says_R v = is_named (codes "MAKEFLAGS") v && has_R (first_word v.value)

-- some variable does
abbrev pub leaves_out : (environment : List Variable) → Bool
leaves_out environment = list_any says_R environment

-- the tool's own definitions in this language (-R: GNU make)
abbrev pub tool_macros : Profile → (environment : List Variable) → List Variable
tool_macros Strict environment = make_alone
tool_macros Posix environment = wide_macros (leaves_out environment)

-- the environment's variables that are macros: in the wide profile all but its SHELL, in whose place the one stands that runs
-- recipes (POSIX make, "Macros")
abbrev pub environment_macros : Profile → (environment : List Variable) → List Variable
environment_macros profile environment =
    if is_wide profile then environment ++ variable (codes "SHELL") (codes "/bin/sh") ∷ [] else environment

-- what each name has before the makefile: the tool's own, the environment, the definitions of the command line, each at its
-- rank. Of a name that is defined twice at one rank the last one counts
abbrev pub first_ranks : Profile → (definitions environment : List Variable) → (name : List ℕ) → Ranks
first_ranks profile definitions environment name = record {
  command_line = last_value definitions name;
  makefile = None;
  environment = last_value (environment_macros profile environment) name;
  tool = last_value (tool_macros profile environment) name;
  is_fixed = false;
}

-- so it is defined, in the language of the makefile
abbrev pub first_defined : Profile → (definitions environment : List Variable) → Defined
first_defined profile definitions environment = record { language = profile; ranks = first_ranks profile definitions environment }

-- what a name has once its text at this rank is this one, where there is one
abbrev pub with_last : Ranks → Rank → (text : Option (List ℕ)) → Ranks
with_last ranks rank None = ranks
with_last ranks rank (Some text) = with_rank ranks rank text
