-- What the outside answers while makefiles are read.
use Rattle.std.specs.Prelude.{ℕ, List, Option}
use Rattle.mk_functions.specs.Values.{Answers}

-- what each file holds that can be read
abbrev pub Contents : Type 0
Contents = (name : List ℕ) → Option (List ℕ)

-- what expansions ask for, and the files
pub record World : Type 0 where
  pub answers : Answers
  pub files : Contents
