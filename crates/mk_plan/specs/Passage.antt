-- What there is to tell of a target that is passed. Own.
use Rattle.std.specs.Prelude.{ℕ, Bool, true, false, List}
use Rattle.mk_recipe.specs.declared.line.Line.{Line}
use Rattle.mk_plan.specs.declared.why.Why.{Why}

-- the recipe of the target is to be run, with these lines, for this reason; or it has a recipe and is up to date
pub data Passage : Type 0 where
  to_make : (target : List ℕ) (why : Why) (lines : List Line) → Passage
  finished : (target : List ℕ) → Passage

-- a recipe is listed
abbrev pub is_listed : Passage → Bool
is_listed (to_make target why lines) = true
is_listed (finished target) = false
