-- A line of a recipe that is its own expansion, whatever names mean.
use Rattle.std.specs.Prelude.{◌≡◌, ℕ, Bool, List, ◌++◌, Option, option_to_list}
use Rattle.mk_macros.specs.Expansion.{Meanings, gives, ExpandsTo}
use Rattle.mk_macros.specs.Mention.{RefersToNewer}
use Rattle.mk_profile.specs.Profile.{is_wide}
use Rattle.mk_profile.specs.declared.profile.Profile.{Profile}
use Rattle.mk_recipe.specs.Line.{IsKept}

-- the text is its own expansion, and doesn't refer to `$?`
pub record IsItsOwn (text : List ℕ) : Type 0 where
  pub expands : (meanings : Meanings) → ExpandsTo meanings text (gives text)
  pub refers : (wide : Bool) → RefersToNewer wide text → ⊥

-- what the state keeps of a line with this expansion, whose text doesn't refer to `$?`, stands first among these commands, and then
-- those are left; or it keeps nothing, and all are
pub record KeepsFirst (expanded : List ℕ) (commands left : List (List ℕ)) : Type 0 where
  pub kept : Option (List ℕ)
  pub is_kept : (profile : Profile) (unexpanded : List ℕ) → (RefersToNewer (is_wide profile) unexpanded → ⊥) → IsKept profile unexpanded expanded kept
  pub first : commands ≡ option_to_list kept ++ left
