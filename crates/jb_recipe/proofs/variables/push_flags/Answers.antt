use Rattle.std.proofs.Common.{[], ◌∷◌, ◌++◌, codes, ap, ◌∙◌}
use Rattle.jb_recipe.specs.Environment.{variable}
use Rattle.jb_recipe.proofs.variables.push_flags.Goals as goal

pub returns-in_ok-push-in-Set : goal.returns-in_ok-push-in-Set
returns-in_ok-push-in-Set c =
    rw c.in-Set.is (c.in_ok-push-in-Set.ensures.items ∙ ap (λ v. c.args.variables.now.items ++ v ∷ [])
    (c.in_ok-variable-in-Set.ensures ∙ ap (variable (codes "MAKEFLAGS")) c.as_slice.ensures))

pub returns-in_ok-push-in-Removed : goal.returns-in_ok-push-in-Removed
returns-in_ok-push-in-Removed c =
    rw c.in-Removed.is (c.in_ok-push-in-Removed.ensures.items ∙ ap (λ v. c.args.variables.now.items ++ v ∷ []) c.in_ok-variable-in-Removed.ensures)
