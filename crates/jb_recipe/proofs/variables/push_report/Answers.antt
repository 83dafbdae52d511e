use Rattle.std.proofs.Common.{◌≡◌, [], ◌∷◌, ◌++◌, append_assoc, codes, ap, ◌∙◌}
use Rattle.jb_recipe.specs.Environment.{variable}
use Rattle.jb_recipe.proofs.variables.push_report.Goals as goal

pub returns : goal.returns
returns c =
    let path = c.in-Some.path.now in
    let target = c.args.target.now in
    let front : c.push.new.self.items ≡ path ++ 32 ∷ [] =
    c.in_ok-push.ensures.items ∙ ap (λ xs. xs ++ 32 ∷ []) (c.in_ok-value.ensures.items ∙ c.as_slice.ensures) in
    let text : c.deref.result.now ≡ path ++ 32 ∷ target =
    c.deref.ensures.value ∙ c.in_ok-extend_from_slice.ensures.items ∙ ap (λ xs. xs ++ target) front ∙ append_assoc path (32 ∷ []) target in
    rw c.in-Some.is (c.in_ok-push-2.ensures.items ∙ ap (λ v. c.args.variables.now.items ++ v ∷ [])
    (c.in_ok-variable.ensures ∙ ap (variable (codes "SUNPRO_DEPENDENCIES")) text))
