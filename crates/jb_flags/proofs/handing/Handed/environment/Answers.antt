use Rattle.std.proofs.Common.{◌≡◌, ◌++◌, ◌∷◌, [], ap, ◌∙◌, append_assoc, codes, arith}
use Rattle.std.proofs.lemmas.Grind.{common_steps}
use Rattle.jb_flags.specs.Handed.{variable, makeflags}
use Rattle.jb_flags.proofs.handing.Handed.environment.Goals as goal

pub returns : goal.returns
returns c =
    let env = c.args.env.now in
    let all : c.loop-given.all.items ≡ env = grind (arith, common_steps) in
    let flags = variable (codes "MAKEFLAGS") (makeflags c.args.self.now c.args.words.now) in
    let level = variable (codes "MAKELEVEL") c.args.self.now.level.items in
    let profile = variable (codes "DMK_PROFILE") (codes "posix") in
    let told : c.push-2.new.self.items ≡ env ++ flags ∷ [] =
    c.in_ok-push-2.ensures.items ∙ ap (λ t. t ++ c.in_ok-variable-2.field-0 ∷ []) all
    ∙ ap (λ v. env ++ v ∷ []) (c.in_ok-variable-2.ensures ∙ ap (variable (codes "MAKEFLAGS")) (c.deref.ensures.value ∙ c.in_ok-flags.ensures)) in
    let levelled : c.push-3.new.self.items ≡ env ++ flags ∷ level ∷ [] =
    c.in_ok-push-3.ensures.items ∙ ap (λ t. t ++ c.in_ok-variable-3.field-0 ∷ []) told
    ∙ ap (λ v. (env ++ flags ∷ []) ++ v ∷ []) (c.in_ok-variable-3.ensures ∙ ap (variable (codes "MAKELEVEL")) c.deref-2.ensures.value)
    ∙ append_assoc env (flags ∷ []) (level ∷ []) in
    c.in_ok-push-4.ensures.items ∙ ap (λ t. t ++ c.in_ok-variable-4.field-0 ∷ []) levelled
    ∙ ap (λ v. (env ++ flags ∷ level ∷ []) ++ v ∷ []) c.in_ok-variable-4.ensures
    ∙ append_assoc env (flags ∷ level ∷ []) (profile ∷ [])
