use Rattle.std.proofs.Common.{◌≡◌, ℤ, rules, subst}
use Rattle.std.proofs.lemmas.Int.{to_z-of_z}
use Rattle.std.specs.Int.{w128, cast_signed, cast_unsigned}
use Rattle.std.specs.Prelude.{FitsSigned}
use Rattle.mk_plan.specs.Change.{kept_file}
use Rattle.mk_plan.proofs.ChangeLemmas.{kept_stamped}
use Rattle.mk_plan.proofs.change.kept_file.Goals as goal

pub returns : goal.returns
returns c =
    let fits : FitsSigned w128 c.args.time = search rules in
    let given : ℤ = cast_signed w128 (cast_unsigned w128 c.args.time) in
    subst (λ time. c.file.result ≡ kept_file time c.args.size) (to_z-of_z w128 c.args.time fits)
    (subst (λ size. c.file.result ≡ kept_file given size) c.from.ensures
    (kept_stamped given c.from.result c.file.result c.file.ensures.near c.file.ensures.far))
