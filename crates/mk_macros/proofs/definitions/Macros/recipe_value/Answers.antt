use Rattle.mk_macros.specs.Ranks.{defined_by}
use Rattle.mk_macros.proofs.SimpleLemmas.{dynamic_adds, no_dynamic}
use Rattle.mk_macros.proofs.definitions.Macros.recipe_value.Goals as goal
use Rattle.std.proofs.Common.{◌≡◌, ◌≤◌, ◌∙◌, length, Some, sym, ap, subst}
use Rattle.std.specs.Prelude.{IfSome}
use Rattle.mk_macros.specs.Dynamic.{recipe_value}
use Rattle.mk_macros.specs.Expansion.{limit}
use Rattle.mk_profile.specs.Profile.{is_wide}

pub returns-then-begins_with_sign : goal.returns-then-begins_with_sign
returns-then-begins_with_sign c =
    let most_is = c.most_bytes.ensures ∙ ap (λ profile. limit (is_wide profile)) c.profile.ensures in
    let word = subst (λ most. IfSome c.dynamic_word.result (λ v. (recipe_value c.args.names.now c.args.name.now ≡ Some v.now) × (length v.now ≤ most)))
    most_is c.dynamic_word.ensures in
    dynamic_adds (defined_by c.args.self.now) c.args.line.now c.args.names.now c.args.name.now c.dynamic_word.result c.requires word

pub own_value-requires : goal.own_value-requires
own_value-requires c =
    no_dynamic c.args.line.now c.args.names.now c.args.name.now c.requires (sym c.begins_with_sign.ensures ∙ c.if-begins_with_sign.false)
