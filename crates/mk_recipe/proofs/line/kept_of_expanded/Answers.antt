use Rattle.std.proofs.Common.{◌∙◌, sym}
use Rattle.mk_profile.specs.Profile.{is_wide}
use Rattle.mk_recipe.proofs.KeptLemmas.{exempt_by_prefixes, kept_exempt, kept_blank, kept_whole}
use Rattle.mk_recipe.proofs.line.kept_of_expanded.Goals as goal

pub returns-then-is_front_exempt : goal.returns-then-is_front_exempt
returns-then-is_front_exempt c = λ profile unexpanded none.
    kept_exempt profile unexpanded c.args.expanded.now _ _ c.parted.ensures.front c.parted.ensures.text c.is_front_exempt.result
    (exempt_by_prefixes c.parted.result.0.now unexpanded (is_wide profile) c.is_front_exempt.result none c.is_front_exempt.ensures) c.if-is_front_exempt.true

pub returns-then-not-is_blank_text : goal.returns-then-not-is_blank_text
returns-then-not-is_blank_text c = λ profile unexpanded none.
    kept_whole profile unexpanded c.args.expanded.now _ _ c.parted.ensures.front c.parted.ensures.text c.is_front_exempt.result
    (exempt_by_prefixes c.parted.result.0.now unexpanded (is_wide profile) c.is_front_exempt.result none c.is_front_exempt.ensures) c.if-is_front_exempt.false
    (sym c.is_blank_text.ensures ∙ c.if-not-is_blank_text.true)

pub returns : goal.returns
returns c = λ profile unexpanded none.
    kept_blank profile unexpanded c.args.expanded.now _ _ c.parted.ensures.front c.parted.ensures.text c.is_front_exempt.result
    (exempt_by_prefixes c.parted.result.0.now unexpanded (is_wide profile) c.is_front_exempt.result none c.is_front_exempt.ensures) c.if-is_front_exempt.false
    (sym c.is_blank_text.ensures ∙ c.if-not-is_blank_text.false)
