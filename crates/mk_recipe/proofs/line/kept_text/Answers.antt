use Rattle.std.proofs.Common.{◌∙◌, sym}
use Rattle.mk_recipe.proofs.KeptLemmas.{kept_exempt, kept_blank, kept_whole}
use Rattle.mk_recipe.proofs.line.kept_text.Goals as goal

pub returns-then-is_exempt : goal.returns-then-is_exempt
returns-then-is_exempt c =
    kept_exempt c.args.profile c.args.unexpanded.now c.args.expanded.now _ _ c.parted.ensures.front c.parted.ensures.text c.is_exempt.result c.is_exempt.ensures
    c.if-is_exempt.true

pub returns-then-is_blank_text : goal.returns-then-is_blank_text
returns-then-is_blank_text c =
    kept_blank c.args.profile c.args.unexpanded.now c.args.expanded.now _ _ c.parted.ensures.front c.parted.ensures.text c.is_exempt.result c.is_exempt.ensures
    c.if-is_exempt.false (sym c.is_blank_text.ensures ∙ c.if-is_blank_text.true)

pub returns : goal.returns
returns c =
    kept_whole c.args.profile c.args.unexpanded.now c.args.expanded.now _ _ c.parted.ensures.front c.parted.ensures.text c.is_exempt.result c.is_exempt.ensures
    c.if-is_exempt.false (sym c.is_blank_text.ensures ∙ c.if-is_blank_text.false)
