use Rattle.std.proofs.Common.{◌+◌, ◌∙◌, cond, [], drop, sym, ap}
use Rattle.byte_strings.specs.Blanks.{words}
use Rattle.mk_recipe.specs.Report.{names_in, names_behind}
use Rattle.mk_recipe.proofs.report_line.names_on.Goals as goal

pub returns-in_default : goal.returns-in_default
unfolding words
returns-in_default c =
    sym (ap (names_behind c.args.profile c.args.target.now c.args.line.now) (sym c.colon_at.ensures.place ∙ c.in_default.is))

pub returns-else-is_only : goal.returns-else-is_only
unfolding words
returns-else-is_only c =
    sym (ap (names_behind c.args.profile c.args.target.now c.args.line.now) (sym c.colon_at.ensures.place ∙ c.in-Some.is)
    ∙ ap (λ b. cond b (names_in c.args.profile (drop (c.in-Some.at + 1) c.args.line.now)) []) (sym c.is_only.ensures ∙ c.if-is_only.false))
