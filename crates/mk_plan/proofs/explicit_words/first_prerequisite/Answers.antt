use Rattle.std.specs.Option.{option_copied}
use Rattle.std.proofs.Common.{◌∙◌, sym, ap}
use Rattle.mk_rule_lines.specs.Explicit.{names_in}
use Rattle.mk_plan.specs.ExplicitWords.{once_of}
use Rattle.mk_plan.specs.Parts.{language_of, is_part}
use Rattle.mk_plan.proofs.ExplicitWordLemmas.{first_chosen, none_alone, none_before}
use Rattle.mk_plan.proofs.explicit_words.first_prerequisite.Goals as goal

pub returns-in-Some : goal.returns-in-Some
returns-in-Some c =
    sym (first_chosen (is_part (language_of c.args.graph.now) c.args.line.now) (names_in c.args.line.now) (once_of c.args.graph.now c.args.node)
    c.in-Some.name.now (sym c.first_in.ensures ∙ ap option_copied c.in-Some.is))

pub returns-in-None : goal.returns-in-None
returns-in-None c =
    sym (none_alone (is_part (language_of c.args.graph.now) c.args.line.now) (names_in c.args.line.now) (once_of c.args.graph.now c.args.node)
    (sym c.is_part.ensures ∙ c.if-is_part.true) (sym c.first_in.ensures ∙ ap option_copied c.in-None.is))

pub returns-in-None-2 : goal.returns-in-None-2
returns-in-None-2 c =
    c.first_hard.ensures
    ∙ sym (none_before (is_part (language_of c.args.graph.now) c.args.line.now) (names_in c.args.line.now) (once_of c.args.graph.now c.args.node)
    (sym c.is_part.ensures ∙ c.if-is_part.false) (sym c.first_in.ensures ∙ ap option_copied c.in-None-2.is))
