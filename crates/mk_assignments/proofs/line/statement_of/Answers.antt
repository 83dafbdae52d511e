use Rattle.std.proofs.Common.{Some, None, option_map, sym, ap, ◌∙◌, subst}
use Rattle.byte_strings.specs.Blanks.{trimmed_start}
use Rattle.mk_assignments.specs.Line.{no_modifiers, Assigns, Lists, assigned, listed}
use Rattle.mk_assignments.specs.Steps.{listed_at, said_by}
use Rattle.mk_assignments.proofs.LineLemmas.{lists}
use Rattle.mk_assignments.proofs.ReadingLemmas.{said_met}
use Rattle.mk_assignments.proofs.line.statement_of.Goals as goal

pub returns-in-Some-clause-meaning : goal.returns-in-Some-clause-meaning
returns-in-Some-clause-meaning c =
    assigned (said_by c.in-Some.statement)
    (subst (λ t. Assigns no_modifiers t (Some (said_by c.in-Some.statement))) c.trim_start-line.ensures c.in-Some.ensures)

pub returns-in-None-clause-meaning : goal.returns-in-None-clause-meaning
returns-in-None-clause-meaning c =
    listed (option_map said_by c.listed_at.result)
    (subst (λ t. Assigns no_modifiers t None) c.trim_start-line.ensures c.in-None.ensures)
    (subst (Lists (trimmed_start c.args.text.now)) (sym (c.listed_at.ensures ∙ ap listed_at c.trim_start-line.ensures)) (lists (trimmed_start c.args.text.now)))

pub returns-in-Some-clause-value : goal.returns-in-Some-clause-value
returns-in-Some-clause-value c = sym (said_met c.args.text.now _ (returns-in-Some-clause-meaning c))

pub returns-in-None-clause-value : goal.returns-in-None-clause-value
returns-in-None-clause-value c = sym (said_met c.args.text.now _ (returns-in-None-clause-meaning c))
