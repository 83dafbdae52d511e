use Rattle.std.proofs.Common.{sym, subst}
use Rattle.mk_recipe.specs.Outcome.{IsOutcome}
use Rattle.mk_recipe.proofs.OutcomeLemmas.{outcome_of, outcome_found}
use Rattle.mk_recipe.proofs.exit_status.outcome.Goals as goal

pub returns-in-None : goal.returns-in-None
returns-in-None c =
    subst (λ found. IsOutcome c.args.ignore c.args.statuses.now (outcome_of found)) (sym c.in-None.ensures)
    (outcome_found c.args.ignore c.args.statuses.now)

pub returns-in-Some : goal.returns-in-Some
returns-in-Some c =
    subst (λ found. IsOutcome c.args.ignore c.args.statuses.now (outcome_of found)) (sym c.in-Some.ensures)
    (outcome_found c.args.ignore c.args.statuses.now)
