use Rattle.std.proofs.Common.{◌∙◌, sym, ap}
use Rattle.mk_macros.specs.Ranks.{Defined, defined_by}
use Rattle.dmk_reading.proofs.DefinitionLemmas.{wide_environment, strict_environment}
use Rattle.dmk_reading.proofs.definitions.define_environment.Goals as goal

pub returns-in_ok-define-clause-ranks : goal.returns-in_ok-define-clause-ranks
returns-in_ok-define-clause-ranks c = λ name.
    ap (λ (d : Defined). d.ranks name) c.in_ok-define.ensures.ok
    ∙ wide_environment c.args.profile c.args.environment.now (sym c.is_wide.ensures ∙ c.if-is_wide.true) _ (defined_by c.args.macros.now).ranks c.in_ok-define_all.ensures.ranks name

pub returns-else-is_wide-clause-ranks : goal.returns-else-is_wide-clause-ranks
returns-else-is_wide-clause-ranks c = λ name.
    strict_environment c.args.profile c.args.environment.now (sym c.is_wide.ensures ∙ c.if-is_wide.false) _ (defined_by c.args.macros.now).ranks c.in_ok-define_all.ensures.ranks name
