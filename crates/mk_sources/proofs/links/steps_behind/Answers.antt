use Rattle.std.proofs.Common.{sym, ◌∙◌}
use Rattle.mk_sources.proofs.LinkLemmas.{ends_there}
use Rattle.mk_sources.proofs.links.steps_behind.Goals as goal

pub returns-else-may_lead_on-clause-same : goal.returns-else-may_lead_on-clause-same
returns-else-may_lead_on-clause-same c = λ there forms form linked at stem taken.
    let none = c.may_lead_on.ensures forms form linked at c.if-may_lead_on.false in
    ends_there there forms 0 taken form stem none ∙ sym (ends_there there forms c.args.steps taken form stem none)
