use Rattle.dmk_run.proofs.building.reported.Goals as goal

pub returns-in-Ok-clause-status : goal.returns-in-Ok-clause-status
returns-in-Ok-clause-status c = (c.in-Ok.report, c.in-Ok.is, c.with_unmade.ensures.status)
