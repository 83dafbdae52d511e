use Rattle.std.proofs.Common.{arith}
use Rattle.st_disk.specs.Moments.{now}
use Rattle.st_recovery.proofs.StoredLemmas.{all_recover}
use Rattle.dmk_parts.specs.Planned.{recorded_in}
use Rattle.dmk_parts.specs.Tried.{tried_in}
use Rattle.dmk_run.proofs.BuildingLemmas.{none_made}
use Rattle.dmk_run.proofs.making.make.Goals as goal

pub returns-clause-made : goal.returns-clause-made
returns-clause-made g c =
    let plan = c.args.plan in
    let log = c.args.log in
    let sides = now (g.D.Disk.moments log.disk) in
    rw c.disk_of-2.ensures
    (none_made plan.conduct.form plan.conduct.counts_records plan.conduct.keeps_state plan.graph (recorded_in plan) g.D.Disk.honest sides (c.is_none_to_run.ensures c.if-not-is_none_to_run.false)
    (λ honest. all_recover log.side sides (c.requires.stored honest c.requires.alive)) c.with_unmade-status.result c.with_unmade-status.ensures.status
    (tried_in c.nothing-2.result) c.nothing-2.ensures)

pub returns-clause-status : goal.returns-clause-status
returns-clause-status g c = c.with_unmade-status.ensures.small (omega arith)
