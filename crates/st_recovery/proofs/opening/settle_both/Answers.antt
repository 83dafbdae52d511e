use Rattle.std.proofs.Common.{ℕ, List, ◌∙◌, ap, arith}
use Rattle.st_disk.specs.declared.which.Which.{Which}
use Rattle.st_disk.specs.declared.which.Which.TheVariants as which
use Rattle.st_disk.specs.Crash.{settled}
use Rattle.st_disk.specs.Moments.{now}
use Rattle.st_disk.proofs.MomentLaws.{started}
use Rattle.st_disk.proofs.DeviceCalls.{side_synced, other_synced}
use Rattle.st_file.proofs.CountLemmas.{one_more}
use Rattle.st_recovery.proofs.StoredLemmas.{possible_first, synced_one}
use Rattle.st_recovery.proofs.opening.settle_both.Goals as goal

pub returns-in_err-sync-clause-any_moment : goal.returns-in_err-sync-clause-any_moment
returns-in_err-sync-clause-any_moment g c = λ honest.
    let m0 = g.D.Disk.moments c.args.disk.now in
    synced_one which.A (now m0) (started m0 (possible_first (now m0))) (c.sync.ensures.moments honest) (g.met.D.Disk.seen_is_image c.args.disk.now honest which.A)

pub returns-in_err-sync-2-clause-any_moment : goal.returns-in_err-sync-2-clause-any_moment
returns-in_err-sync-2-clause-any_moment g c = λ honest.
    let m0 = g.D.Disk.moments c.args.disk.now in
    let first = synced_one which.A (now m0) (started m0 (possible_first (now m0))) (c.sync.ensures.moments honest) (g.met.D.Disk.seen_is_image c.args.disk.now honest which.A) in
    synced_one which.B (now m0) first (c.sync-2.ensures.moments honest) (g.met.D.Disk.seen_is_image c.sync.new.self honest which.B)

pub returns-clause-any_moment : goal.returns-clause-any_moment
returns-clause-any_moment g c = λ honest.
    let m0 = g.D.Disk.moments c.args.disk.now in
    let first = synced_one which.A (now m0) (started m0 (possible_first (now m0))) (c.sync.ensures.moments honest) (g.met.D.Disk.seen_is_image c.args.disk.now honest which.A) in
    synced_one which.B (now m0) first (c.sync-2.ensures.moments honest) (g.met.D.Disk.seen_is_image c.sync.new.self honest which.B)

pub returns-clause-on_a : goal.returns-clause-on_a
returns-clause-on_a g c = λ honest.
    other_synced which.B (g.D.Disk.seen c.sync.new.self which.B) (c.in_ok-sync-2.ensures.passes honest) ∙ side_synced which.A (g.D.Disk.seen c.args.disk.now which.A) (c.in_ok-sync.ensures.passes honest)

pub returns-clause-on_b : goal.returns-clause-on_b
returns-clause-on_b g c = λ honest.
    side_synced which.B (g.D.Disk.seen c.sync.new.self which.B) (c.in_ok-sync-2.ensures.passes honest) ∙ ap (λ (f : Which → List ℕ). settled (f which.B)) (c.sync.ensures.seen honest)

pub returns-in_err-sync-clause-calls : goal.returns-in_err-sync-clause-calls
returns-in_err-sync-clause-calls g c = λ honest. omega (arith, one_more (c.sync.ensures.moments honest))

pub returns-in_err-sync-2-clause-calls : goal.returns-in_err-sync-2-clause-calls
returns-in_err-sync-2-clause-calls g c = λ honest. omega (arith, one_more (c.sync.ensures.moments honest), one_more (c.sync-2.ensures.moments honest))

pub returns-clause-calls : goal.returns-clause-calls
returns-clause-calls g c = λ honest. omega (arith, one_more (c.sync.ensures.moments honest), one_more (c.sync-2.ensures.moments honest))
