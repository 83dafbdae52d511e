use Rattle.std.proofs.Common.{arith}
use Rattle.st_disk.proofs.DeviceCalls.{syncs_on}
use Rattle.st_file.proofs.CountLemmas.{one_more}
use Rattle.st_file.proofs.GatedLemmas.{text_sent, gate_sent}
use Rattle.st_file.proofs.gated.append_gated.Goals as goal

pub returns-in_err-write_at-clause-any_moment : goal.returns-in_err-write_at-clause-any_moment
returns-in_err-write_at-clause-any_moment g c = λ honest. text_sent (c.requires.ready honest) (c.write_at.ensures.moments honest)

pub returns-in_err-sync-clause-any_moment : goal.returns-in_err-sync-clause-any_moment
returns-in_err-sync-clause-any_moment g c = λ honest.
    let ready = c.requires.ready honest in
    let image = g.met.D.Disk.seen_is_image c.write_at.new.self honest c.args.side in
    syncs_on (text_sent ready (c.write_at.ensures.moments honest)) (g.D.Disk.seen c.write_at.new.self c.args.side) (c.sync.ensures.moments honest) image

pub returns-in_err-write_at-2-clause-any_moment : goal.returns-in_err-write_at-2-clause-any_moment
returns-in_err-write_at-2-clause-any_moment g c = λ honest.
    let ready = c.requires.ready honest in
    let image = g.met.D.Disk.seen_is_image c.write_at.new.self honest c.args.side in
    gate_sent ready (syncs_on (text_sent ready (c.write_at.ensures.moments honest)) (g.D.Disk.seen c.write_at.new.self c.args.side) (c.sync.ensures.moments honest) image)
    (c.in_ok-write_at.ensures.written honest) (c.in_ok-sync.ensures.passes honest) (c.write_at-2.ensures.moments honest)

pub returns-in_err-sync-2-clause-any_moment : goal.returns-in_err-sync-2-clause-any_moment
returns-in_err-sync-2-clause-any_moment g c = λ honest.
    let ready = c.requires.ready honest in
    let image = g.met.D.Disk.seen_is_image c.write_at.new.self honest c.args.side in
    let image-2 = g.met.D.Disk.seen_is_image c.write_at-2.new.self honest c.args.side in
    syncs_on
    (gate_sent ready (syncs_on (text_sent ready (c.write_at.ensures.moments honest)) (g.D.Disk.seen c.write_at.new.self c.args.side) (c.sync.ensures.moments honest) image)
    (c.in_ok-write_at.ensures.written honest) (c.in_ok-sync.ensures.passes honest) (c.write_at-2.ensures.moments honest))
    (g.D.Disk.seen c.write_at-2.new.self c.args.side) (c.sync-2.ensures.moments honest) image-2

pub returns-clause-any_moment : goal.returns-clause-any_moment
returns-clause-any_moment g c = λ honest.
    let ready = c.requires.ready honest in
    let image = g.met.D.Disk.seen_is_image c.write_at.new.self honest c.args.side in
    let image-2 = g.met.D.Disk.seen_is_image c.write_at-2.new.self honest c.args.side in
    syncs_on
    (gate_sent ready (syncs_on (text_sent ready (c.write_at.ensures.moments honest)) (g.D.Disk.seen c.write_at.new.self c.args.side) (c.sync.ensures.moments honest) image)
    (c.in_ok-write_at.ensures.written honest) (c.in_ok-sync.ensures.passes honest) (c.write_at-2.ensures.moments honest))
    (g.D.Disk.seen c.write_at-2.new.self c.args.side) (c.sync-2.ensures.moments honest) image-2

-- ---- each call leaves one moment more at most

pub returns-in_err-write_at-clause-calls : goal.returns-in_err-write_at-clause-calls
returns-in_err-write_at-clause-calls g c = λ honest. omega (arith, one_more (c.write_at.ensures.moments honest))

pub returns-in_err-sync-clause-calls : goal.returns-in_err-sync-clause-calls
returns-in_err-sync-clause-calls g c = λ honest. omega (arith, one_more (c.write_at.ensures.moments honest), one_more (c.sync.ensures.moments honest))

pub returns-in_err-write_at-2-clause-calls : goal.returns-in_err-write_at-2-clause-calls
returns-in_err-write_at-2-clause-calls g c = λ honest. omega (arith, one_more (c.write_at.ensures.moments honest), one_more (c.sync.ensures.moments honest), one_more (c.write_at-2.ensures.moments honest))

pub returns-in_err-sync-2-clause-calls : goal.returns-in_err-sync-2-clause-calls
returns-in_err-sync-2-clause-calls g c = λ honest. omega (arith, one_more (c.write_at.ensures.moments honest), one_more (c.sync.ensures.moments honest), one_more (c.write_at-2.ensures.moments honest), one_more (c.sync-2.ensures.moments honest))

pub returns-clause-calls : goal.returns-clause-calls
returns-clause-calls g c = λ honest. omega (arith, one_more (c.write_at.ensures.moments honest), one_more (c.sync.ensures.moments honest), one_more (c.write_at-2.ensures.moments honest), one_more (c.sync-2.ensures.moments honest))
