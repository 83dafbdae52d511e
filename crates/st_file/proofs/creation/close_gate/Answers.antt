use Rattle.std.proofs.Common.{arith, rules}
use Rattle.st_disk.proofs.DeviceCalls.{syncs_on}
use Rattle.st_file.specs.Created.{HasClosedGate}
use Rattle.st_file.proofs.CountLemmas.{one_more, none_more}
use Rattle.st_file.proofs.CreatedLemmas.{gate_closing}
use Rattle.st_file.proofs.creation.close_gate.Goals as goal

pub returns-in_err-write_at-clause-any_moment : goal.returns-in_err-write_at-clause-any_moment
returns-in_err-write_at-clause-any_moment g c = λ honest.
    let gate = c.in_ok-has_closed_gate.ensures.gate honest in
    let open_gate : HasClosedGate (g.D.Disk.seen c.args.disk.now c.args.side) → ⊥ = search rules in
    gate_closing (c.requires.void honest) open_gate (c.requires.on_disk honest) (c.has_closed_gate.ensures.moments honest) (c.write_at.ensures.moments honest)

pub returns-in_err-sync-clause-any_moment : goal.returns-in_err-sync-clause-any_moment
returns-in_err-sync-clause-any_moment g c = λ honest.
    let gate = c.in_ok-has_closed_gate.ensures.gate honest in
    let open_gate : HasClosedGate (g.D.Disk.seen c.args.disk.now c.args.side) → ⊥ = search rules in
    let image = g.met.D.Disk.seen_is_image c.write_at.new.self honest c.args.side in
    syncs_on
    (gate_closing (c.requires.void honest) open_gate (c.requires.on_disk honest) (c.has_closed_gate.ensures.moments honest) (c.write_at.ensures.moments honest))
    (g.D.Disk.seen c.write_at.new.self c.args.side) (c.sync.ensures.moments honest) image

pub returns-clause-any_moment : goal.returns-clause-any_moment
returns-clause-any_moment g c = λ honest.
    let gate = c.in_ok-has_closed_gate.ensures.gate honest in
    let open_gate : HasClosedGate (g.D.Disk.seen c.args.disk.now c.args.side) → ⊥ = search rules in
    let image = g.met.D.Disk.seen_is_image c.write_at.new.self honest c.args.side in
    syncs_on
    (gate_closing (c.requires.void honest) open_gate (c.requires.on_disk honest) (c.has_closed_gate.ensures.moments honest) (c.write_at.ensures.moments honest))
    (g.D.Disk.seen c.write_at.new.self c.args.side) (c.sync.ensures.moments honest) image

-- ---- the look leaves no moment, the write and the sync one each at most

pub returns-in_err-has_closed_gate-clause-calls : goal.returns-in_err-has_closed_gate-clause-calls
returns-in_err-has_closed_gate-clause-calls g c = λ honest. omega (arith, none_more (c.has_closed_gate.ensures.moments honest))

pub returns-then-branch-clause-calls : goal.returns-then-branch-clause-calls
returns-then-branch-clause-calls g c = λ honest. omega (arith, none_more (c.has_closed_gate.ensures.moments honest))

pub returns-in_err-write_at-clause-calls : goal.returns-in_err-write_at-clause-calls
returns-in_err-write_at-clause-calls g c = λ honest. omega (arith, none_more (c.has_closed_gate.ensures.moments honest), one_more (c.write_at.ensures.moments honest))

pub returns-in_err-sync-clause-calls : goal.returns-in_err-sync-clause-calls
returns-in_err-sync-clause-calls g c = λ honest. omega (arith, none_more (c.has_closed_gate.ensures.moments honest), one_more (c.write_at.ensures.moments honest), one_more (c.sync.ensures.moments honest))

pub returns-clause-calls : goal.returns-clause-calls
returns-clause-calls g c = λ honest. omega (arith, none_more (c.has_closed_gate.ensures.moments honest), one_more (c.write_at.ensures.moments honest), one_more (c.sync.ensures.moments honest))
