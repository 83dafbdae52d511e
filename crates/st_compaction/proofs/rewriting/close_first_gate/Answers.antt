use Rattle.std.proofs.Common.{◌≡◌, ℕ, List, [], ◌∷◌, ◌∙◌, sym, ap, rules}
use Rattle.st_disk.specs.declared.which.Which.{Which}
use Rattle.st_disk.specs.Crash.{settled, overwritten}
use Rattle.st_disk.proofs.DeviceCalls.{syncs_on, side_synced}
use Rattle.st_file.specs.Created.{HasClosedGate}
use Rattle.st_compaction.proofs.ClearingLemmas.{side_still, gives_way_first, gate_closing, ready_closed}
use Rattle.st_compaction.proofs.rewriting.close_first_gate.Goals as goal

pub returns-in_err-has_closed_gate-clause-any_moment : goal.returns-in_err-has_closed_gate-clause-any_moment
returns-in_err-has_closed_gate-clause-any_moment g c = λ honest newest generation gives.
    side_still c.args.side (gives_way_first newest generation gives (c.requires.on_disk honest)) (c.has_closed_gate.ensures.moments honest)

pub returns-in_err-write_at-clause-any_moment : goal.returns-in_err-write_at-clause-any_moment
returns-in_err-write_at-clause-any_moment g c = λ honest newest generation gives.
    let gate = c.in_ok-has_closed_gate.ensures.gate honest in
    let open_gate : HasClosedGate (g.D.Disk.seen c.args.disk.now c.args.side) → ⊥ = search rules in
    gate_closing newest generation gives open_gate (c.requires.some honest) (c.requires.on_disk honest) (c.has_closed_gate.ensures.moments honest) (c.write_at.ensures.moments honest)

pub returns-in_err-sync-clause-any_moment : goal.returns-in_err-sync-clause-any_moment
returns-in_err-sync-clause-any_moment g c = λ honest newest generation gives.
    let gate = c.in_ok-has_closed_gate.ensures.gate honest in
    let open_gate : HasClosedGate (g.D.Disk.seen c.args.disk.now c.args.side) → ⊥ = search rules in
    let image = g.met.D.Disk.seen_is_image c.write_at.new.self honest c.args.side in
    syncs_on
    (gate_closing newest generation gives open_gate (c.requires.some honest) (c.requires.on_disk honest) (c.has_closed_gate.ensures.moments honest) (c.write_at.ensures.moments honest))
    (g.D.Disk.seen c.write_at.new.self c.args.side) (c.sync.ensures.moments honest) image

pub returns-clause-any_moment : goal.returns-clause-any_moment
returns-clause-any_moment g c = λ honest newest generation gives.
    let gate = c.in_ok-has_closed_gate.ensures.gate honest in
    let open_gate : HasClosedGate (g.D.Disk.seen c.args.disk.now c.args.side) → ⊥ = search rules in
    let image = g.met.D.Disk.seen_is_image c.write_at.new.self honest c.args.side in
    syncs_on
    (gate_closing newest generation gives open_gate (c.requires.some honest) (c.requires.on_disk honest) (c.has_closed_gate.ensures.moments honest) (c.write_at.ensures.moments honest))
    (g.D.Disk.seen c.write_at.new.self c.args.side) (c.sync.ensures.moments honest) image

pub returns-clause-ready : goal.returns-clause-ready
returns-clause-ready g c = λ honest.
    let same : g.D.Disk.seen c.sync.new.self c.args.side ≡ g.D.Disk.seen c.write_at.new.self c.args.side = ap (λ (f : Which → List ℕ). f c.args.side) (c.sync.ensures.seen honest) in
    ready_closed (g.D.Disk.seen c.args.disk.now c.args.side) (g.D.Disk.seen c.sync.new.self c.args.side) _
    (same ∙ c.in_ok-write_at.ensures.written honest ∙ ap (λ (f : Which → List ℕ). overwritten (f c.args.side) 0 (0 ∷ [])) (c.has_closed_gate.ensures.seen honest))
    (side_synced c.args.side (g.D.Disk.seen c.write_at.new.self c.args.side) (c.in_ok-sync.ensures.passes honest) ∙ ap settled (sym same))
