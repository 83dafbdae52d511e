use Rattle.std.proofs.Common.{◌≡◌, ℕ, List, take, ◌∙◌, sym, ap}
use Rattle.st_disk.specs.declared.which.Which.{Which}
use Rattle.st_disk.specs.Crash.{settled}
use Rattle.st_disk.proofs.DeviceCalls.{syncs_on, side_synced}
use Rattle.st_compaction.proofs.ClearingLemmas.{side_still, void_ready, gate_left, retired_cut}
use Rattle.st_compaction.proofs.rewriting.cut_behind_gate.Goals as goal

pub returns-in_err-length-clause-any_moment : goal.returns-in_err-length-clause-any_moment
returns-in_err-length-clause-any_moment g c = λ honest. side_still c.args.side (void_ready (c.requires honest)) (c.len.ensures.moments honest)

pub returns-in_err-cut-clause-any_moment : goal.returns-in_err-cut-clause-any_moment
returns-in_err-cut-clause-any_moment g c = λ honest. gate_left (c.requires honest) (c.len.ensures.moments honest) (c.cut.ensures.moments honest)

pub returns-in_err-sync-clause-any_moment : goal.returns-in_err-sync-clause-any_moment
returns-in_err-sync-clause-any_moment g c = λ honest.
    let image = g.met.D.Disk.seen_is_image c.cut.new.self honest c.args.side in
    syncs_on (gate_left (c.requires honest) (c.len.ensures.moments honest) (c.cut.ensures.moments honest)) (g.D.Disk.seen c.cut.new.self c.args.side) (c.sync.ensures.moments honest) image

pub returns-clause-any_moment : goal.returns-clause-any_moment
returns-clause-any_moment g c = λ honest.
    let image = g.met.D.Disk.seen_is_image c.cut.new.self honest c.args.side in
    syncs_on (gate_left (c.requires honest) (c.len.ensures.moments honest) (c.cut.ensures.moments honest)) (g.D.Disk.seen c.cut.new.self c.args.side) (c.sync.ensures.moments honest) image

pub returns-clause-retired : goal.returns-clause-retired
returns-clause-retired g c = λ honest.
    let same : g.D.Disk.seen c.sync.new.self c.args.side ≡ g.D.Disk.seen c.cut.new.self c.args.side = ap (λ (f : Which → List ℕ). f c.args.side) (c.sync.ensures.seen honest) in
    retired_cut (g.D.Disk.seen c.args.disk.now c.args.side) (g.D.Disk.seen c.sync.new.self c.args.side) _
    (same ∙ c.in_ok-cut.ensures.cut honest ∙ ap (λ (f : Which → List ℕ). take 1 (f c.args.side)) (c.len.ensures.seen honest))
    (side_synced c.args.side (g.D.Disk.seen c.cut.new.self c.args.side) (c.in_ok-sync.ensures.passes honest) ∙ ap settled (sym same))
