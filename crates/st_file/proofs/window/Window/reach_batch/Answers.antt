use Rattle.std.proofs.Common.{ℕ, List, ◌-◌, subst, arith}
use Rattle.st_disk.specs.declared.which.Which.{Which}
use Rattle.st_file.specs.Window.{Shows, IsEnough}
use Rattle.st_file.proofs.WindowLemmas.{ShowsBatch-of}
use Rattle.st_file.proofs.window.Window.reach_batch.Goals as goal

pub returns-clause-batch : goal.returns-clause-batch
returns-clause-batch g c = λ honest.
    let left = c.args.self.now.len - c.args.self.now.place in
    let on_side = subst (λ (s : Which). Shows (g.D.Disk.seen c.reach.new.disk s) c.reach-2.new.self) c.reach.ensures.side (c.in_ok-reach-2.ensures.shows honest) in
    let later = subst (λ (f : Which → List ℕ). Shows (f c.args.self.now.side) c.reach-2.new.self) (c.in_ok-reach.ensures.seen honest) on_side in
    let enough = subst (λ (y : List ℕ). IsEnough y left c.batch_len-wanted.result) c.front.ensures c.batch_len-wanted.ensures.enough in
    ShowsBatch-of _ c.reach.new.self c.reach-2.new.self left c.batch_len-wanted.result (c.in_ok-reach.ensures.shows honest) later c.reach-2.ensures.place
    (omega (arith, c.reach.ensures.place, c.reach.ensures.len, c.requires.more)) (omega (arith, c.min.ensures, c.in_ok-reach.ensures.reached)) enough c.in_ok-reach-2.ensures.reached
