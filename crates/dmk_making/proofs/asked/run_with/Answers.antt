use Rattle.std.proofs.Common.{codes}
use Rattle.dmk_reading.specs.Keeping.{value_in}
use Rattle.dmk_asking.proofs.ModeLemmas.{runs, looks}
use Rattle.dmk_making.proofs.asked.run_with.Goals as goal

pub make-requires-after_bounds : goal.make-requires-after_bounds
make-requires-after_bounds g c =
    λ lifetimes outlive. runs c.args.options c.value_of.result.now (value_in c.args.environment.now (codes "MAKEFLAGS")) c.value_of.ensures
    c.in-Run.ensures

pub ask-requires : goal.ask-requires
ask-requires g c =
    looks c.args.options c.value_of.result.now (value_in c.args.environment.now (codes "MAKEFLAGS")) c.mode.result c.value_of.ensures
    c.in-DryRun.is c.mode.ensures
