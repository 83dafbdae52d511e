use Rattle.std.proofs.Common.{codes}
use Rattle.dmk_reading.specs.Keeping.{value_in}
use Rattle.dmk_asking.proofs.ModeLemmas.{looks}
use Rattle.dmk_asking.proofs.look.Look.if_asked.Goals as goal

pub of-requires : goal.of-requires
of-requires c =
    looks c.args.options c.value_of.result.now (value_in c.args.environment.now (codes "MAKEFLAGS")) c.mode.result c.value_of.ensures
    c.in-DryRun.is c.mode.ensures
