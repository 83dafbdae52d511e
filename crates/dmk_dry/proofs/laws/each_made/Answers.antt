use Rattle.dmk_dry.proofs.PassingLemmas.{each_made}
use Rattle.dmk_dry.proofs.laws.each_made.Goals as goal

pub returns : goal.returns
returns g c = λ world looks makefiles profile definitions environment targets goes_on seen plan dropped unmade is.
    each_made world looks makefiles profile definitions environment targets goes_on g.D.Disk.honest seen plan dropped unmade is
