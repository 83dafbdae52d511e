use Rattle.dmk_reading.specs.Definitions.{first_defined}
use Rattle.dmk_reading.specs.Planned.{AreAllItems}
use Rattle.dmk_reading.proofs.OldLemmas.{without_either}
use Rattle.dmk_reading.proofs.makefile.items_of.Goals as goal

pub returns-clause-items : goal.returns-clause-items
returns-clause-items g c = λ world looks text now.
    let given = first_defined c.args.profile c.args.definitions.now c.args.environment.now in
    without_either c.args.makefiles.now.old given c.in_ok-items.items.items c.in_ok-left.left.items (AreAllItems world looks c.args.makefiles.now given)
    (c.in_ok-items.ensures.items world looks text now) c.in_ok-left.ensures.none c.in_ok-left.ensures.some
