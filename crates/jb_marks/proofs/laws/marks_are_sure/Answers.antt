use Rattle.jb_marks.proofs.DoneLemmas.{all_sure}
use Rattle.jb_marks.proofs.laws.marks_are_sure.Goals as goal

pub returns : goal.returns
returns g c = λ names before behind reported marks done.
    all_sure (g.P.Sights.told c.args._place.now) (g.E.Earlier.said c.args._run.now) (g.P.Sights.ticked c.args._place.now) names before behind reported marks done
