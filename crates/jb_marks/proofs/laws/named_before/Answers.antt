use Rattle.jb_marks.proofs.DoneLemmas.{named_is}
use Rattle.jb_marks.proofs.laws.named_before.Goals as goal

pub returns : goal.returns
returns g c = λ before behind reported marks are.
    named_is (g.P.Sights.told c.args._place.now) (g.E.Earlier.said c.args._run.now) before behind reported marks are
