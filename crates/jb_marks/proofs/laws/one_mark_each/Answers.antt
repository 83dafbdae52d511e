use Rattle.jb_marks.proofs.DoneLemmas.{count_is, read_back}
use Rattle.jb_marks.proofs.laws.one_mark_each.Goals as goal

pub returns-clause-count : goal.returns-clause-count
returns-clause-count g c = λ names before behind reported marks done.
    count_is (g.P.Sights.told c.args._place.now) (g.E.Earlier.said c.args._run.now) (g.P.Sights.ticked c.args._place.now) names before behind reported marks done

pub returns-clause-read : goal.returns-clause-read
returns-clause-read g c = λ names before behind reported marks text done is.
    read_back (g.P.Sights.told c.args._place.now) (g.E.Earlier.said c.args._run.now) (g.P.Sights.ticked c.args._place.now) names before behind reported marks text done is
