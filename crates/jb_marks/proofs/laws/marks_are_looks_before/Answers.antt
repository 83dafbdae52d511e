use Rattle.std.proofs.Common.{drop, length}
use Rattle.jb_marks.specs.Laws.{IsLookBefore, IsSureMark, look_of, prerequisites}
use Rattle.jb_marks.proofs.EachLemmas.{each_map}
use Rattle.jb_marks.proofs.MarkLemmas.{sure_before}
use Rattle.jb_marks.proofs.DoneLemmas.{all_sure}
use Rattle.jb_marks.proofs.laws.marks_are_looks_before.Goals as goal

pub returns : goal.returns
returns g c = λ names before behind reported marks done read begun ended there settled is are earlier.
    let told = g.P.Sights.told c.args._place.now in
    let said = g.E.Earlier.said c.args._run.now in
    each_map (IsSureMark told said before.tick) (IsLookBefore (λ name at. look_of (there name at)) settled begun)
    (λ name m sure. sure_before told said before.tick read begun ended there settled is are earlier name m sure)
    (prerequisites names reported) (drop (length behind) marks)
    (all_sure told said (g.P.Sights.ticked c.args._place.now) names before behind reported marks done)
