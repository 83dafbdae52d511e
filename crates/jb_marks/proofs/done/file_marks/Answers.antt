use Rattle.std.proofs.Common.{◌≤◌, List, length, subst, arith}
use Rattle.std.proofs.lemmas.List.{drop_all}
use Rattle.jb_marks.specs.Single.{IsMarkOf}
use Rattle.jb_marks.specs.declared.sights.Sight.{Sight}
use Rattle.jb_marks.proofs.EachLemmas.{IsSoFar, so_far-all}
use Rattle.jb_marks.proofs.done.file_marks.Goals as goal

pub returns : goal.returns
returns c =
    let past : length c.args.sights.now ≤ c.loop-sight.sight-index = omega arith in
    so_far-all IsMarkOf c.args.sights.now c.loop-sight.marks.items
    (subst (λ (left : List Sight). IsSoFar IsMarkOf c.args.sights.now left c.loop-sight.marks.items)
    (drop_all c.loop-sight.sight-index c.args.sights.now past) c.loop-sight.invariant)
