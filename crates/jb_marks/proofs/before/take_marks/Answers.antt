use Rattle.std.proofs.Common.{◌≡◌, ℕ, List, [], subst}
use Rattle.jb_marks.specs.Before.{IsTaken}
use Rattle.jb_marks.proofs.EachLemmas.{IsSoFar, so_far-all}
use Rattle.jb_marks.proofs.before.take_marks.Goals as goal

pub returns : goal.returns
returns g c =
    let taken = IsTaken (g.P.Sights.told c.args.place.now) (g.E.Earlier.said c.args.run.now) c.args.tick.now in
    let ended : c.loop-name.name-iterator ≡ [] = c.in-None.ensures.steps.0 in
    so_far-all taken c.args.names.now c.loop-name.marks.items
    (subst (λ (left : List (List ℕ)). IsSoFar taken c.args.names.now left c.loop-name.marks.items) ended c.loop-name.invariant)
