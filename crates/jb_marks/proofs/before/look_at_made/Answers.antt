use Rattle.std.proofs.Common.{◌≡◌, ℕ, List, [], ◌∷◌, subst}
use Rattle.jb_marks.proofs.EachLemmas.{IsSoFar, so_far-all}
use Rattle.jb_marks.proofs.before.look_at_made.Goals as goal

pub returns : goal.returns
returns g c =
    let told = g.P.Sights.told c.args.place.now in
    let names = c.args.target.now ∷ c.args.others.now in
    let ended : c.loop-other.other-iterator ≡ [] = c.in-None.ensures.steps.0 in
    so_far-all told names c.loop-other.sights.items
    (subst (λ (left : List (List ℕ)). IsSoFar told names left c.loop-other.sights.items) ended c.loop-other.invariant)
