use Rattle.std.proofs.Common.{◌≡◌, ◌≤◌, ◌+◌, ◌∙◌, List, ◌∷◌, length, drop, get_or, add-one, refl, sym, subst, arith}
use Rattle.std.proofs.Math.Seq.{drop-cons}
use Rattle.std.proofs.lemmas.List.{drop_all}
use Rattle.jb_marks.specs.Before.{IsKnown}
use Rattle.jb_marks.specs.declared.before.Known.{Known}
use Rattle.jb_marks.specs.declared.names.Recorded.{Recorded}
use Rattle.jb_marks.proofs.EachLemmas.{IsSoFar, so_far-more, so_far-all}
use Rattle.jb_marks.proofs.before.take_hidden.Goals as goal

pub loop-recorded-preserved : goal.loop-recorded-preserved
loop-recorded-preserved g c =
    let known = IsKnown (g.P.Sights.told c.args.place.now) (g.E.Earlier.said c.args.run.now) c.args.tick.now in
    let names : List Recorded = c.args.names.now in
    let i = c.loop-recorded.recorded-index in
    let it : Recorded = c.recorded-item.result in
    let has = c.loop-recorded.known.items in
    let read : drop i names ≡ get_or names i it ∷ drop (i + 1) names = drop-cons names i it c.loop-recorded-test.true ∙ rw add-one refl in
    let at : drop i names ≡ it ∷ drop (i + 1) names = subst (λ (r : Recorded). drop i names ≡ r ∷ drop (i + 1) names) (sym c.recorded-item.is) read in
    let here : IsSoFar known names (it ∷ drop (i + 1) names) has =
    subst (λ (left : List Recorded). IsSoFar known names left has) at c.loop-recorded.invariant in
    subst (λ (ks : List Known). IsSoFar known names (drop (i + 1) names) ks) (sym c.in_ok-push.ensures.items)
    (so_far-more known names (drop (i + 1) names) has it _ here (c.in_ok-copy.ensures, c.take_unless_open.ensures))

pub returns : goal.returns
returns g c =
    let known = IsKnown (g.P.Sights.told c.args.place.now) (g.E.Earlier.said c.args.run.now) c.args.tick.now in
    let past : length c.args.names.now ≤ c.loop-recorded.recorded-index = omega arith in
    so_far-all known c.args.names.now c.loop-recorded.known.items
    (subst (λ (left : List Recorded). IsSoFar known c.args.names.now left c.loop-recorded.known.items)
    (drop_all c.loop-recorded.recorded-index c.args.names.now past) c.loop-recorded.invariant)
