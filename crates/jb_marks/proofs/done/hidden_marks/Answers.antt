use Rattle.std.proofs.Common.{◌≡◌, ℕ, List, [], ◌∷◌, sym, subst}
use Rattle.st_marks.specs.declared.mark.Mark.{Mark}
use Rattle.std.specs.Prelude.{IfNone}
use Rattle.jb_marks.specs.declared.before.Known.{Known}
use Rattle.jb_marks.specs.Done.{HasNot, IsReported}
use Rattle.jb_marks.proofs.EachLemmas.{IsSoFar, so_far-more, so_far-all}
use Rattle.jb_marks.proofs.done.hidden_marks.Goals as goal

pub reported_mark-requires-clause-none : goal.reported_mark-requires-clause-none
reported_mark-requires-clause-none g c =
    subst (λ (known : List Known). IfNone c.find-found.result (HasNot known c.in-Some.name.now)) c.as_slice.ensures.value c.find-found.ensures.none

pub loop-name-preserved : goal.loop-name-preserved
loop-name-preserved g c =
    let marked = IsReported (g.P.Sights.told c.args.place.now) (g.E.Earlier.said c.args.run.now) c.args.before.now in
    let names = c.args.reported.now in
    let has = c.loop-name.marks.items in
    let here : IsSoFar marked names (c.in-Some.name.now ∷ c.next.new.self) has =
    subst (λ (left : List (List ℕ)). IsSoFar marked names left has) c.in-Some.ensures.steps c.loop-name.invariant in
    subst (λ (marks : List Mark). IsSoFar marked names c.next.new.self marks) (sym c.in_ok-push.ensures.items)
    (so_far-more marked names c.next.new.self has c.in-Some.name.now c.reported_mark.result here c.reported_mark.ensures)

pub returns : goal.returns
returns g c =
    let marked = IsReported (g.P.Sights.told c.args.place.now) (g.E.Earlier.said c.args.run.now) c.args.before.now in
    let ended : c.loop-name.name-iterator ≡ [] = c.in-None.ensures.steps.0 in
    so_far-all marked c.args.reported.now c.loop-name.marks.items
    (subst (λ (left : List (List ℕ)). IsSoFar marked c.args.reported.now left c.loop-name.marks.items) ended c.loop-name.invariant)
