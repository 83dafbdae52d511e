use Rattle.std.proofs.Common.{◌≡◌, ℕ, List, false, rules, sym, subst}
use Rattle.mk_names.specs.Names.{has_name}
use Rattle.dmk_parts.proofs.BehindLemmas.{AreNumberedSoFar, numbered_more, numbered_without}
use Rattle.dmk_parts.proofs.clearing.numbers_of.Goals as goal

pub loop-name-preserved-in-Continue-1 : goal.loop-name-preserved-in-Continue-1
loop-name-preserved-in-Continue-1 c =
    let graph = c.args.graph.now in
    let numbers = c.loop-name.numbers.items in
    let (below, is) = c.in-Some-number_of.ensures.number in
    subst (λ (ns : List ℕ). AreNumberedSoFar graph ns c.args.names.now c.next.new.self) (sym c.in_ok-push.ensures.items)
    (numbered_more graph numbers c.args.names.now c.next.new.self c.in-Some.name.now
    (subst (AreNumberedSoFar graph numbers c.args.names.now) c.in-Some.ensures.steps c.loop-name.invariant) c.in-Some-number_of.number below is)

-- the graph doesn't have it
pub loop-name-preserved : goal.loop-name-preserved
loop-name-preserved c =
    let graph = c.args.graph.now in
    let numbers = c.loop-name.numbers.items in
    let none : has_name graph.names c.in-Some.name.now ≡ false = search rules in
    numbered_without graph numbers c.args.names.now c.next.new.self c.in-Some.name.now
    (subst (AreNumberedSoFar graph numbers c.args.names.now) c.in-Some.ensures.steps c.loop-name.invariant) none
