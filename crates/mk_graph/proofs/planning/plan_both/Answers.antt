use Rattle.std.proofs.Common.{◌≡◌, ℕ, ◌+◌, ◌<◌, ◌≤◌, ◌||◌, Bool, true, false, List, [], ◌∷◌, ◌++◌, length, set, replicate, nat_eq, Option, Some, None, sym, ap, ◌∙◌, subst, arith, length-append, append-nil}
use Rattle.std.specs.Option.{IfSome, IfNone}
use Rattle.std.proofs.lemmas.Grind.{common_steps}
use Rattle.std.proofs.lemmas.List.{length-replicate}
use Rattle.mk_graph.specs.Counted.{joined}
use Rattle.mk_graph.specs.Plan.{IsPlan}
use Rattle.mk_graph.specs.Ready.{is_in}
use Rattle.mk_graph.specs.Watching.{is_passed, can_pass, AreWatched, AreReleased}
use Rattle.mk_graph.proofs.JoinLemmas.{length-joined}
use Rattle.mk_graph.proofs.PlanLemmas.{Passes, Passes-start, Passes-more, none_passed, plan_ends, room_for_one}
use Rattle.mk_graph.proofs.WatchLemmas.{watched_start, watched_marked}
use Rattle.mk_graph.proofs.planning.plan_both.Goals as goal

at_some : {A : Type 0} (found : Option A) (x : A) (P : A → Type 0) → found ≡ Some x → IfSome found P → P x
at_some found x P is h = subst (λ o. IfSome o P) is h

at_none : {A : Type 0} (found : Option A) (P : Type 0) → found ≡ None → IfNone found P → P
at_none found P is h = subst (λ o. IfNone o P) is h

-- a node was found; `ms` are the marks as they were read
module _ (g : List (List ℕ)) (marks ms : List Bool) (read : ms ≡ marks) (o : List ℕ) (passes : Passes g marks o) (found : Option ℕ) (n : ℕ) (is : found ≡ Some n)
    (can : IfSome found (λ k. can_pass g ms k ≡ true)) where
  can_now : can_pass g marks n ≡ true
  can_now = subst (λ l. can_pass g l n ≡ true) read (at_some found n (λ k. can_pass g ms k ≡ true) is can)

  room : length o + 1 ≤ length g
  room = room_for_one g marks o n passes can_now

  passed_on : length marks ≡ length g → IfSome found (λ k. (m : ℕ) → m < k → can_pass g ms m ≡ false) → (o' : List ℕ) → o' ≡ o ++ n ∷ [] → Passes g (set marks n true) o'
  passed_on same least o' pushed = subst (Passes g (set marks n true)) (sym pushed)
      (Passes-more g marks o n passes can_now same
      (λ m lt. ap (λ l. can_pass g l m) (sym read) ∙ at_some found n (λ k. (j : ℕ) → j < k → can_pass g ms j ≡ false) is least m lt))

  marked : (ready : ℕ → Bool) (from : ℕ) (places : List ℕ) (lists : List (List ℕ)) → IfSome found (λ k. AreWatched g ms (λ m. ready m || nat_eq m k) from places lists)
      → AreReleased ms lists → IfSome found (λ k. ready k ≡ false) → (ms' : List Bool) → ms' ≡ set marks n true → AreWatched g ms' ready from places lists
  marked ready from places lists watched released taken ms' now = subst (λ l. AreWatched g l ready from places lists) (sym now)
      (watched_marked g marks ready from places lists n
      (subst (λ l. AreWatched g l (λ m. ready m || nat_eq m n) from places lists) read (at_some found n (λ k. AreWatched g ms (λ m. ready m || nat_eq m k) from places lists) is watched))
      (subst (λ l. AreReleased l lists) read released) can_now (at_some found n (λ k. ready k ≡ false) is taken))

pub loop-order-init : goal.loop-order-init
loop-order-init c =
    let first = c.args.first.now in
    let g = joined first c.args.second.now in
    let marks = c.in_ok-passed.passed.items in
    let is : marks ≡ replicate (length first) false = grind (arith, common_steps) in
    let none : (q : ℕ) → is_passed marks q ≡ false = λ q. ap (λ l. is_passed l q) is ∙ none_passed (length first) q in
    let long : length first ≡ length g = sym (length-joined first c.args.second.now) in
    let w = c.in_ok-waiting.waiting in
    record {
      passes = Passes-start g marks c.in_ok-order.order.items c.in_ok-order.ensures.items none;
      watched = watched_start g marks (is_in c.new-ready.result) w.from w.places.items w.lists
          (ap length is ∙ length-replicate (length first) false ∙ long) (c.in_ok-waiting.ensures.places ∙ c.len-2.ensures ∙ long) (c.in_ok-waiting.ensures.lists ∙ c.len-2.ensures ∙ long)
          c.in_ok-waiting.ensures.from none c.new-ready.ensures c.in_ok-waiting.ensures.empty;
      released = λ p was. c.in_ok-waiting.ensures.empty p;
    }

pub release-requires-clause-watched : goal.release-requires-clause-watched
release-requires-clause-watched c =
    let w = c.next_ready.new.waiting in
    marked (joined c.args.first.now c.args.second.now) c.loop-order.passed.items c.deref.result.now c.deref.ensures.value c.loop-order.order.items c.loop-order.invariant.passes
    c.in_ok-node.field-0 c.in-Some.node c.in-Some.is c.in_ok-node.ensures.can
    (is_in c.next_ready.new.ready) w.from w.places.items w.lists c.in_ok-node.ensures.watched c.next_ready.ensures.released c.in_ok-node.ensures.taken
    c.deref-in-Some.result.now c.deref-in-Some.ensures.value

pub loop-order-smaller : goal.loop-order-smaller
loop-order-smaller c =
    let o = c.loop-order.order.items in
    let r = room (joined c.args.first.now c.args.second.now) c.loop-order.passed.items c.deref.result.now c.deref.ensures.value o c.loop-order.invariant.passes
    c.in_ok-node.field-0 c.in-Some.node c.in-Some.is c.in_ok-node.ensures.can in
    let grown = ap length c.in_ok-push.ensures.ok ∙ length-append o (c.in-Some.node ∷ []) in
    omega arith

pub loop-order-preserved : goal.loop-order-preserved
loop-order-preserved c =
    let g = joined c.args.first.now c.args.second.now in
    let w = c.release.new.self in
    record {
      passes = passed_on g c.loop-order.passed.items c.deref.result.now c.deref.ensures.value c.loop-order.order.items c.loop-order.invariant.passes
          c.in_ok-node.field-0 c.in-Some.node c.in-Some.is c.in_ok-node.ensures.can
          c.loop-order.invariant.watched.marked c.in_ok-node.ensures.least c.push.new.items.items c.in_ok-push.ensures.ok;
      watched = subst (λ l. AreWatched g l (is_in c.release.new.ready) w.from w.places.items w.lists) c.deref-in-Some.ensures.value c.in_ok-release.ensures.watched;
      released = subst (λ l. AreReleased l w.lists) c.deref-in-Some.ensures.value c.in_ok-release.ensures.released;
    }

pub returns-clause-plan : goal.returns-clause-plan
returns-clause-plan c =
    let g = joined c.args.first.now c.args.second.now in
    let ms = c.deref.result.now in
    let none : (m : ℕ) → can_pass g ms m ≡ false = at_none c.in_ok-node.field-0 ((m : ℕ) → can_pass g ms m ≡ false) c.in_default.is c.in_ok-node.ensures.none in
    let kept = c.loop-order.invariant.passes in
    subst (IsPlan g) (append-nil c.loop-order.order.items)
    (kept.so_far [] (plan_ends g c.loop-order.passed.items c.loop-order.order.items kept (λ m. ap (λ l. can_pass g l m) (sym c.deref.ensures.value) ∙ none m)))
