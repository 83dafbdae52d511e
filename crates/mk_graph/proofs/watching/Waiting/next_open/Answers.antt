use Rattle.std.proofs.Common.{◌≡◌, ◌≢◌, ℕ, ◌+◌, ◌<◌, ◌≤◌, Bool, true, false, nat_eq, List, ◌++◌, length, slice_index, refl, ◌∙◌, ⊎_elim, arith, eq-eqb, ne_eqb}
use Rattle.std.proofs.lemmas.Bool.{cases_lt, false_from_ne_true}
use Rattle.std.specs.List.{list_all}
use Rattle.mk_graph.specs.Counted.{joined}
use Rattle.mk_graph.specs.Edges.{row, has}
use Rattle.mk_graph.specs.Watching.{is_passed, can_pass, IsSeen, Waits, AreWatched, AreReleased}
use Rattle.mk_graph.proofs.JoinLemmas.{length-joined}
use Rattle.mk_graph.proofs.SeenLemmas.{row_of_both}
use Rattle.mk_graph.proofs.WatchLemmas.{none_else, can_not_past, can_here, watched_open, watched_stuck}
use Rattle.mk_graph.proofs.watching.Waiting.next_open.Goals as goal

-- the next node is looked at
module _ (g : List (List ℕ)) (marks : List Bool) (from : ℕ) (places : List ℕ) (lists : List (List ℕ)) (watched : AreWatched g marks (λ n. false) from places lists)
    (u : ℕ) (place : from ≡ u) (within : u < length g) (ns : List ℕ) (is_row : row g u ≡ ns)
    (from' : ℕ) (behind : from' ≡ u + 1) (places' : List ℕ) (lists' : List (List ℕ)) (placed : length places' ≡ length places) (linked : length lists' ≡ length lists)
    (places_still : (n : ℕ) → n ≢ u → slice_index places' n ≡ slice_index places n)
    (lists_still : (p n : ℕ) → n ≢ u → has (row lists' p) n ≡ has (row lists p) n)
    (own : (p : ℕ) → has (row lists' p) u ≡ true → IsSeen marks ns (slice_index places' u) p) where
  fresh : is_passed marks u ≡ false
  fresh = false_from_ne_true (is_passed marks u) (λ was. let lt = watched.passed u was in absurd (omega arith))

  can : list_all (is_passed marks) ns ≡ true → can_pass g marks u ≡ true
  can = can_here g marks (λ n. false) from places lists watched u ns is_row from' places' lists' placed linked
      (omega arith) (omega arith) (λ n lt off. omega arith) (omega arith) fresh places_still lists_still own

  opened : list_all (is_passed marks) ns ≡ true → AreWatched g marks (λ m. nat_eq m u) from' places' lists'
  opened all = watched_open g marks (λ n. false) from places lists watched u ns is_row from' places' lists' placed linked
      (omega arith) (omega arith) (λ n lt off. omega arith) (omega arith) fresh places_still lists_still own
      (λ m. nat_eq m u) (λ n off. ne_eqb n u off) (eq-eqb u u refl) all

  stuck : Waits marks ns places' lists' u → AreWatched g marks (λ n. false) from' places' lists'
  stuck = watched_stuck g marks (λ n. false) from places lists watched u ns is_row from' places' lists' placed linked
      (omega arith) (omega arith) (λ n lt off. omega arith) (omega arith) fresh places_still lists_still own

-- none can be passed once all were looked at
none_left : (g : List (List ℕ)) (marks : List Bool) (from : ℕ) (places : List ℕ) (lists : List (List ℕ)) → AreWatched g marks (λ n. false) from places lists → AreReleased marks lists
    → length g ≤ from → (m : ℕ) → can_pass g marks m ≡ false
none_left g marks from places lists watched released all m = ⊎_elim
    (λ lt. none_else g marks (λ n. false) from places lists watched released m lt refl)
    (λ le. can_not_past g marks m (omega arith))
    (cases_lt m from)

pub go_on-requires-clause-node : goal.go_on-requires-clause-node
go_on-requires-clause-node c =
    let j = length-joined c.args.first.now c.args.second.now in
    let l = c.loop-node.invariant.watched.linked in
    omega (arith, c.loop-node-test.true, c.len-node-end.ensures)

pub returns-then-branch-clause-some : goal.returns-then-branch-clause-some
returns-then-branch-clause-some c =
    let first = c.args.first.now in
    let second = c.args.second.now in
    let w = c.loop-node.self in
    let w' = c.go_on.new.self in
    let ns = c.row-row.result.now ++ c.row_of-more.result.now in
    can (joined first second) c.args.passed.now w.from w.places.items w.lists c.loop-node.invariant.watched c.loop-node.node c.loop-node.invariant.here
    (let j = length-joined first second in omega (arith, c.loop-node-test.true, c.len-node-end.ensures))
    ns (row_of_both first second c.requires.nodes c.loop-node.node c.row-row.result.now c.row_of-more.result.now c.row-row.ensures c.row_of-more.ensures)
    w'.from c.go_on.ensures.from w'.places.items w'.lists c.go_on.ensures.places c.go_on.ensures.lists c.go_on.ensures.others c.go_on.ensures.still c.in_ok-go_on.ensures.own
    (c.in_ok-go_on.ensures.all c.if-branch.true)

pub returns-then-branch-clause-watched : goal.returns-then-branch-clause-watched
returns-then-branch-clause-watched c =
    let first = c.args.first.now in
    let second = c.args.second.now in
    let w = c.loop-node.self in
    let w' = c.go_on.new.self in
    let ns = c.row-row.result.now ++ c.row_of-more.result.now in
    opened (joined first second) c.args.passed.now w.from w.places.items w.lists c.loop-node.invariant.watched c.loop-node.node c.loop-node.invariant.here
    (let j = length-joined first second in omega (arith, c.loop-node-test.true, c.len-node-end.ensures))
    ns (row_of_both first second c.requires.nodes c.loop-node.node c.row-row.result.now c.row_of-more.result.now c.row-row.ensures c.row_of-more.ensures)
    w'.from c.go_on.ensures.from w'.places.items w'.lists c.go_on.ensures.places c.go_on.ensures.lists c.go_on.ensures.others c.go_on.ensures.still c.in_ok-go_on.ensures.own
    (c.in_ok-go_on.ensures.all c.if-branch.true)

pub returns-then-branch-clause-least : goal.returns-then-branch-clause-least
returns-then-branch-clause-least c = λ m lt.
    let w = c.loop-node.self in
    none_else (joined c.args.first.now c.args.second.now) c.args.passed.now (λ n. false) w.from w.places.items w.lists c.loop-node.invariant.watched c.loop-node.invariant.released m
    (let e = c.loop-node.invariant.here in omega arith) refl

pub loop-node-preserved : goal.loop-node-preserved
loop-node-preserved c =
    let first = c.args.first.now in
    let second = c.args.second.now in
    let w = c.loop-node.self in
    let w' = c.go_on.new.self in
    let ns = c.row-row.result.now ++ c.row_of-more.result.now in
    record {
      here = c.go_on.ensures.from;
      watched = stuck (joined first second) c.args.passed.now w.from w.places.items w.lists c.loop-node.invariant.watched c.loop-node.node c.loop-node.invariant.here
          (let j = length-joined first second in omega (arith, c.loop-node-test.true, c.len-node-end.ensures))
          ns (row_of_both first second c.requires.nodes c.loop-node.node c.row-row.result.now c.row_of-more.result.now c.row-row.ensures c.row_of-more.ensures)
          w'.from c.go_on.ensures.from w'.places.items w'.lists c.go_on.ensures.places c.go_on.ensures.lists c.go_on.ensures.others c.go_on.ensures.still c.in_ok-go_on.ensures.own
          (c.in_ok-go_on.ensures.waits c.if-branch.false);
      released = λ p was. c.go_on.ensures.passed p was ∙ c.loop-node.invariant.released p was;
    }

pub returns-clause-none : goal.returns-clause-none
returns-clause-none c =
    let w = c.loop-node.self in
    none_left (joined c.args.first.now c.args.second.now) c.args.passed.now w.from w.places.items w.lists c.loop-node.invariant.watched c.loop-node.invariant.released
    (let j = length-joined c.args.first.now c.args.second.now in let e = c.loop-node.invariant.here in omega (arith, c.loop-node-test.false, c.len-node-end.ensures))
