use Rattle.std.proofs.Common.{ℕ, ◌<◌, List, length, sum, ap, ◌∙◌, arith}
use Rattle.std.proofs.lemmas.List.{take_all}
use Rattle.std.proofs.lemmas.List.Sums.{sum_by_more, sum_by_more_le}
use Rattle.mk_graph.specs.Users.{ends_from}
use Rattle.mk_graph.proofs.UserLemmas.{length-ends_from, start_of_row, starts_more, rest_still}
use Rattle.mk_graph.proofs.users.starts_of.Goals as goal

pub overflow_add-end : goal.overflow_add-end
overflow_add-end c =
    let old : List ℕ = c.args.lengths.now in
    let row = c.loop-row.row in
    let m = sum_by_more_le (λ x. x) old row 0 (omega arith) in
    let b = c.loop-row.invariant.behind row (omega arith) in
    let e = c.loop-row.invariant.start in
    let r = c.requires in
    omega arith

pub loop-row-preserved : goal.loop-row-preserved
loop-row-preserved c =
    let old : List ℕ = c.args.lengths.now in
    let now : List ℕ = c.loop-row.lengths in
    let row = c.loop-row.row in
    let start = c.loop-row.start in
    let inside : row < length old = omega arith in
    let within : row < length now = omega arith in
    let e = c.loop-row.invariant.start in
    let first = start_of_row 0 old row inside in
    record {
      before = starts_more (ends_from 0 old) now row start within (omega arith) c.loop-row.invariant.before;
      behind = rest_still old now row start c.loop-row.invariant.behind;
      start = let m = sum_by_more (λ x. x) old row 0 inside in let b = c.loop-row.invariant.behind row (omega arith) in omega arith;
    }

pub returns-clause-starts : goal.returns-clause-starts
returns-clause-starts c =
    let many = length-ends_from 0 c.args.lengths.now in
    record {
      nodes = omega arith;
      places = λ n below. c.loop-row.invariant.before n (omega arith);
    }

pub returns-clause-end : goal.returns-clause-end
returns-clause-end c = c.loop-row.invariant.start ∙ ap sum (take_all c.loop-row.row c.args.lengths.now (omega arith))
