use Rattle.std.proofs.Common.{ℕ, ◌<◌, List, length, arith}
use Rattle.mk_graph.proofs.UserLemmas.{starts_more, rest_still}
use Rattle.mk_graph.proofs.users.starts_behind.Goals as goal

pub loop-row-preserved : goal.loop-row-preserved
loop-row-preserved c =
    let old : List ℕ = c.args.ends.now in
    let now : List ℕ = c.loop-row.ends in
    let row = c.loop-row.row in
    let start = c.loop-row.start in
    let within : row < length now = omega arith in
    record {
      before = starts_more old now row start within c.loop-row.invariant.start c.loop-row.invariant.before;
      behind = rest_still old now row start c.loop-row.invariant.behind;
      start = let b = c.loop-row.invariant.behind row (omega arith) in search arith;
    }

pub returns-clause-starts : goal.returns-clause-starts
returns-clause-starts c = record {
  nodes = omega arith;
  places = λ n below. c.loop-row.invariant.before n (omega arith);
}
