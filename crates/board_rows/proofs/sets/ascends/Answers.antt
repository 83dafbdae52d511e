use Rattle.std.proofs.Common.{◌<◌, ◌+◌, arith}
use Rattle.bd_lists.proofs.OnceLemmas.{times_once}
use Rattle.board_rows.proofs.sets.ascends.Goals as goal

pub returns : goal.returns
returns c = λ t n. times_once c.args.numbers.now (λ k h. c.loop-place.invariant k (omega arith)) n
