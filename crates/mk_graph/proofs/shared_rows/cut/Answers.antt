use Rattle.std.proofs.Common.{arith}
use Rattle.mk_graph.proofs.SpanLemmas.{slice_range_behind}
use Rattle.mk_graph.proofs.shared_rows.cut.Goals as goal

pub returns-then-count-end-clause-back : goal.returns-then-count-end-clause-back
returns-then-count-end-clause-back c = λ numbers. slice_range_behind numbers c.args.span.start c.args.count c.args.span.end (let few = c.if-count-end.true in omega arith)
