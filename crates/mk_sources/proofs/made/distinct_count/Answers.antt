use Rattle.std.proofs.Common.{arith}
use Rattle.mk_sources.proofs.FewLemmas.{few_counted}
use Rattle.mk_sources.proofs.made.distinct_count.Goals as goal

pub returns-then-count-lt2 : goal.returns-then-count-lt2
returns-then-count-lt2 c = few_counted c.args.count c.args.names.now (omega arith) (omega arith)
