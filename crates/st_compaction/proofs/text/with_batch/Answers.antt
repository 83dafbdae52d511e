use Rattle.std.proofs.Common.{arith}
use Rattle.st_compaction.proofs.NamedLemmas.{few_names}
use Rattle.st_compaction.proofs.text.with_batch.Goals as goal

pub overflow_cast-len : goal.overflow_cast-len
overflow_cast-len c = omega (arith, c.len-2.ensures, few_names c.args.form c.args.named.now, c.requires.whole, c.requires.short)
