use Rattle.std.proofs.Common.{rules}
use Rattle.st_file.proofs.BatchLemmas.{no_record}
use Rattle.st_file.proofs.batch.record_of.Goals as goal

pub returns-else-is_want_of_memory-clause-none : goal.returns-else-is_want_of_memory-clause-none
returns-else-is_want_of_memory-clause-none c =
    no_record c.args.form c.args.bytes.now c.in-Err.fault (search rules) c.in-Err.ensures.only
