use Rattle.std.proofs.Common.{rules}
use Rattle.st_file.proofs.side.read_side_in.Goals as goal

pub returns-in_err-read_batches-clause-memory : goal.returns-in_err-read_batches-clause-memory
returns-in_err-read_batches-clause-memory g c = λ e. c.in_err-read_batches.ensures.memory c.args.newest c.in_ok-form.ensures.whole.0 (search rules)
