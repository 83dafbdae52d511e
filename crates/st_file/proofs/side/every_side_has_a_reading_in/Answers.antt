use Rattle.std.proofs.Common.{arith}
use Rattle.st_file.proofs.TotalLemmas.{every_reading_in}
use Rattle.st_file.proofs.side.every_side_has_a_reading_in.Goals as goal

pub returns : goal.returns
returns c = every_reading_in c.args.newest c.args.side c.args.bytes.now (λ i. omega (arith, c.type_inv.bytes i))
