use Rattle.std.proofs.Common.{arith}
use Rattle.st_recovery.proofs.RecoversLemmas.{every_outcome}
use Rattle.st_recovery.proofs.laws.every_pair_has_an_outcome_in.Goals as goal

pub returns : goal.returns
returns c =
    every_outcome c.args.newest c.args.a.now c.args.b.now (λ i. omega (arith, c.type_inv.a i)) (λ i. omega (arith, c.type_inv.b i))
