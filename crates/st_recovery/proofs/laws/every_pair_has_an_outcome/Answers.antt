use Rattle.std.proofs.Common.{arith}
use Rattle.st_records.specs.declared.version.Form.TheVariants.{Plain}
use Rattle.st_recovery.proofs.RecoversLemmas.{every_outcome}
use Rattle.st_recovery.proofs.laws.every_pair_has_an_outcome.Goals as goal

pub returns : goal.returns
returns c =
    every_outcome Plain c.args.a.now c.args.b.now (λ i. omega (arith, c.type_inv.a i)) (λ i. omega (arith, c.type_inv.b i))
