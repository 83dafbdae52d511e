use Rattle.mk_conditionals.proofs.DefineLemmas.{whole}
use Rattle.mk_conditionals.proofs.laws.inner_defines_are_passed_over.Goals as goal

pub returns : goal.returns
returns c = λ depth lines h. whole depth h
