use Rattle.mk_recipe.proofs.CallsLemmas.{stands_in, contains}
use Rattle.mk_recipe.proofs.line.stands_in.Goals as goal

pub returns : goal.returns
returns c = (
  λ is. stands_in c.args.text.now c.args.bytes.now (c.contains_str.ensures.0 is),
  λ stands. c.contains_str.ensures.1 (contains c.args.text.now c.args.bytes.now stands),
)
