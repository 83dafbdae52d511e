use Rattle.std.proofs.Common.{refl}
use Rattle.mk_macros.specs.Ranks.{defined_by}
use Rattle.mk_eval.proofs.OutcomeLemmas.{text_some}
use Rattle.mk_eval.proofs.laws.an_outcome.Goals as goal

pub returns : goal.returns
returns c = λ files levels listed file text. text_some files levels (defined_by listed) (listed, refl) file text
