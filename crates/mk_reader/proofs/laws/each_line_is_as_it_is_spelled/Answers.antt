use Rattle.std.proofs.Common.{subst}
use Rattle.mk_reader.specs.Grammar.{IsForm}
use Rattle.mk_reader.proofs.GrammarLemmas.{form_said, form_back}
use Rattle.mk_reader.proofs.laws.each_line_is_as_it_is_spelled.Goals as goal

pub returns : goal.returns
returns c = λ profile file line told. ((λ e. subst (IsForm profile file line) e (form_said profile file line)), form_back profile file line told)
