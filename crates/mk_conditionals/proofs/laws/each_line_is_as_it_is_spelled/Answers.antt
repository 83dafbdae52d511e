use Rattle.std.proofs.Common.{subst}
use Rattle.mk_conditionals.specs.Spelling.{Spells}
use Rattle.mk_conditionals.proofs.SpellingLemmas.{said_spells, spells_said}
use Rattle.mk_conditionals.proofs.laws.each_line_is_as_it_is_spelled.Goals as goal

pub returns : goal.returns
returns c = λ text told. ((λ e. subst (Spells text) e (said_spells text)), spells_said text told)
