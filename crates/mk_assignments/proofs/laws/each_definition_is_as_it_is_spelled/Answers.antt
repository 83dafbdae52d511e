use Rattle.mk_assignments.proofs.DefinitionLemmas.{spells, spelled}
use Rattle.mk_assignments.proofs.laws.each_definition_is_as_it_is_spelled.Goals as goal

pub returns : goal.returns
returns c = λ text told. (spells text told, spelled text told)
