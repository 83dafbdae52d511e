use Rattle.std.proofs.Common.{◌∙◌, sym}
use Rattle.mk_macros.proofs.DefinitionLemmas.{key_named}
use Rattle.mk_macros.proofs.definitions.definition_in.Goals as goal

pub returns-clause-name : goal.returns-clause-name
returns-clause-name c =
    c.as_slice.ensures.value ∙ key_named (λ k. k.items) c.args.name.now c.args.definitions.now.entries c.in_ok-key.key.now (sym c.in_ok-key.ensures.key)
