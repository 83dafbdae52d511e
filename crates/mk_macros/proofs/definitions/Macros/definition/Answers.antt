use Rattle.std.proofs.Common.{◌∙◌, sym, ap}
use Rattle.mk_macros.specs.Ranks.{in_force}
use Rattle.mk_macros.specs.Shown.{ranks_of}
use Rattle.mk_macros.proofs.DefinitionLemmas.{shown_at}
use Rattle.mk_macros.proofs.definitions.Macros.definition.Goals as goal

pub returns-clause-text : goal.returns-clause-text
returns-clause-text c =
    rw (← c.self.view_is) (c.definition_in.ensures.text ∙ ap in_force (sym (shown_at (λ k. k.items) ranks_of c.self.inside.definitions.entries c.args.name.now)))
