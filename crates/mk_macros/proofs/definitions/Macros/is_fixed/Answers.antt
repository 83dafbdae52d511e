use Rattle.std.proofs.Common.{◌∙◌, sym, ap}
use Rattle.mk_macros.specs.Ranks.{Ranks}
use Rattle.mk_macros.specs.Shown.{ranks_of}
use Rattle.mk_macros.proofs.DefinitionLemmas.{shown_at}
use Rattle.mk_macros.proofs.definitions.Macros.is_fixed.Goals as goal

pub returns : goal.returns
returns c =
    rw (← c.self.view_is) (c.is_fixed_in.ensures ∙ ap (λ (r : Ranks). r.is_fixed) (sym (shown_at (λ k. k.items) ranks_of c.self.inside.definitions.entries c.args.name.now)))
