use Rattle.std.proofs.Common.{ap, sym, ◌∙◌}
use Rattle.std.specs.FinMap as map
use Rattle.st_state.proofs.StateLemmas.{get-by_name}
use Rattle.st_state.proofs.state.State.get.Goals as goal

pub returns : goal.returns
returns c =
    c.get.ensures.value
    ∙ sym (get-by_name (λ k. k) c.args.name.now c.self.inside.entries.entries)
    ∙ ap (λ m. map.get m c.args.name.now) c.self.view_is
