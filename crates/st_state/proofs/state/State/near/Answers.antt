use Rattle.std.proofs.Common.{ap, sym, ◌∙◌}
use Rattle.std.specs.FinMap as map
use Rattle.st_state.proofs.StateLemmas.{get-by_name}
use Rattle.st_state.proofs.state.State.near.Goals as goal

pub returns-in-Some-get_full : goal.returns-in-Some-get_full
returns-in-Some-get_full c =
    c.in-Some-get_full.ensures.value
    ∙ sym (get-by_name (λ k. k) c.args.name.now c.self.inside.entries.entries)
    ∙ ap (λ m. map.get m c.args.name.now) c.self.view_is

pub returns-in-None : goal.returns-in-None
returns-in-None c =
    c.in-None.ensures.value
    ∙ sym (get-by_name (λ k. k) c.args.name.now c.self.inside.entries.entries)
    ∙ ap (λ m. map.get m c.args.name.now) c.self.view_is
