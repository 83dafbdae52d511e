use Rattle.std.proofs.Common.{ap, sym, ◌∙◌}
use Rattle.std.specs.FinMap as map
use Rattle.std.proofs.lemmas.List.{length-map}
use Rattle.std.proofs.lemmas.Map.Lookups.{map_keys}
use Rattle.st_state.proofs.StateLemmas.{len-from_entries, apart-map_keys}
use Rattle.st_state.proofs.state.State.len.Goals as goal

pub returns : goal.returns
returns c =
    let es = c.self.inside.entries.entries in
    c.len.ensures.len
    ∙ sym (length-map es _)
    ∙ sym (len-from_entries (map_keys (λ k. k) es) (apart-map_keys (λ k. k) es c.len.ensures.unique))
    ∙ ap map.len c.self.view_is
