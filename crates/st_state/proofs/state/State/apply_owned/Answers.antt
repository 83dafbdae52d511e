use Rattle.std.proofs.Common.{◌≡◌, ap, sym, true, ◌∙◌}
use Rattle.name_keys.specs.Ends.{may_have}
use Rattle.st_state.specs.State.{by_name}
use Rattle.st_state.proofs.EndsLemmas.{ends_marked, ends_taken}
use Rattle.st_state.proofs.state.State.apply_owned.Goals as goal

pub invariant_of-self : goal.invariant_of-self
invariant_of-self c =
    let ends = c.mark.new.self in
    let before = by_name (λ k. k) c.self.inside.entries.entries in
    let marked : may_have ends c.new.result ≡ true = ap (may_have ends) (c.new.ensures ∙ sym c.as_slice.ensures) ∙ c.mark.ensures.marked in
    ends_taken c.take_event.result ends before _ c.new.result c.into_parts-target.result.1 marked
    (ends_marked c.self.inside.ends ends before c.mark.ensures.kept c.self.invariant) c.take_event.ensures.ok c.take_event.ensures.err
