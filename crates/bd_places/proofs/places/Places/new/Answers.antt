use Rattle.std.proofs.Common.{[], None, length, replicate, refl, ap, ◌∙◌, sym}
use Rattle.bd_links.specs.Linked.{Linked}
use Rattle.bd_places.specs.Placed.{first_placed}
use Rattle.bd_places.specs.Settling.{Prerequisites}
use Rattle.bd_places.proofs.StartLemmas.{links_first, places_first, placed_first}
use Rattle.bd_places.proofs.places.Places.new.Goals as goal

pub ready_first-requires-clause-nodes : goal.ready_first-requires-clause-nodes
ready_first-requires-clause-nodes c =
    ap length c.deref.ensures.value ∙ (c.in_ok-tally.ensures.tallied []).missing_nodes ∙ ap (λ (g : Prerequisites). length g.counted) c.in_ok-tally.ensures.edges
    ∙ sym c.len-nodes.ensures ∙ sym (ap {A = Linked} (λ v. v.nodes) c.in_ok-links.ensures)

pub invariant_of-result : goal.invariant_of-result
invariant_of-result c =
    places_first c.in_ok-tally.tally c.in_ok-tally.ensures.tallied _ refl
    (links_first c.in_ok-tally.tally c.in_ok-tally.ensures.tallied c.in_ok-links.links c.ready_first.new.links c.len-nodes.result c.deref.result.now
    c.ready_first.ensures c.in_ok-links.ensures (c.len-nodes.ensures ∙ sym (ap (λ (g : Prerequisites). length g.counted) c.in_ok-tally.ensures.edges)) c.deref.ensures.value)
    (c.in_ok-ends.ensures ∙ ap (λ n. replicate n None) (c.len-nodes.ensures ∙ sym (ap (λ (g : Prerequisites). length g.counted) c.in_ok-tally.ensures.edges)))

pub returns : goal.returns
returns c =
    placed_first c.in_ok-tally.tally c.in_ok-tally.ensures.tallied (record { tally = c.in_ok-tally.tally; links = c.ready_first.new.links; ends = c.in_ok-ends.ends }) refl
    (links_first c.in_ok-tally.tally c.in_ok-tally.ensures.tallied c.in_ok-links.links c.ready_first.new.links c.len-nodes.result c.deref.result.now
    c.ready_first.ensures c.in_ok-links.ensures (c.len-nodes.ensures ∙ sym (ap (λ (g : Prerequisites). length g.counted) c.in_ok-tally.ensures.edges)) c.deref.ensures.value)
    (c.in_ok-ends.ensures ∙ ap (λ n. replicate n None) (c.len-nodes.ensures ∙ sym (ap (λ (g : Prerequisites). length g.counted) c.in_ok-tally.ensures.edges)))
    ∙ ap first_placed c.in_ok-tally.ensures.edges
