use Rattle.bd_links.proofs.FirstLemmas.{spelled_at_first}
use Rattle.bd_links.proofs.SpelledLemmas.{lists_anew, spelled_anew}
use Rattle.bd_links.proofs.links.Links.new.Goals as goal

pub invariant_of-result : goal.invariant_of-result
invariant_of-result c =
    spelled_anew _ _ _ c.args.nodes 0 _
    (spelled_at_first c.args.nodes _ _ _ c.in_ok-first_nexts.ensures c.in_ok-first_prevs.ensures c.in_ok-first_marks.ensures)

pub returns : goal.returns
returns c =
    let lists = lists_anew _ _ _ c.args.nodes 0 _
    (spelled_at_first c.args.nodes _ _ _ c.in_ok-first_nexts.ensures c.in_ok-first_prevs.ensures c.in_ok-first_marks.ensures) in
    λ i. record { nodes = c.args.nodes; joins = 0; lists = lists i }
