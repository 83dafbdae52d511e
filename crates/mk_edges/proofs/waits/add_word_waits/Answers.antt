use Rattle.std.proofs.Common.{map, length, nat_lt, ap, ◌∙◌}
use Rattle.std.specs.List.{list_all}
use Rattle.std.proofs.lemmas.Result.{on_ok_weaker}
use Rattle.mk_names.specs.Names.{name_at}
use Rattle.mk_nodes.specs.Waits.{groups_of}
use Rattle.mk_edges.proofs.waits.add_word_waits.Goals as goal

pub add_groups-requires-clause-groups : goal.add_groups-requires-clause-groups
add_groups-requires-clause-groups c =
    ap (list_all (λ g. list_all (λ n. nat_lt n (length c.args.names.now)) g.items)) c.deref.ensures.value ∙ c.in_ok-groups.ensures.nodes

pub returns-clause-members : goal.returns-clause-members
returns-clause-members c =
    let names = c.args.names.now in
    let words = c.args.words.now in
    on_ok_weaker c.add_groups.result
    (λ members n m n_in m_in.
    members (groups_of words) (ap (λ gs. map (map (name_at names)) (map (λ g. g.items) gs)) c.deref.ensures.value ∙ c.in_ok-groups.ensures.groups) n m n_in m_in)
    c.add_groups.ensures.members
