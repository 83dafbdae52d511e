use Rattle.std.proofs.Common.{◌≡◌, ◌∙◌, ◌++◌, ◌≤◌, append-nil, ap, arith, length, subst, sym}
use Rattle.std.specs.Prelude.{map as list_map}
use Rattle.std.specs.List.{flat_map}
use Rattle.std.proofs.lemmas.List.{drop_all}
use Rattle.st_answers.specs.Graph.{AreEdges, edges_among, edges_from, named_edge}
use Rattle.st_answers.proofs.TimesLemmas.{edges_are}
use Rattle.st_answers.proofs.drawing.edges_drawn.Goals as goal

pub returns-clause-each : goal.returns-clause-each
returns-clause-each c =
    let m = c.args.state.now in
    let names = c.args.names.now in
    let edges = list_map named_edge c.loop-number.edges.items in
    let past : length names ≤ c.loop-number.number = omega arith in
    let order : edges_among m c.args.hidden names ≡ edges =
    sym c.loop-number.invariant
    ∙ ap (λ l. edges ++ flat_map (edges_from m c.args.hidden names) l) (drop_all c.loop-number.number names past)
    ∙ append-nil edges in
    λ distinct. subst (AreEdges m c.args.hidden names) order (edges_are m c.args.hidden names distinct)
