use Rattle.std.proofs.Common.{arith, ◌≡◌, ◌<◌, ◌∙◌, ℕ, Some, length, map, nat_lt, refl, sym, ap, subst}
use Rattle.std.specs.Prelude.{slice_get}
use Rattle.std.specs.List.{list_all}
use Rattle.std.proofs.lemmas.Option.{slice_get_read}
use Rattle.mk_graph.specs.Edges.{row}
use Rattle.mk_names.specs.Names.{name_at}
use Rattle.mk_graph.proofs.CycleLemmas.{closed_row}
use Rattle.mk_edges.specs.Required.{names_in_row, IsRequiredRow}
use Rattle.mk_edges.specs.Rows.{EachRow}
use Rattle.mk_edges.proofs.RequiredLemmas.{closed_required, required_here}
use Rattle.mk_edges.proofs.RowsLemmas.{each_more, more_items}
use Rattle.mk_edges.proofs.required.required_rows.Goals as goal

pub required_row-requires : goal.required_row-requires
required_row-requires c =
    let hard = c.args.hard.now in
    let names = c.args.names.now in
    let k = c.loop-node.node in
    let inside : k < length hard = let test = c.loop-node-test.true in let known = c.requires.known in let nodes = c.requires.nodes in omega (arith) in
    ap (list_all (λ n. nat_lt n (length names))) c.row.ensures ∙ ap (λ l. list_all (λ n. nat_lt n l) (row hard k)) (sym c.requires.nodes) ∙ closed_row hard c.requires.closed k inside

pub loop-node-preserved : goal.loop-node-preserved
loop-node-preserved c =
    let k = c.loop-node.node in
    let found = c.index-known-node.result in
    let hard = c.args.hard.now in
    let names = c.args.names.now in
    let known = c.args.known.now in
    let inv = c.loop-node.invariant in
    let at : slice_get known k ≡ Some found = slice_get_read known (length known) k found refl c.loop-node-test.true c.index-known-node.is in
    let r = c.deref.result.now in
    record {
      count = more_items c.loop-node.required r c.push_row.new.self k c.in_ok-push_row.ensures.ok inv.count;
      each = subst (EachRow (IsRequiredRow names hard known)) (sym c.in_ok-push_row.ensures.ok)
          (each_more (IsRequiredRow names hard known) c.loop-node.required r inv.each
          (subst (λ (n : ℕ). IsRequiredRow names hard known n r) (sym inv.count)
          (required_here names hard known k found r at (ap (map (name_at names)) c.deref.ensures.value ∙ c.in_ok-numbers.ensures.names ∙ ap (names_in_row names found) c.row.ensures)
          (ap (list_all (λ m. nat_lt m (length names))) c.deref.ensures.value ∙ c.in_ok-numbers.ensures.nodes))));
    }

pub returns-clause-closed : goal.returns-clause-closed
returns-clause-closed c =
    let all : c.loop-node.node ≡ length c.args.known.now = let a = c.loop-node-test.false in let b = c.loop-node.auto.node-end in omega arith in
    closed_required c.args.names.now c.args.hard.now c.args.known.now c.loop-node.required (c.loop-node.invariant.count ∙ all ∙ c.requires.known) c.loop-node.invariant.each
