use Rattle.std.proofs.Common.{◌≡◌, ℕ, true, List, length, map, take, drop, sym, ap, subst, ◌∙◌}
use Rattle.std.proofs.lemmas.Result.{IfOk-weaker}
use Rattle.mk_graph.specs.Edges.{is_closed}
use Rattle.mk_graph.specs.Parts.{fronts, backs}
use Rattle.mk_edges.specs.Rows.{EachRow, IsHardRow, IsWaitedRow}
use Rattle.mk_edges.proofs.RowsLemmas.{as_many_counts, as_many_parts, hard_parts, waited_parts}
use Rattle.mk_edges.proofs.RowLaws.{closed_hard, closed_waited}
use Rattle.mk_edges.proofs.rows.parted_rows.Goals as goal

pub parted-requires : goal.parted-requires
parted-requires c =
    let g = c.args.numbered.now.rows in
    let known = c.args.numbered.now.nodes.items in
    let counts : List ℕ = c.deref-2.result.now in
    let are : counts ≡ map (λ k. k.hard) known = c.deref-2.ensures.value ∙ c.in_ok-counts.ensures ∙ ap (map (λ k. k.hard)) c.deref.ensures.value in
    as_many_counts g known counts are (c.requires.row_count ∙ sym c.requires.node_count)

pub returns-clause-hard_count : goal.returns-clause-hard_count
returns-clause-hard_count c =
    let g = c.args.numbered.now.rows in
    let known = c.args.numbered.now.nodes.items in
    let names = c.args.numbered.now.names in
    let counts : List ℕ = c.deref-2.result.now in
    let are : counts ≡ map (λ k. k.hard) known = c.deref-2.ensures.value ∙ c.in_ok-counts.ensures ∙ ap (map (λ k. k.hard)) c.deref.ensures.value in
    let same : length g ≡ length known = c.requires.row_count ∙ sym c.requires.node_count in
    IfOk-weaker c.parted.result (λ p. p.fronts ≡ fronts counts g) (λ p. length p.fronts ≡ length names)
    (λ p is. ap length is ∙ as_many_parts g known counts are same take ∙ c.requires.node_count) c.parted.ensures.fronts

pub returns-clause-hard_closed : goal.returns-clause-hard_closed
returns-clause-hard_closed c =
    let g = c.args.numbered.now.rows in
    let known = c.args.numbered.now.nodes.items in
    let names = c.args.numbered.now.names in
    let counts : List ℕ = c.deref-2.result.now in
    let are : counts ≡ map (λ k. k.hard) known = c.deref-2.ensures.value ∙ c.in_ok-counts.ensures ∙ ap (map (λ k. k.hard)) c.deref.ensures.value in
    let same : length g ≡ length known = c.requires.row_count ∙ sym c.requires.node_count in
    IfOk-weaker c.parted.result (λ p. p.fronts ≡ fronts counts g) (λ p. is_closed p.fronts ≡ true)
    (λ p is. ap is_closed is ∙ closed_hard g known (fronts counts g) same (as_many_parts g known counts are same take) (hard_parts g known counts are same) c.requires.closed) c.parted.ensures.fronts

pub returns-clause-hard : goal.returns-clause-hard
returns-clause-hard c =
    let g = c.args.numbered.now.rows in
    let known = c.args.numbered.now.nodes.items in
    let names = c.args.numbered.now.names in
    let counts : List ℕ = c.deref-2.result.now in
    let are : counts ≡ map (λ k. k.hard) known = c.deref-2.ensures.value ∙ c.in_ok-counts.ensures ∙ ap (map (λ k. k.hard)) c.deref.ensures.value in
    let same : length g ≡ length known = c.requires.row_count ∙ sym c.requires.node_count in
    IfOk-weaker c.parted.result (λ p. p.fronts ≡ fronts counts g) (λ p. EachRow (IsHardRow g known) p.fronts)
    (λ p is. subst (EachRow (IsHardRow g known)) (sym is) (hard_parts g known counts are same)) c.parted.ensures.fronts

pub returns-clause-waited_count : goal.returns-clause-waited_count
returns-clause-waited_count c =
    let g = c.args.numbered.now.rows in
    let known = c.args.numbered.now.nodes.items in
    let names = c.args.numbered.now.names in
    let counts : List ℕ = c.deref-2.result.now in
    let are : counts ≡ map (λ k. k.hard) known = c.deref-2.ensures.value ∙ c.in_ok-counts.ensures ∙ ap (map (λ k. k.hard)) c.deref.ensures.value in
    let same : length g ≡ length known = c.requires.row_count ∙ sym c.requires.node_count in
    IfOk-weaker c.parted.result (λ p. p.backs ≡ backs counts g) (λ p. length p.backs ≡ length names)
    (λ p is. ap length is ∙ as_many_parts g known counts are same drop ∙ c.requires.node_count) c.parted.ensures.backs

pub returns-clause-waited_closed : goal.returns-clause-waited_closed
returns-clause-waited_closed c =
    let g = c.args.numbered.now.rows in
    let known = c.args.numbered.now.nodes.items in
    let names = c.args.numbered.now.names in
    let counts : List ℕ = c.deref-2.result.now in
    let are : counts ≡ map (λ k. k.hard) known = c.deref-2.ensures.value ∙ c.in_ok-counts.ensures ∙ ap (map (λ k. k.hard)) c.deref.ensures.value in
    let same : length g ≡ length known = c.requires.row_count ∙ sym c.requires.node_count in
    IfOk-weaker c.parted.result (λ p. p.backs ≡ backs counts g) (λ p. is_closed p.backs ≡ true)
    (λ p is. ap is_closed is ∙ closed_waited g known (backs counts g) same (as_many_parts g known counts are same drop) (waited_parts g known counts are same) c.requires.closed) c.parted.ensures.backs

pub returns-clause-waited : goal.returns-clause-waited
returns-clause-waited c =
    let g = c.args.numbered.now.rows in
    let known = c.args.numbered.now.nodes.items in
    let names = c.args.numbered.now.names in
    let counts : List ℕ = c.deref-2.result.now in
    let are : counts ≡ map (λ k. k.hard) known = c.deref-2.ensures.value ∙ c.in_ok-counts.ensures ∙ ap (map (λ k. k.hard)) c.deref.ensures.value in
    let same : length g ≡ length known = c.requires.row_count ∙ sym c.requires.node_count in
    IfOk-weaker c.parted.result (λ p. p.backs ≡ backs counts g) (λ p. EachRow (IsWaitedRow g known) p.backs)
    (λ p is. subst (EachRow (IsWaitedRow g known)) (sym is) (waited_parts g known counts are same)) c.parted.ensures.backs
