use Rattle.std.proofs.Common.{◌≡◌, ◌<◌, ◌||◌, true, length, map, sym, ap, subst, ◌∙◌, Vec, Global, ℕ, List}
use Rattle.std.proofs.lemmas.List.{length-map}
use Rattle.std.proofs.lemmas.Result.{IfOk-weaker}
use Rattle.std.specs.List.{list_any}
use Rattle.mk_graph.specs.Edges.{row, is_closed, has as has_number}
use Rattle.mk_names.specs.Names.{name_at}
use Rattle.mk_graph.specs.Waits.{BeginWith}
use Rattle.mk_nodes.specs.Waits.{line_orders}
use Rattle.mk_edges.proofs.WaitLemmas.{no_line_orders, or_none}
use Rattle.mk_edges.proofs.waits.with_waits.Goals as goal

abbrev numbers_of : (rows : List (Vec ℕ Global)) → List (List ℕ)
numbers_of rows = map (λ r. r.items) rows

pub returns-then-not-any_line_waits-clause-members : goal.returns-then-not-any_line_waits-clause-members
returns-then-not-any_line_waits-clause-members c = λ n m n_in m_in.
    let names = c.args.names.now in
    or_none _ _ (no_line_orders names c.args.suffixes.now (name_at names m) (name_at names n) c.args.lines.now (sym c.any_line_waits.ensures ∙ c.if-not-any_line_waits.true))

pub add_all_waits-requires : goal.add_all_waits-requires
add_all_waits-requires c = record {
  nodes = sym (length-map c.in_ok-rows.rows.items (λ r. r.items)) ∙ ap length c.in_ok-rows.ensures ∙ c.requires.nodes;
  names = c.requires.names;
}

pub returns-clause-nodes : goal.returns-clause-nodes
returns-clause-nodes c =
    let rows = c.add_all_waits.new.rows.items in
    IfOk-weaker c.of_rows.result (λ e. e ≡ numbers_of c.deref.result.now) (λ more. length more ≡ length c.args.edges)
    (λ more is.
    ap length (is ∙ ap numbers_of c.deref.ensures.value) ∙ length-map rows (λ r. r.items)
    ∙ c.in_ok-add_all_waits.ensures.nodes ∙ sym (length-map c.in_ok-rows.rows.items (λ r. r.items)) ∙ ap length c.in_ok-rows.ensures) c.of_rows.ensures

pub returns-clause-members : goal.returns-clause-members
returns-clause-members c =
    let names = c.args.names.now in
    let lines = c.args.lines.now in
    let ordered = λ (n m : ℕ). list_any (line_orders names c.args.suffixes.now (name_at names m) (name_at names n)) lines in
    let Answer : List (List ℕ) → Type 0 = λ more. (n m : ℕ) → n < length names → m < length names → has_number (row more n) m ≡ (has_number (row c.args.edges n) m || ordered n m) in
    IfOk-weaker c.of_rows.result (λ e. e ≡ numbers_of c.deref.result.now) Answer
    (λ more is n m n_in m_in.
    ap (λ g. has_number (row g n) m) (is ∙ ap numbers_of c.deref.ensures.value)
    ∙ c.in_ok-add_all_waits.ensures.members n m n_in m_in
    ∙ ap (λ g. has_number (row g n) m || ordered n m) c.in_ok-rows.ensures) c.of_rows.ensures

pub returns-clause-closed : goal.returns-clause-closed
returns-clause-closed c =
    IfOk-weaker c.of_rows.result (λ e. e ≡ numbers_of c.deref.result.now) (λ more. is_closed c.args.edges ≡ true → is_closed more ≡ true)
    (λ more is was. ap is_closed (is ∙ ap numbers_of c.deref.ensures.value) ∙ c.in_ok-add_all_waits.ensures.closed (ap is_closed c.in_ok-rows.ensures ∙ was)) c.of_rows.ensures

pub returns-clause-begin : goal.returns-clause-begin
returns-clause-begin c =
    let rows = c.add_all_waits.new.rows.items in
    IfOk-weaker c.of_rows.result (λ e. e ≡ numbers_of c.deref.result.now) (BeginWith c.args.edges)
    (λ more is.
    subst (BeginWith c.args.edges) (sym (is ∙ ap numbers_of c.deref.ensures.value))
    (subst (λ (g : List (List ℕ)). BeginWith g (numbers_of rows)) c.in_ok-rows.ensures c.in_ok-add_all_waits.ensures.begin)) c.of_rows.ensures
