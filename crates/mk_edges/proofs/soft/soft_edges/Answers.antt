use Rattle.std.proofs.Common.{◌≡◌, ◌<◌, ◌||◌, true, length, map, sym, ap, subst, ◌∙◌, ℕ, List, ◌++◌}
use Rattle.std.proofs.lemmas.Result.{IfOk-weaker}
use Rattle.std.specs.List.{list_any}
use Rattle.mk_graph.specs.Edges.{row, is_closed, has as has_number}
use Rattle.mk_names.specs.Names.{name_at}
use Rattle.mk_graph.specs.Numbering.{AreDescribed}
use Rattle.mk_nodes.specs.Graph.{AreSoft}
use Rattle.mk_edges.specs.Known.{IsKnown}
use Rattle.mk_nodes.specs.Prerequisites.{Inputs, soft_names, prerequisites_of}
use Rattle.mk_edges.specs.Rows.{EachRow, IsSoftRow}
use Rattle.mk_rule_lines.specs.Rules.{has, suffixes_of}
use Rattle.mk_nodes.specs.Waits.{line_orders}
use Rattle.mk_edges.proofs.RowLaws.{are_waited}
use Rattle.mk_graph.specs.Waits.{BeginWith}
use Rattle.std.specs.Prelude.{Result, Ok, Err, IfOk}
use Rattle.mk_edges.proofs.soft.soft_edges.Goals as goal

IfOk-from_both : {T E : Type 0} (r : Result T E) (P Q S : T → Type 0) → ((v : T) → P v → Q v → S v) → IfOk r P → IfOk r Q → IfOk r S
IfOk-from_both (Ok v) P Q S by p q = by v p q
IfOk-from_both (Err e) P Q S by p q = tt

pub with_waits-requires : goal.with_waits-requires
with_waits-requires c = record {
  nodes = c.requires.waited_count;
  names = c.requires.names;
}

pub returns-clause-count : goal.returns-clause-count
returns-clause-count c =
    IfOk-weaker c.with_waits.result (λ e. length e ≡ length c.args.waited) (λ soft. length soft ≡ length c.args.numbered.now.names)
    (λ soft is. is ∙ c.requires.waited_count) c.with_waits.ensures.nodes

pub returns-clause-closed : goal.returns-clause-closed
returns-clause-closed c =
    IfOk-weaker c.with_waits.result (λ e. is_closed c.args.waited ≡ true → is_closed e ≡ true) (λ soft. is_closed soft ≡ true)
    (λ soft closed. closed c.requires.waited_closed) c.with_waits.ensures.closed

pub returns-clause-rows : goal.returns-clause-rows
returns-clause-rows c =
    let waited = c.args.waited in
    let rows = c.args.numbered.now.rows in
    let nodes = c.args.numbered.now.nodes.items in
    let inside : (soft : List (List ℕ)) (n : ℕ) → length soft ≡ length waited → n < length soft → n < length waited = λ soft n same within. subst (λ l. n < l) same within in
    IfOk-from_both c.with_waits.result (BeginWith waited) (λ soft. length soft ≡ length waited) (EachRow (IsSoftRow rows nodes))
    (λ soft begin same n within k at.
    ((begin n).0, (begin n).1 ∙ ap (λ (l : List ℕ). l ++ (begin n).0) (c.requires.waited n (inside soft n same within) k at)))
    c.with_waits.ensures.begin c.with_waits.ensures.nodes

pub returns-clause-soft : goal.returns-clause-soft
returns-clause-soft c =
    let names = c.args.numbered.now.names in
    let nodes = c.args.numbered.now.nodes.items in
    let rows = c.args.numbered.now.rows in
    let lines = c.args.lines.now in
    let waited = c.args.waited in
    let ordered = λ (n m : ℕ). list_any (line_orders names c.args.suffixes.now (name_at names m) (name_at names n)) lines in
    let Members : List (List ℕ) → Type 0 = λ more. (n m : ℕ) → n < length names → m < length names → has_number (row more n) m ≡ (has_number (row waited n) m || ordered n m) in
    let Answer : List (List ℕ) → Type 0 = λ soft. (inputs : Inputs) → inputs.lines ≡ lines
    → map (map (name_at names)) rows ≡ map (prerequisites_of inputs) names
    → AreDescribed (IsKnown inputs) names nodes → AreSoft inputs names soft in
    IfOk-weaker c.with_waits.result Members Answer
    (λ soft members inputs same found described n m n_in m_in.
    let q = name_at names n in
    let p = name_at names m in
    members n m n_in m_in
    ∙ ap (λ b. b || ordered n m)
    (are_waited inputs names rows nodes found described c.requires.node_count waited (c.requires.waited_count ∙ sym c.requires.node_count)
    c.requires.waited c.requires.closed c.requires.names n m n_in m_in)
    ∙ ap (λ s. has p (soft_names inputs q) || list_any (line_orders names s p q) lines) c.requires.suffixes
    ∙ ap (λ ls. has p (soft_names inputs q) || list_any (line_orders names (suffixes_of ls) p q) ls) (sym same)) c.with_waits.ensures.members
