use Rattle.std.proofs.Common.{◌≡◌, ℕ, ◌&&◌, ◌||◌, Bool, false, true, map, refl, sym, ap, ◌∙◌}
use Rattle.std.specs.List.{list_any}
use Rattle.std.proofs.lemmas.Result.{on_ok_weaker}
use Rattle.mk_graph.specs.Edges.{row, has as has_number}
use Rattle.mk_names.specs.Names.{name_at, has_name}
use Rattle.mk_graph.proofs.WaitLemmas.{begin_through}
use Rattle.mk_rule_lines.specs.Explicit.{words_by}
use Rattle.mk_rule_lines.specs.Rules.{targets_by}
use Rattle.mk_nodes.specs.Waits.{groups_of, orders}
use Rattle.mk_edges.proofs.WaitLemmas.{no_orders, and_none, or_none}
use Rattle.mk_edges.proofs.waits.add_line_waits.Goals as goal

or_parted : (a b c : Bool) → ((a || b) || c) ≡ (a || (b || c))
or_parted true b c = refl
or_parted false b c = refl

pub returns-then-not-any_wait-clause-members : goal.returns-then-not-any_wait-clause-members
returns-then-not-any_wait-clause-members c = λ n m n_in m_in.
    let names = c.args.names.now in
    let line = c.args.line.now in
    or_none _ _ (and_none (list_any (has_name names) (targets_by false c.args.suffixes.now line)) _
    (no_orders line (sym c.any_wait.ensures ∙ c.if-not-any_wait.true) (name_at names m) (name_at names n)))

pub returns-clause-members : goal.returns-clause-members
returns-clause-members c =
    let names = c.args.names.now in
    let line = c.args.line.now in
    let some : list_any (has_name names) (targets_by false c.args.suffixes.now line) ≡ true
    = ap (list_any (has_name names)) (sym c.in_ok-targets.ensures) ∙ sym c.any_number.ensures ∙ c.if-not-any_number.false in
    let was = λ (n m : ℕ). has_number (row (map (λ r. r.items) c.args.rows.now.items) n) m in
    let first = λ (n m : ℕ). orders (groups_of (words_by false line)) (name_at names m) (name_at names n) in
    let second = λ (n m : ℕ). orders (groups_of (words_by true line)) (name_at names m) (name_at names n) in
    on_ok_weaker c.add_word_waits-2.result
    (λ added n m n_in m_in.
    added n m n_in m_in
    ∙ ap (λ ws. has_number (row (map (λ r. r.items) c.add_word_waits.new.rows.items) n) m || orders (groups_of ws) (name_at names m) (name_at names n)) c.in_ok-order_only.ensures
    ∙ ap (λ b. b || second n m)
    (c.in_ok-add_word_waits.ensures.members n m n_in m_in
    ∙ ap (λ ws. was n m || orders (groups_of ws) (name_at names m) (name_at names n)) c.in_ok-ordinary.ensures)
    ∙ or_parted (was n m) (first n m) (second n m)
    ∙ ap (λ b. was n m || (b && (first n m || second n m))) (sym some)) c.add_word_waits-2.ensures.members

pub returns-clause-begin : goal.returns-clause-begin
returns-clause-begin c = on_ok_weaker c.add_word_waits-2.result (begin_through _ _ _ c.in_ok-add_word_waits.ensures.begin) c.add_word_waits-2.ensures.begin
