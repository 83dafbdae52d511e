use Rattle.std.proofs.Common.{◌≡◌, ℕ, ◌<◌, ◌||◌, true, List, length, map, filter, nat_lt, sym, ap, ◌∙◌}
use Rattle.std.specs.List.{list_all}
use Rattle.std.proofs.lemmas.List.{length-map}
use Rattle.std.proofs.lemmas.List.Folds.{list_all-map}
use Rattle.std.proofs.lemmas.Result.{on_ok_weaker}
use Rattle.mk_graph.specs.Edges.{row, is_closed, has as has_number}
use Rattle.mk_names.specs.Names.{name_at, has_name}
use Rattle.mk_graph.specs.Waits.{waits}
use Rattle.mk_nodes.specs.Waits.{orders}
use Rattle.mk_edges.proofs.WaitLemmas.{are_below, told_waits, closed_waits, both_ok}
use Rattle.mk_edges.proofs.waits.add_groups.Goals as goal

pub add_waits-requires : goal.add_waits-requires
add_waits-requires c =
    ap (λ k. list_all (λ g. list_all (λ n. nat_lt n k) g.items) c.args.groups.now) c.requires.nodes ∙ c.requires.groups

pub returns-clause-members : goal.returns-clause-members
returns-clause-members c =
    let names = c.args.names.now in
    let found = c.args.groups.now in
    let groups = map (λ g. g.items) found in
    let was = λ (n m : ℕ). has_number (row (map (λ r. r.items) c.args.rows.now.items) n) m in
    let is = λ (n m : ℕ). has_number (row (map (λ r. r.items) c.add_waits.new.rows.items) n) m in
    let by : ((n m : ℕ) → is n m ≡ (was n m || waits groups n m))
    → (told : List (List (List ℕ))) → map (map (name_at names)) groups ≡ map (filter (has_name names)) told
    → (n m : ℕ) → n < length names → m < length names → is n m ≡ (was n m || orders told (name_at names m) (name_at names n)) =
    λ added told same n m n_in m_in.
    added n m
    ∙ ap (λ b. was n m || b)
    (told_waits names c.requires.names groups told (list_all-map (are_below names) (λ g. g.items) found ∙ c.requires.groups) same n m n_in m_in) in
    on_ok_weaker c.add_waits.result by c.add_waits.ensures.members

pub returns-clause-closed : goal.returns-clause-closed
returns-clause-closed c =
    let old = map (λ r. r.items) c.args.rows.now.items in
    let new = map (λ r. r.items) c.add_waits.new.rows.items in
    let found = c.args.groups.now in
    let groups = map (λ g. g.items) found in
    let all : list_all (λ g. list_all (λ x. nat_lt x (length old)) g) groups ≡ true
    = ap (λ k. list_all (λ g. list_all (λ x. nat_lt x k) g) groups) (length-map c.args.rows.now.items (λ r. r.items) ∙ c.requires.nodes)
    ∙ list_all-map (are_below c.args.names.now) (λ g. g.items) found ∙ c.requires.groups in
    let by : ((n m : ℕ) → has_number (row new n) m ≡ (has_number (row old n) m || waits groups n m))
    → length c.add_waits.new.rows.items ≡ length c.args.rows.now.items → is_closed old ≡ true → is_closed new ≡ true =
    λ added same closed.
    closed_waits old new groups (length-map c.add_waits.new.rows.items (λ r. r.items) ∙ same ∙ sym (length-map c.args.rows.now.items (λ r. r.items))) all added closed in
    both_ok c.add_waits.result by c.add_waits.ensures.members c.add_waits.ensures.nodes
