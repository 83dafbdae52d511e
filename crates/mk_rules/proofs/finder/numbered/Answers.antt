use Rattle.std.proofs.Common.{◌≡◌, ℕ, List, [], ◌++◌, length, filter, map as map_list, drop, sym, ap, subst, ◌∙◌}
use Rattle.std.specs.FinMap as map
use Rattle.std.specs.Option.{option_copied}
use Rattle.mk_names.specs.Names.{all_added}
use Rattle.mk_rule_lines.specs.Explicit.{explicit_of}
use Rattle.mk_nodes.specs.Prerequisites.{inputs_of, is_node, hidden_in}
use Rattle.mk_rules.specs.Row.{named, IsRow}
use Rattle.mk_sources.specs.Seen.{made_in, order_only_in}
use Rattle.mk_rules.proofs.RowLemmas.{row_start, row_count}
use Rattle.mk_rules.proofs.finder.numbered.Goals as goal

pub mention_hard-requires : goal.mention_hard-requires
mention_hard-requires g c =
    let names = c.args.names.now in
    (names, subst (IsRow names names) (sym c.clear.ensures) (row_start names c.requires.distinct))

pub add_recorded-requires : goal.add_recorded-requires
add_recorded-requires g c =
    let names = c.args.names.now in
    let rules = c.args.rules.now in
    let row = subst (IsRow names names) (sym c.clear.ensures) (row_start names c.requires.distinct) in
    record {
      noted = λ looks now.
          let p = is_node (inputs_of rules.lines.now (map.get rules.state.now) looks) in
          c.in_ok-mention_hard.ensures.known p (c.requires.noted looks now);
      row = (names, c.in_ok-mention_hard.ensures.row names row);
    }

pub mention_order_only-requires : goal.mention_order_only-requires
mention_order_only-requires g c =
    let names = c.args.names.now in
    let row = subst (IsRow names names) (sym c.clear.ensures) (row_start names c.requires.distinct) in
    (names, c.in_ok-hidden.ensures.row names (c.in_ok-mention_hard.ensures.row names row))

pub returns-clause-row : goal.returns-clause-row
returns-clause-row g c =
    let names = c.args.names.now in
    let row = subst (IsRow names names) (sym c.clear.ensures) (row_start names c.requires.distinct) in
    c.in_ok-mention_order_only.ensures.row names (c.in_ok-hidden.ensures.row names (c.in_ok-mention_hard.ensures.row names row))

pub returns-clause-noted : goal.returns-clause-noted
returns-clause-noted g c = λ looks now.
    let rules = c.args.rules.now in
    let p = is_node (inputs_of rules.lines.now (map.get rules.state.now) looks) in
    c.in_ok-mention_order_only.ensures.known p _ (c.in_ok-hidden.ensures.noted looks now)

pub returns-clause-prerequisites : goal.returns-clause-prerequisites
returns-clause-prerequisites g c = λ looks now name lines.
    let rules = c.args.rules.now in
    let names = c.args.names.now in
    let seen = c.args.seen in
    let recorded = hidden_in (option_copied c.args.recorded) in
    let p = is_node (inputs_of rules.lines.now (map.get rules.state.now) looks) in
    let mentioned = made_in seen.ruled.given ++ explicit_of rules.lines.now name in
    let first : named c.mention_hard.new.names c.mention_hard.new.notes.row ≡ all_added [] mentioned =
    c.in_ok-mention_hard.ensures.named name lines ∙ ap (λ (ns : List ℕ). all_added (named names ns) mentioned) c.clear.ensures in
    let hidden = c.in_ok-hidden.ensures.hidden looks now in
    let done = c.in_ok-completed.ensures in
    record {
      row_is =
          c.in_ok-mention_order_only.ensures.named
          ∙ ap (λ (l : List (List ℕ)). all_added l (order_only_in seen.ruled.given)) (hidden.nodes_are ∙ ap (λ (h : List (List ℕ)). all_added h (filter p recorded)) first);
      count = done.hard ∙ c.len-hard.ensures ∙ row_count _ _ mentioned first;
      among = done.hidden ∙ hidden.among_are ∙ ap (λ (h : List (List ℕ)). map_list p (drop (length h) (all_added h recorded))) first;
      as_seen = done.node;
    }
