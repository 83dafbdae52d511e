use Rattle.std.proofs.Common.{◌≡◌, ℕ, ◌<◌, Bool, true, false, cond, ◌||◌, List, ◌∷◌, ◌++◌, [], Option, length, sym, ap, ◌∙◌, subst}
use Rattle.std.specs.Prelude.{is_some, MatchOption}
use Rattle.mk_graph.specs.Edges.{has}
use Rattle.mk_names.specs.Names.{name_at, has_name, added}
use Rattle.mk_nodes.specs.Hidden.{Takes}
use Rattle.mk_rules.specs.Row.{named, IsRow, IsSomeRow}
use Rattle.mk_rules.proofs.RowLemmas.{row_more, named_more, has_is}
use Rattle.mk_rules.proofs.HiddenLemmas.{or_nothing}
use Rattle.mk_rules.proofs.mentioned.Mentioned.add_hidden.Goals as goal

-- what becomes of a row and of what is known of hidden prerequisites, by the number of one
abbrev IsTaken : (before names : List (List ℕ)) (name : List ℕ) (old new : List ℕ) (gone gone_then : List (List ℕ)) (among among_then : List Bool) (number : Option ℕ) → Type 0
IsTaken before names name old new gone gone_then among among_then number =
    MatchOption number (names ≡ before) (λ n. (names ≡ added before name) × (n < length names) × (name_at names n ≡ name))
    → ((start : List (List ℕ)) → IsRow start before old → IsRow start names new)
    × Takes (λ _. is_some number) name (named before old) (named names new) gone gone_then among among_then

pub returns-in_ok-add_node-in-Some : goal.returns-in_ok-add_node-in-Some
returns-in_ok-add_node-in-Some c = λ before some.
    let old = c.args.self.now.nodes in
    let new = c.add_node.new.self.nodes in
    let names = c.args.names.now in
    let name = c.args.name.now in
    let n = c.in-Some.number in
    let done = c.in_ok-add_node-in-Some.ensures in
    let among = c.args.self.now.hidden in
    subst (IsTaken before names name old new c.args.self.now.gone c.add_node.new.self.gone among c.add_node.new.self.hidden) (sym c.in-Some.is)
    (λ is.
    let same : has old n ≡ has_name (named before old) name = has_is before old names new name n is.0 is.1 is.2 done.nodes some.0 some.1 in (
      λ start row. row_more before old names new name n is.0 is.1 is.2 done.nodes start row,
      record {
        nodes_are = named_more before old names new name n is.0 is.1 is.2 done.nodes some.0 some.1;
        gone_are = done.gone;
        among_are = done.hidden ∙ ap (λ (b : Bool). cond b among (among ++ true ∷ [])) (same ∙ sym (or_nothing (has_name (named before old) name)));
      },
    ))

pub returns-in_ok-add_gone-in-None : goal.returns-in_ok-add_gone-in-None
returns-in_ok-add_gone-in-None c = λ before some.
    let old = c.args.self.now.nodes in
    let new = c.add_gone.new.self.nodes in
    let names = c.args.names.now in
    let name = c.args.name.now in
    let done = c.in_ok-add_gone-in-None.ensures in
    let gone = c.args.self.now.gone in
    let among = c.args.self.now.hidden in
    subst (IsTaken before names name old new gone c.add_gone.new.self.gone among c.add_gone.new.self.hidden) (sym c.in-None.is)
    (λ same.
    let hard : c.has_named-is_hard.result ≡ has_name (named before old) name
    = c.has_named-is_hard.ensures (subst (λ l. IsSomeRow l old) (sym same) some) ∙ ap (λ l. has_name (named l old) name) same in (
      λ start row. subst (λ l. IsRow start l new) (sym same) (subst (IsRow start before) (sym done.nodes) row),
      record {
        nodes_are = ap (λ l. named l new) same ∙ ap (named before) done.nodes;
        gone_are = done.gone ∙ ap (λ (b : Bool). cond b gone (added gone name)) hard;
        among_are = done.hidden ∙ ap (λ (b : Bool). cond (b || has_name gone name) among (among ++ false ∷ [])) hard;
      },
    ))
