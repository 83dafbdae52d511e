use Rattle.std.proofs.Common.{◌≡◌, true, List, [], ℕ, sym, ap, subst, ◌∙◌}
use Rattle.std.specs.FinMap as map
use Rattle.mk_names.specs.Names.{added}
use Rattle.mk_rule_lines.specs.Rules.{has}
use Rattle.mk_rule_lines.proofs.LineLemmas.{handed_on}
use Rattle.mk_nodes.specs.Hidden.{IsNamesFault}
use Rattle.mk_sources.specs.LooksLaws.{looks_none, looks_on}
use Rattle.mk_nodes.specs.Prerequisites.{inputs_of, is_node}
use Rattle.mk_rules.specs.NodeNotes.{AreKnownNodes}
use Rattle.mk_rules.specs.Row.{named, IsSomeRow}
use Rattle.mk_rules.proofs.HiddenLemmas.{TakenSoFar, taken_start, taken_step, taken_end, takes_same}
use Rattle.mk_sources.proofs.AmongLemmas.{has_first, has_later}
use Rattle.mk_rules.proofs.RowLemmas.{added_known}
use Rattle.mk_rules.proofs.hidden.add_hidden.Goals as goal

pub take_hidden-requires : goal.take_hidden-requires
take_hidden-requires g c = record {
  noted = λ looks now.
      let p = is_node (inputs_of c.args.rules.now.lines.now (map.get c.args.rules.now.state.now) looks) in
      subst (AreKnownNodes p c.loop-name.names) (sym c.in-None-guess.ensures.same) (c.loop-name.invariant.noted looks now);
  row = (c.requires.row.0, c.loop-name.invariant.row c.requires.row.0 c.requires.row.1);
}

pub loop-name-preserved-in-Continue-1 : goal.loop-name-preserved-in-Continue-1
loop-name-preserved-in-Continue-1 g c =
    let rules = c.args.rules.now in
    let inv = c.loop-name.invariant in
    let names = c.loop-name.names in
    let name = c.in-Some.name.now in
    let left = c.next.new.self in
    let hard = named c.args.names.now c.args.mentioned.now.nodes in
    let judged = inv.taken.0 in
    let guessed = c.in-Some-guess.ensures in
    let number = c.in-Some-guess.number in
    let row : IsSomeRow names c.loop-name.mentioned.nodes = (c.requires.row.0, inv.row c.requires.row.0 c.requires.row.1) in
    let done = c.in_ok-add_hidden-in-Some-guess.ensures names row (added_known names name number guessed.name.0 guessed.name.1, guessed.name.0, guessed.name.1) in
    record {
      noted = λ looks now.
          let p = is_node (inputs_of rules.lines.now (map.get rules.state.now) looks) in
          subst (AreKnownNodes p names) (sym guessed.same) (inv.noted looks now);
      row = λ start row. done.0 start (inv.row start row);
      taken = (
        added judged name,
        λ looks now.
            let p = is_node (inputs_of rules.lines.now (map.get rules.state.now) looks) in
            taken_step p hard c.args.hidden.now name left judged (named names c.loop-name.mentioned.nodes) c.loop-name.mentioned.gone c.loop-name.mentioned.hidden
            (subst (λ (ls : List (List ℕ)). TakenSoFar p hard c.args.hidden.now ls judged (named names c.loop-name.mentioned.nodes) c.loop-name.mentioned.gone c.loop-name.mentioned.hidden)
            c.in-Some.ensures.steps (inv.taken.1 looks now))
            _ _ _ (takes_same p (λ _. true) name _ _ _ _ _ _ (sym (ap p (sym guessed.name.1) ∙ (inv.noted looks now number guessed.marked).1)) done.1),
      );
      within = λ n is. inv.within n (subst (λ (ls : List (List ℕ)). has n ls ≡ true) (sym c.in-Some.ensures.steps) (has_later n name left is));
      looks = inv.looks;
    }

pub loop-name-preserved : goal.loop-name-preserved
loop-name-preserved g c =
    let rules = c.args.rules.now in
    let inv = c.loop-name.invariant in
    let done = c.in_ok-take_hidden-in-None-guess.ensures in
    let name = c.in-Some.name.now in
    let left = c.next.new.self in
    let hard = named c.args.names.now c.args.mentioned.now.nodes in
    let judged = inv.taken.0 in
    record {
      noted = done.noted;
      row = λ start row. done.row start (inv.row start row);
      taken = (
        added judged name,
        λ looks now.
            let p = is_node (inputs_of rules.lines.now (map.get rules.state.now) looks) in
            taken_step p hard c.args.hidden.now name left judged (named c.loop-name.names c.loop-name.mentioned.nodes) c.loop-name.mentioned.gone c.loop-name.mentioned.hidden
            (subst (λ (ls : List (List ℕ)). TakenSoFar p hard c.args.hidden.now ls judged (named c.loop-name.names c.loop-name.mentioned.nodes) c.loop-name.mentioned.gone c.loop-name.mentioned.hidden)
            c.in-Some.ensures.steps (inv.taken.1 looks (done.looks.narrows looks now)))
            _ _ _ (done.taken looks now),
      );
      within = λ n is. inv.within n (subst (λ (ls : List (List ℕ)). has n ls ≡ true) (sym c.in-Some.ensures.steps) (has_later n name left is));
      looks = looks_on _ _ _ _ _ _ _ _ _ _ _ _ inv.looks done.looks;
    }

pub returns-in_err-take_hidden-in-None-guess-clause-fault : goal.returns-in_err-take_hidden-in-None-guess-clause-fault
returns-in_err-take_hidden-in-None-guess-clause-fault g c =
    let name = c.in-Some.name.now in
    let refuses = g.T.Tree.refuses c.take_hidden.new.tree in
    let within = c.loop-name.invariant.within name
    (subst (λ (ls : List (List ℕ)). has name ls ≡ true) (sym c.in-Some.ensures.steps) (has_first name c.next.new.self)) in
    handed_on _ (IsNamesFault refuses c.args.hidden.now) c.in_err-take_hidden-in-None-guess.field-0.0 (c.from_residual-in_err-take_hidden-in-None-guess.ensures).1
    (c.in_err-take_hidden-in-None-guess.ensures.fault c.args.hidden.now within)

pub returns-in_err-take_hidden-in-None-guess-clause-looks : goal.returns-in_err-take_hidden-in-None-guess-clause-looks
returns-in_err-take_hidden-in-None-guess-clause-looks g c = looks_on _ _ _ _ _ _ _ _ _ _ _ _ c.loop-name.invariant.looks c.in_err-take_hidden-in-None-guess.ensures.looks

pub loop-name-init : goal.loop-name-init
loop-name-init g c =
    let rules = c.args.rules.now in
    let m = c.args.mentioned.now in
    let hard = named c.args.names.now m.nodes in
    let start : c.args.hidden.now ≡ c.into_iter-name-iterator.result = cc in
    record {
      noted = c.requires.noted;
      row = λ start row. row;
      taken = (
        hard,
        λ looks now.
            let p = is_node (inputs_of rules.lines.now (map.get rules.state.now) looks) in
            subst (λ (ls : List (List ℕ)). TakenSoFar p hard c.args.hidden.now ls hard hard m.gone m.hidden) start
            (taken_start p hard c.args.hidden.now m.gone m.hidden c.requires.gone c.requires.none),
      );
      within = λ n is. subst (λ (ls : List (List ℕ)). has n ls ≡ true) (sym start) is;
      looks = looks_none _ _ _ _;
    }

pub returns-clause-hidden : goal.returns-clause-hidden
returns-clause-hidden g c =
    let rules = c.args.rules.now in
    let hard = named c.args.names.now c.args.mentioned.now.nodes in
    let m = c.loop-name.mentioned in
    let nodes = named c.loop-name.names m.nodes in
    let ended : c.loop-name.name-iterator ≡ [] = (c.in-None.ensures.steps).0 in
    let taken = c.loop-name.invariant.taken in
    λ looks now.
    let p = is_node (inputs_of rules.lines.now (map.get rules.state.now) looks) in
    taken_end p hard c.args.hidden.now taken.0 nodes m.gone m.hidden
    (subst (λ (ls : List (List ℕ)). TakenSoFar p hard c.args.hidden.now ls taken.0 nodes m.gone m.hidden) ended (taken.1 looks now))
