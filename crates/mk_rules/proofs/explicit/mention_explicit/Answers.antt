use Rattle.std.proofs.Common.{arith, ◌≡◌, ◌+◌, ◌≤◌, ℕ, false, ltb, List, [], ◌∷◌, length, drop, get_or, add-one, refl, sym, ap, ◌∙◌}
use Rattle.std.proofs.Math.Seq.{drop-cons}
use Rattle.std.proofs.lemmas.List.{drop_all}
use Rattle.std.proofs.lemmas.Bool.Decides.{nat_tests}
use Rattle.std.proofs.lemmas.Option.{slice_get_read, slice_get_past}
use Rattle.std.specs.List.{flat_map}
use Rattle.mk_names.specs.Names.{all_added}
use Rattle.mk_rule_lines.specs.Explicit.{explicit_targets, names_in}
use Rattle.mk_rule_lines.specs.Rules.{has}
use Rattle.mk_rule_lines.specs.declared.rule_line.RuleLine.{RuleLine}
use Rattle.mk_rule_lines.proofs.ExplicitLemmas.{names_at, names-places}
use Rattle.mk_rules.specs.Row.{named}
use Rattle.mk_rules.proofs.ExplicitLemmas.{mentioned_line, mentioned_none}
use Rattle.mk_rules.proofs.explicit.mention_explicit.Goals as goal

past : (lines : List RuleLine) (n : ℕ) → false ≡ ltb n (length lines) → length lines ≤ n
past lines n test = grind (arith, nat_tests)

pub mention_line-requires : goal.mention_line-requires
mention_line-requires c = (c.requires.0, c.loop-number.invariant.row c.requires.0 c.requires.1)

pub loop-number-preserved-in_default : goal.loop-number-preserved-in_default
loop-number-preserved-in_default c =
    let lines = c.args.lines.now in
    let making = c.args.making.now in
    let i = c.loop-number.number-index in
    let n = get_or making i 0 in
    let inv = c.loop-number.invariant in
    let before = named c.loop-number.names c.loop-number.numbers in
    let at : drop i making ≡ get_or making i 0 ∷ drop (i + 1) making = drop-cons making i 0 c.loop-number-test.true ∙ rw add-one refl in
    record {
      row = inv.row;
      known = inv.known;
      names =
          mentioned_none before _ lines n (drop (i + 1) making) (slice_get_past lines n (past lines n c.in_default.ensures.lookup.0))
          (ap (λ (ns : List ℕ). all_added before (flat_map (names_at names_in lines) ns)) (sym at) ∙ inv.names);
    }

pub loop-number-preserved : goal.loop-number-preserved
loop-number-preserved c =
    let lines = c.args.lines.now in
    let making = c.args.making.now in
    let i = c.loop-number.number-index in
    let n = get_or making i 0 in
    let inv = c.loop-number.invariant in
    let before = named c.loop-number.names c.loop-number.numbers in
    let read = c.in-Some.ensures.lookup in
    let done = c.in_ok-mention_line.ensures in
    let at : drop i making ≡ get_or making i 0 ∷ drop (i + 1) making = drop-cons making i 0 c.loop-number-test.true ∙ rw add-one refl in
    record {
      row = λ start row. done.row start (inv.row start row);
      known = λ is_node marks known. done.known is_node marks (inv.known is_node marks known);
      names =
          mentioned_line before _ _ lines n c.in-Some.line.now (drop (i + 1) making)
          (slice_get_read lines (length lines) n c.in-Some.line.now refl read.3.0 read.1) done.named
          (ap (λ (ns : List ℕ). all_added before (flat_map (names_at names_in lines) ns)) (sym at) ∙ inv.names);
    }

pub returns-clause-named : goal.returns-clause-named
returns-clause-named c = λ name is.
    let lines = c.args.lines.now in
    let making = c.args.making.now in
    let now = named c.loop-number.names c.loop-number.numbers in
    let start = named c.args.names.now c.args.numbers.now in
    ap (λ (ns : List ℕ). all_added now (flat_map (names_at names_in lines) ns)) (sym (drop_all c.loop-number.number-index making c.loop-number-test.false))
    ∙ c.loop-number.invariant.names
    ∙ ap (λ (ns : List ℕ). all_added start (flat_map (names_at names_in lines) ns)) is
    ∙ ap (all_added start) (names-places names_in (λ (l : RuleLine). has name (explicit_targets lines l)) [] lines)
