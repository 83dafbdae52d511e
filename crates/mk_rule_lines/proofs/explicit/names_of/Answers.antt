use Rattle.std.proofs.Common.{arith, ◌≡◌, ◌+◌, ◌≤◌, ℕ, false, ltb, List, [], ◌∷◌, ◌++◌, length, drop, get_or, add-one, refl, sym, ap, ◌∙◌}
use Rattle.std.proofs.Math.Seq.{drop-cons}
use Rattle.std.proofs.lemmas.List.{append-nil, drop_all}
use Rattle.std.proofs.lemmas.Bool.Decides.{nat_tests}
use Rattle.std.proofs.lemmas.Option.{slice_get_read, slice_get_past}
use Rattle.std.specs.List.{flat_map}
use Rattle.mk_rule_lines.specs.Explicit.{explicit_targets, names_by}
use Rattle.mk_rule_lines.specs.Rules.{has}
use Rattle.mk_rule_lines.specs.declared.rule_line.RuleLine.{RuleLine}
use Rattle.mk_rule_lines.proofs.ExplicitLemmas.{names_at, names-next, names-none, names-places}
use Rattle.mk_rule_lines.proofs.explicit.names_of.Goals as goal

past : (lines : List RuleLine) (n : ℕ) → false ≡ ltb n (length lines) → length lines ≤ n
past lines n test = grind (arith, nat_tests)

pub loop-number-preserved-in_default : goal.loop-number-preserved-in_default
loop-number-preserved-in_default c =
    let lines = c.args.lines.now in
    let numbers = c.args.numbers.now in
    let i = c.loop-number.number-index in
    let n = get_or numbers i 0 in
    let found = c.loop-number.found in
    let at : drop i numbers ≡ get_or numbers i 0 ∷ drop (i + 1) numbers = drop-cons numbers i 0 c.loop-number-test.true ∙ rw add-one refl in
    names-none (names_by c.args.order_only) found (flat_map (names_at (names_by c.args.order_only) lines) numbers) lines n (drop (i + 1) numbers) (slice_get_past lines n (past lines n c.in_default.ensures.lookup.0))
    (ap (λ (ns : List ℕ). found ++ flat_map (names_at (names_by c.args.order_only) lines) ns) (sym at) ∙ c.loop-number.invariant)

pub loop-number-preserved : goal.loop-number-preserved
loop-number-preserved c =
    let lines = c.args.lines.now in
    let numbers = c.args.numbers.now in
    let i = c.loop-number.number-index in
    let n = get_or numbers i 0 in
    let found = c.loop-number.found in
    let read = c.in-Some.ensures.lookup in
    let at : drop i numbers ≡ get_or numbers i 0 ∷ drop (i + 1) numbers = drop-cons numbers i 0 c.loop-number-test.true ∙ rw add-one refl in
    names-next (names_by c.args.order_only) found c.add_names_by.new.names (flat_map (names_at (names_by c.args.order_only) lines) numbers) lines n c.in-Some.line.now (drop (i + 1) numbers)
    (slice_get_read lines (length lines) n c.in-Some.line.now refl read.3.0 read.1) c.in_ok-add_names_by.ensures
    (ap (λ (ns : List ℕ). found ++ flat_map (names_at (names_by c.args.order_only) lines) ns) (sym at) ∙ c.loop-number.invariant)

pub returns : goal.returns
returns c = λ name named.
    let lines = c.args.lines.now in
    let numbers = c.args.numbers.now in
    let found = c.loop-number.found in
    let whole : found ++ [] ≡ flat_map (names_at (names_by c.args.order_only) lines) numbers =
    ap (λ (ns : List ℕ). found ++ flat_map (names_at (names_by c.args.order_only) lines) ns) (sym (drop_all c.loop-number.number-index numbers c.loop-number-test.false)) ∙ c.loop-number.invariant in
    sym (append-nil found) ∙ whole ∙ ap (flat_map (names_at (names_by c.args.order_only) lines)) named
    ∙ names-places (names_by c.args.order_only) (λ (l : RuleLine). has name (explicit_targets lines l)) [] lines
