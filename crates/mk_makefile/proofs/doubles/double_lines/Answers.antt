use Rattle.std.proofs.Common.{arith, ◌≡◌, ◌+◌, ◌≤◌, ℕ, true, false, ltb, List, [], ◌∷◌, ◌++◌, length, drop, map, get_or, add-one, refl, sym, ap, ◌∙◌}
use Rattle.std.proofs.Math.Seq.{drop-cons}
use Rattle.std.proofs.lemmas.List.{append-nil, drop_all, map-append}
use Rattle.std.proofs.lemmas.Bool.Decides.{nat_tests}
use Rattle.std.proofs.lemmas.Option.{slice_get_read, slice_get_past}
use Rattle.std.specs.List.{flat_map}
use Rattle.mk_rule_lines.specs.Explicit.{explicit_targets, lines_of}
use Rattle.mk_rule_lines.specs.Rules.{has, is_double_recipe}
use Rattle.mk_rule_lines.specs.declared.rule_line.RuleLine.{RuleLine}
use Rattle.mk_makefile.proofs.DoubleLemmas.{part, parts-filter, no_part, one_part}
use Rattle.mk_rule_lines.proofs.ExplicitLemmas.{names_at, names-next, names-none, names-places}
use Rattle.mk_makefile.proofs.doubles.double_lines.Goals as goal

past : (lines : List RuleLine) (n : ℕ) → false ≡ ltb n (length lines) → length lines ≤ n
past lines n test = grind (arith, nat_tests)

pub loop-number-preserved-in_default : goal.loop-number-preserved-in_default
loop-number-preserved-in_default c =
    let lines = c.args.lines.now in
    let numbers = c.args.numbers.now in
    let i = c.loop-number.number-index in
    let n = get_or numbers i 0 in
    let found = map (λ line. line.now) c.loop-number.found.items in
    let at : drop i numbers ≡ get_or numbers i 0 ∷ drop (i + 1) numbers = drop-cons numbers i 0 c.loop-number-test.true ∙ rw add-one refl in
    names-none part found (flat_map (names_at part lines) numbers) lines n (drop (i + 1) numbers) (slice_get_past lines n (past lines n c.in_default.ensures.lookup.0))
    (ap (λ (ns : List ℕ). found ++ flat_map (names_at part lines) ns) (sym at) ∙ c.loop-number.invariant)

pub loop-number-preserved-then-not-is_double_recipe : goal.loop-number-preserved-then-not-is_double_recipe
loop-number-preserved-then-not-is_double_recipe c =
    let lines = c.args.lines.now in
    let numbers = c.args.numbers.now in
    let i = c.loop-number.number-index in
    let n = get_or numbers i 0 in
    let line = c.in-Some.line.now in
    let found = map (λ line. line.now) c.loop-number.found.items in
    let read = c.in-Some.ensures.lookup in
    let other : is_double_recipe line ≡ false = sym c.is_double_recipe.ensures ∙ c.if-not-is_double_recipe.true in
    let at : drop i numbers ≡ get_or numbers i 0 ∷ drop (i + 1) numbers = drop-cons numbers i 0 c.loop-number-test.true ∙ rw add-one refl in
    names-next part found found (flat_map (names_at part lines) numbers) lines n line (drop (i + 1) numbers)
    (slice_get_read lines (length lines) n line refl read.3.0 read.1) (sym (ap (λ (ls : List RuleLine). found ++ ls) (no_part line other) ∙ append-nil found))
    (ap (λ (ns : List ℕ). found ++ flat_map (names_at part lines) ns) (sym at) ∙ c.loop-number.invariant)

pub loop-number-preserved : goal.loop-number-preserved
loop-number-preserved c =
    let lines = c.args.lines.now in
    let numbers = c.args.numbers.now in
    let i = c.loop-number.number-index in
    let n = get_or numbers i 0 in
    let line = c.in-Some.line.now in
    let found = map (λ line. line.now) c.loop-number.found.items in
    let after = map (λ line. line.now) c.push.new.self.items in
    let read = c.in-Some.ensures.lookup in
    let double : is_double_recipe line ≡ true = sym c.is_double_recipe.ensures ∙ c.if-not-is_double_recipe.false in
    let adds : after ≡ found ++ part line
    = ap (map (λ line. line.now)) c.in_ok-push.ensures.items ∙ map-append (λ line. line.now) c.loop-number.found.items (c.in-Some.line ∷ [])
    ∙ ap (λ (ls : List RuleLine). found ++ ls) (sym (one_part line double)) in
    let at : drop i numbers ≡ get_or numbers i 0 ∷ drop (i + 1) numbers = drop-cons numbers i 0 c.loop-number-test.true ∙ rw add-one refl in
    names-next part found after (flat_map (names_at part lines) numbers) lines n line (drop (i + 1) numbers)
    (slice_get_read lines (length lines) n line refl read.3.0 read.1) adds
    (ap (λ (ns : List ℕ). found ++ flat_map (names_at part lines) ns) (sym at) ∙ c.loop-number.invariant)

pub returns : goal.returns
returns c = λ name named.
    let lines = c.args.lines.now in
    let numbers = c.args.numbers.now in
    let found = map (λ line. line.now) c.loop-number.found.items in
    let whole : found ++ [] ≡ flat_map (names_at part lines) numbers =
    ap (λ (ns : List ℕ). found ++ flat_map (names_at part lines) ns) (sym (drop_all c.loop-number.number-index numbers c.loop-number-test.false)) ∙ c.loop-number.invariant in
    sym (append-nil found) ∙ whole ∙ ap (flat_map (names_at part lines)) named
    ∙ names-places part (λ (l : RuleLine). has name (explicit_targets lines l)) [] lines ∙ parts-filter (lines_of lines name)
