use Rattle.std.proofs.Common.{◌≡◌, ◌+◌, Bool, List, [], Some, not, drop, subst, sym, refl}
use Rattle.std.specs.Prelude.{slice_get}
use Rattle.std.proofs.lemmas.List.{drop_all}
use Rattle.std.proofs.lemmas.Option.{slice_get_read}
use Rattle.mk_rule_lines.specs.Rules.{lacks_single, targets_by}
use Rattle.mk_makefile.specs.Table.{named_at, IsTable, IsTableFault}
use Rattle.mk_rule_lines.specs.declared.rule_line.RuleLine.{RuleLine}
use Rattle.mk_rule_lines.proofs.LineLemmas.{handed_on}
use Rattle.mk_makefile.proofs.PlaceLemmas.{LinesGo, lines_go_on, lines_go_start, lines_go_end, line_fault}
use Rattle.mk_rule_lines.proofs.LineLemmas.{from_line}
use Rattle.mk_makefile.proofs.UnsuffixedLemmas.{no_suffix_rules}
use Rattle.mk_makefile.proofs.table.TargetTable.of_lines.Goals as goal

pub returns-in_err-add_line-clause-fault : goal.returns-in_err-add_line-clause-fault
returns-in_err-add_line-clause-fault c =
    let lines = c.args.lines.now in
    let l = c.index-lines-i.result in
    let k = c.loop-i.i in
    let targets = targets_by c.args.suffix_rules c.args.suffixes.now in
    let at = from_line lines k l c.loop-i-test.true c.index-lines-i.is in
    handed_on _ (IsTableFault targets lines) c.in_err-add_line.field-0.0 (c.from_residual-in_err-add_line.ensures).1
    (line_fault targets k l (drop (k + 1) lines) lines c.loop-i.table (not (lacks_single l)) (targets l)
    (λ name. subst (λ (left : List RuleLine). LinesGo targets k left lines name (named_at c.loop-i.table name)) at (c.loop-i.invariant name))
    (let read : slice_get lines k ≡ Some l = slice_get_read lines _ k l refl c.loop-i-test.true c.index-lines-i.is in read)
    refl refl c.in_err-add_line.field-0.0 c.in_err-add_line.ensures.fault)

pub loop-i-preserved : goal.loop-i-preserved
loop-i-preserved c = λ name.
    let lines = c.args.lines.now in
    let l = c.index-lines-i.result in
    let k = c.loop-i.i in
    let targets = targets_by c.args.suffix_rules c.args.suffixes.now in
    let now = named_at c.loop-i.table name in
    let at = from_line lines k l c.loop-i-test.true c.index-lines-i.is in
    let go = subst (λ (left : List RuleLine). LinesGo targets k left lines name now) at (c.loop-i.invariant name) in
    lines_go_on targets k l (drop (k + 1) lines) lines name now (named_at c.add_line.new.self name) go (c.in_ok-add_line.ensures.ok name)

pub loop-i-init : goal.loop-i-init
loop-i-init c = λ name. lines_go_start (targets_by c.args.suffix_rules c.args.suffixes.now) c.args.lines.now name (named_at c.in_ok-table.table name) (c.in_ok-table.ensures name)

pub returns-clause-table : goal.returns-clause-table
returns-clause-table c =
    let lines = c.args.lines.now in
    let targets = targets_by c.args.suffix_rules c.args.suffixes.now in
    let none = drop_all c.loop-i.i lines c.loop-i-test.false in
    lines_go_end targets c.loop-i.i lines c.loop-i.table
    (λ name. subst (λ (left : List RuleLine). LinesGo targets c.loop-i.i left lines name (named_at c.loop-i.table name)) none (c.loop-i.invariant name))

pub returns-then-is_empty-clause-table : goal.returns-then-is_empty-clause-table
returns-then-is_empty-clause-table c =
    let none : c.args.suffixes.now ≡ [] = c.is_empty.ensures.0 c.if-is_empty.true in
    subst (λ (b : Bool). IsTable (targets_by b c.args.suffixes.now) c.args.lines.now c.in_ok-table.table) (sym c.if-suffix_rules.true)
    (no_suffix_rules c.args.suffixes.now c.args.lines.now c.in_ok-table.table none c.in_ok-table.ensures)
