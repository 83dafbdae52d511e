use Rattle.mk_rule_lines.specs.declared.fault.Unsupported.TheVariants.{TargetGroup, LibraryMember, DoubleColon, PatternRule, DefaultRule}
use Rattle.mk_makefile.proofs.SupportedLemmas.{refused, supported}
use Rattle.mk_makefile.proofs.supported.refusal.Goals as goal

pub returns-then-is_refused : goal.returns-then-is_refused
returns-then-is_refused c = refused TargetGroup c.args.line.now c.if-is_refused.ensures

pub returns-then-is_refused-2 : goal.returns-then-is_refused-2
returns-then-is_refused-2 c = refused LibraryMember c.args.line.now c.if-is_refused-2.ensures

pub returns-then-is_refused-3 : goal.returns-then-is_refused-3
returns-then-is_refused-3 c = refused DoubleColon c.args.line.now c.if-is_refused-3.ensures

pub returns-then-is_refused-4 : goal.returns-then-is_refused-4
returns-then-is_refused-4 c = refused PatternRule c.args.line.now c.if-is_refused-4.ensures

pub returns-then-is_refused-5 : goal.returns-then-is_refused-5
returns-then-is_refused-5 c = refused DefaultRule c.args.line.now c.if-is_refused-5.ensures

pub returns : goal.returns
returns c = supported c.args.line.now c.if-is_refused.ensures c.if-is_refused-2.ensures c.if-is_refused-3.ensures c.if-is_refused-4.ensures c.if-is_refused-5.ensures
