use Rattle.std.proofs.Common.{List, option_copied}
use Rattle.mk_profile.specs.Profile.{is_wide}
use Rattle.mk_lines.specs.Lines.{logical_lines, size_left}
use Rattle.mk_reader.specs.Statements.{AreStatements, Comes}
use Rattle.mk_reader.specs.declared.item.Statement.{Statement}
use Rattle.mk_reader.proofs.statements.statements_in.Given as goal

abbrev pub invariant-loop-left : goal.invariant-loop-left
invariant-loop-left l = (whole : List Statement)
    → Comes l.profile l.file l.gathered.statements.items l.gathered.is_open (logical_lines (is_wide l.profile) l.number (option_copied l.left)) whole
    → AreStatements l.profile l.file l.text whole

abbrev pub decreases-loop-left : goal.decreases-loop-left
decreases-loop-left l = size_left (option_copied l.left)
