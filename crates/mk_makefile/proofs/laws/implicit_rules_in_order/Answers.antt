use Rattle.std.proofs.Common.{true}
use Rattle.mk_rule_lines.specs.Rules.{suffixes_of}
use Rattle.mk_makefile.proofs.ImplicitLemmas.{forms_are, forms_told}
use Rattle.mk_makefile.proofs.laws.implicit_rules_in_order.Goals as goal

pub returns : goal.returns
returns c = λ lines forms taken. (
  forms_are (suffixes_of lines) lines (taken.recipes true) taken.supported forms,
  forms_told (suffixes_of lines) lines (taken.recipes true) forms,
)
