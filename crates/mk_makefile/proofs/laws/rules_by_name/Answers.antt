use Rattle.std.proofs.Common.{true, false, subst}
use Rattle.mk_rule_lines.specs.Explicit.{explicit_targets}
use Rattle.mk_makefile.specs.ByName.{AreLines}
use Rattle.mk_rule_lines.specs.Kinds.{IsRuleFor, IsSuffixRuleFor}
use Rattle.mk_rule_lines.specs.Rules.{has, suffixes_of, targets_by}
use Rattle.mk_rule_lines.proofs.KindLemmas.{rule_for_decides, suffix_rule_for_decides}
use Rattle.mk_makefile.proofs.RecipeLemmas.{are_lines, lines_told, one_recipe_told, no_recipe_told}
use Rattle.mk_makefile.proofs.laws.rules_by_name.Goals as goal

pub returns-clause-lines : goal.returns-clause-lines
returns-clause-lines c = λ lines name found. (
  (λ e. subst (AreLines (IsRuleFor (suffixes_of lines) name) lines) e
      (are_lines (λ l. has name (explicit_targets lines l)) (IsRuleFor (suffixes_of lines) name) (rule_for_decides (suffixes_of lines) name) lines)),
  lines_told (λ l. has name (explicit_targets lines l)) (IsRuleFor (suffixes_of lines) name) (rule_for_decides (suffixes_of lines) name) lines found,
)

pub returns-clause-recipe : goal.returns-clause-recipe
returns-clause-recipe c = λ lines name k taken.
    one_recipe_told name (targets_by false (suffixes_of lines)) (IsRuleFor (suffixes_of lines) name) (rule_for_decides (suffixes_of lines) name) lines
    (taken.recipes false name) k

pub returns-clause-suffix_rule : goal.returns-clause-suffix_rule
returns-clause-suffix_rule c = λ lines name k taken.
    one_recipe_told name (targets_by true (suffixes_of lines)) (IsSuffixRuleFor (suffixes_of lines) name) (suffix_rule_for_decides (suffixes_of lines) name)
    lines (taken.recipes true name) k

pub returns-clause-none : goal.returns-clause-none
returns-clause-none c = λ lines name.
    no_recipe_told name (targets_by false (suffixes_of lines)) (IsRuleFor (suffixes_of lines) name) (rule_for_decides (suffixes_of lines) name) lines
