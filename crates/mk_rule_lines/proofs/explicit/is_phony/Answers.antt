use Rattle.std.proofs.Common.{[], ap, ◌∙◌}
use Rattle.std.specs.List.{list_any}
use Rattle.mk_rule_lines.specs.Explicit.{explicit_targets, makes_phony, is_phony_at}
use Rattle.mk_rule_lines.specs.Rules.{has}
use Rattle.mk_rule_lines.proofs.ExplicitLemmas.{any-places}
use Rattle.mk_rule_lines.proofs.explicit.is_phony.Goals as goal

pub returns : goal.returns
returns c = λ name are.
    let lines = c.args.lines.now in
    c.any_is_phony.ensures ∙ ap (list_any (is_phony_at lines)) are
    ∙ any-places (λ l. has name (explicit_targets lines l)) makes_phony [] lines
