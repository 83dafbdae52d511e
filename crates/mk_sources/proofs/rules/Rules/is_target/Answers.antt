use Rattle.std.proofs.Common.{ap, not, ℕ, List, ◌∙◌}
use Rattle.mk_lines.specs.Text.{is_empty}
use Rattle.mk_rule_lines.specs.Explicit.{explicit_targets}
use Rattle.mk_rule_lines.specs.Rules.{has}
use Rattle.mk_rule_lines.specs.declared.rule_line.RuleLine.{RuleLine}
use Rattle.mk_sources.proofs.RuleLemmas.{any_place}
use Rattle.mk_sources.proofs.rules.Rules.is_target.Goals as goal

pub returns : goal.returns
returns c =
    let lines = c.args.self.now.lines.now in
    c.is_target.ensures ∙ ap (λ (ns : List ℕ). not (is_empty ns)) (c.args.self.now.named c.args.name.now)
    ∙ any_place (λ (l : RuleLine). has c.args.name.now (explicit_targets lines l)) 0 lines
