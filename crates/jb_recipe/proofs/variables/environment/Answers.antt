use Rattle.std.proofs.Common.{◌≡◌, ◌++◌, append_assoc, filter, option_map, ap, ◌∙◌}
use Rattle.jb_recipe.specs.Environment.{environment, is_passed_on, report_to, set_flags}
use Rattle.jb_recipe.proofs.NotingLemmas.{report_named}
use Rattle.jb_recipe.proofs.variables.environment.Goals as goal

-- they are those of the clause before this one
pub returns-clause-named : goal.returns-clause-named
returns-clause-named c =
    let definitions = c.args.definitions.now in
    let flags = c.args.flags.now in
    let path = option_map (λ p. p.now) c.args.path in
    let target = c.args.target.now in
    let given = filter is_passed_on definitions in
    let named = report_to path target in
    let whole : c.push_report.new.variables.items ≡ environment definitions flags path target =
    c.in_ok-push_report.ensures ∙ (ap (λ v. v ++ named) (c.in_ok-push_flags.ensures
    ∙ ap (λ v. v ++ set_flags flags) (c.in_ok-push_definitions.ensures ∙ ap (λ v. v ++ given) c.new-variables.ensures.items))
    ∙ append_assoc given (set_flags flags) named) in
    report_named definitions flags path target c.push_report.new.variables.items whole
