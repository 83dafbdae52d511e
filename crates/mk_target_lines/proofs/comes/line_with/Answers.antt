use Rattle.std.proofs.Common.{◌≡◌, ℕ, Bool, List, ◌++◌, true, false, Ok, None, option_map, option_copied, sym, ap, ◌∙◌}
use Rattle.mk_target_lines.specs.Comes.{comes, Says, AtTargets}
use Rattle.mk_target_lines.specs.Rule.{behind_colons, defined}
use Rattle.mk_target_lines.specs.Shown.{came_of, line_of, found_definition, IsRefused}
use Rattle.mk_target_lines.proofs.ComeLemmas.{if_ok_then, if_err_then, refused_then, at_targets}
use Rattle.mk_target_lines.proofs.comes.line_with.Goals as goal

pub returns-in-None-clause-told : goal.returns-in-None-clause-told
returns-in-None-clause-told g c = λ w ok names.
    let v = g.V.Definitions.variables c.args.variables.now in
    let recipe = option_copied c.args.recipe in
    let line = line_of names c.args.line in
    let b : Bool × List ℕ = behind_colons c.args.line.behind.items in
    let pair = c.behind_colons.ensures ∙ ap behind_colons c.as_slice.ensures.value in
    let whole = c.as_slice-2.ensures.value ∙ c.in_ok-text.ensures ∙ ap (λ (p : Bool × List ℕ). p.1 ++ c.args.line.rest.now) pair in
    let is = ap defined (sym whole) ∙ c.in_ok-definition_in.ensures.ok ∙ ap (λ o. Ok (option_map found_definition o)) c.in-None.is in
    if_ok_then c.rule_in.result (λ came. Says w v recipe c.args.targets b line (Ok None) (comes (came_of came)))
    (λ came. AtTargets w v recipe c.args.targets line (comes (came_of came)))
    (λ came h. at_targets w v recipe c.args.targets line (Ok None) (comes (came_of came)) (λ e. let no : true ≡ false = sym (c.is_empty.ensures.1 e) ∙ c.if-is_empty.false in cc) is h)
    (c.rule_in.ensures.told w ok names)

pub returns-in-None-clause-refused : goal.returns-in-None-clause-refused
returns-in-None-clause-refused g c = λ w ok names.
    let v = g.V.Definitions.variables c.args.variables.now in
    let recipe = option_copied c.args.recipe in
    let line = line_of names c.args.line in
    let b : Bool × List ℕ = behind_colons c.args.line.behind.items in
    let pair = c.behind_colons.ensures ∙ ap behind_colons c.as_slice.ensures.value in
    let whole = c.as_slice-2.ensures.value ∙ c.in_ok-text.ensures ∙ ap (λ (p : Bool × List ℕ). p.1 ++ c.args.line.rest.now) pair in
    let is = ap defined (sym whole) ∙ c.in_ok-definition_in.ensures.ok ∙ ap (λ o. Ok (option_map found_definition o)) c.in-None.is in
    if_err_then c.rule_in.result (IsRefused (Says w v recipe c.args.targets b line (Ok None))) (IsRefused (AtTargets w v recipe c.args.targets line))
    (refused_then (Says w v recipe c.args.targets b line (Ok None)) (AtTargets w v recipe c.args.targets line)
    (λ told h. at_targets w v recipe c.args.targets line (Ok None) told (λ e. let no : true ≡ false = sym (c.is_empty.ensures.1 e) ∙ c.if-is_empty.false in cc) is h))
    (c.rule_in.ensures.refused w ok names)
