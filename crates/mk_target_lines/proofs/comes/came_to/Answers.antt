use Rattle.std.proofs.Common.{None, option_copied, sym, ap, ◌∙◌}
use Rattle.std.proofs.lemmas.Result.{err_from_is_err_and}
use Rattle.mk_words.specs.Words.{behind_spaces}
use Rattle.mk_target_lines.specs.Comes.{comes, refused, without_colon, AtTargets, Comes}
use Rattle.mk_target_lines.specs.Names.{Names, names_of}
use Rattle.mk_target_lines.specs.Shown.{came_of, line_of, IsRefused}
use Rattle.mk_target_lines.proofs.ComeLemmas.{if_ok_then, if_err_then, refused_then, some_copied, at_end, at_line}
use Rattle.mk_target_lines.proofs.comes.came_to.Goals as goal

pub returns-in_err-came-in-None-clause-refused : goal.returns-in_err-came-in-None-clause-refused
returns-in_err-came-in-None-clause-refused g c = λ w ok.
    let told = err_from_is_err_and c.from_residual-in_err-came-in-None.result c.from_residual-in_err-came-in-None.ensures.1 in
    rw (told.1, told.2)
    (at_end w (g.V.Definitions.variables c.args.variables.now) (option_copied c.args.recipe) c.args.text.now c.in_ok-names.names.items c.is_some.result
    c.in_ok-names.line (refused c.in_err-came-in-None.field-0.0) (c.in_ok-names.ensures.told w ok) (c.is_some.ensures ∙ some_copied c.args.recipe) c.in-None.is
    (ap (λ t. without_colon (behind_spaces t)) (sym c.as_slice.ensures.value) ∙ c.in_err-came-in-None.ensures.fault))

pub returns-clause-told : goal.returns-clause-told
returns-clause-told g c = λ w ok.
    let v = g.V.Definitions.variables c.args.variables.now in
    let recipe = option_copied c.args.recipe in
    let names = c.in_ok-names.names.items in
    let is = ap (λ (p : Names). p.0) (c.targets.view_is ∙ c.in_ok-targets-in-Some.ensures ∙ ap (names_of None) c.as_slice-in-Some.ensures.value) in
    if_ok_then c.line_with.result (λ came. AtTargets w v recipe c.targets.inside.names (line_of names c.in-Some.line) (comes (came_of came)))
    (λ came. Comes w v recipe c.args.text.now (comes (came_of came)))
    (λ came h. at_line w v recipe c.args.text.now names c.targets.inside.names c.is_some.result c.in_ok-names.line c.in-Some.line (comes (came_of came))
    (c.in_ok-names.ensures.told w (c.line_with.ensures.narrows w ok)) (c.is_some.ensures ∙ some_copied c.args.recipe) c.in-Some.is is h)
    (c.line_with.ensures.told w ok names)

pub returns-clause-refused : goal.returns-clause-refused
returns-clause-refused g c = λ w ok.
    let v = g.V.Definitions.variables c.args.variables.now in
    let recipe = option_copied c.args.recipe in
    let names = c.in_ok-names.names.items in
    let is = ap (λ (p : Names). p.0) (c.targets.view_is ∙ c.in_ok-targets-in-Some.ensures ∙ ap (names_of None) c.as_slice-in-Some.ensures.value) in
    if_err_then c.line_with.result (IsRefused (AtTargets w v recipe c.targets.inside.names (line_of names c.in-Some.line))) (IsRefused (Comes w v recipe c.args.text.now))
    (refused_then (AtTargets w v recipe c.targets.inside.names (line_of names c.in-Some.line)) (Comes w v recipe c.args.text.now)
    (λ told h. at_line w v recipe c.args.text.now names c.targets.inside.names c.is_some.result c.in_ok-names.line c.in-Some.line told
    (c.in_ok-names.ensures.told w (c.line_with.ensures.narrows w ok)) (c.is_some.ensures ∙ some_copied c.args.recipe) c.in-Some.is is h))
    (c.line_with.ensures.refused w ok names)
