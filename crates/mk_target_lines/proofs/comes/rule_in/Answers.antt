use Rattle.std.proofs.Common.{◌≡◌, ℕ, Bool, List, ◌++◌, Ok, None, is_some, option_copied, ap, ◌∙◌, subst}
use Rattle.mk_functions.specs.Outcome.{gives}
use Rattle.mk_functions.specs.Expansion.{ExpandsTo}
use Rattle.mk_target_lines.specs.Comes.{comes, refused, rule_cut, rule_of, Says}
use Rattle.mk_target_lines.specs.Rule.{behind_colons}
use Rattle.mk_target_lines.specs.Shown.{came_of, line_of, IsFaulty, IsRefused}
use Rattle.mk_target_lines.proofs.ComeLemmas.{if_ok_then, if_err_then, faulty_refused, rule_told}
use Rattle.mk_target_lines.proofs.comes.rule_in.Goals as goal

pub returns-clause-told : goal.returns-clause-told
returns-clause-told g c = λ w ok names.
    let v = g.V.Definitions.variables c.args.variables.now in
    let recipe = option_copied c.args.recipe in
    let line = line_of names c.args.line in
    let b : Bool × List ℕ = behind_colons c.args.line.behind.items in
    let pair = c.behind_colons-is_double.ensures ∙ ap behind_colons c.as_slice-2.ensures.value in
    let whole = c.as_slice-4.ensures.value ∙ c.in_ok-text.ensures ∙ ap (λ (p : Bool × List ℕ). p.1 ++ c.as_slice-3.result.now) pair ∙ ap (λ t. b.1 ++ t) c.as_slice-3.ensures.value in
    let expands = subst (λ t. ExpandsTo w v t (gives c.in_ok-more.more.items)) c.as_slice.ensures.value (c.in_ok-more.ensures.value w ok) in
    if_ok_then c.rule_of.result
    (λ came. rule_of c.args.targets c.behind_colons-is_double.result.0 recipe line (rule_cut (is_some recipe) line c.as_slice-4.result.now) ≡ comes (came_of came))
    (λ came. Says w v recipe c.args.targets b line (Ok None) (comes (came_of came)))
    (λ came e. rule_told w v recipe c.args.targets b line c.in_ok-rest.rest.items c.in_ok-more.more.items c.as_slice-4.result.now c.behind_colons-is_double.result.0
    (comes (came_of came)) c.in_ok-rest.ensures expands (ap (λ (p : Bool × List ℕ). p.0) pair) whole e)
    (c.rule_of.ensures.ok names)

pub returns-clause-refused : goal.returns-clause-refused
returns-clause-refused g c = λ w ok names.
    let v = g.V.Definitions.variables c.args.variables.now in
    let recipe = option_copied c.args.recipe in
    let line = line_of names c.args.line in
    let b : Bool × List ℕ = behind_colons c.args.line.behind.items in
    let pair = c.behind_colons-is_double.ensures ∙ ap behind_colons c.as_slice-2.ensures.value in
    let whole = c.as_slice-4.ensures.value ∙ c.in_ok-text.ensures ∙ ap (λ (p : Bool × List ℕ). p.1 ++ c.as_slice-3.result.now) pair ∙ ap (λ t. b.1 ++ t) c.as_slice-3.ensures.value in
    let expands = subst (λ t. ExpandsTo w v t (gives c.in_ok-more.more.items)) c.as_slice.ensures.value (c.in_ok-more.ensures.value w ok) in
    if_err_then c.rule_of.result
    (IsFaulty (λ fault. rule_of c.args.targets c.behind_colons-is_double.result.0 recipe line (rule_cut (is_some recipe) line c.as_slice-4.result.now) ≡ refused fault))
    (IsRefused (Says w v recipe c.args.targets b line (Ok None)))
    (faulty_refused (λ fault. rule_of c.args.targets c.behind_colons-is_double.result.0 recipe line (rule_cut (is_some recipe) line c.as_slice-4.result.now) ≡ refused fault)
    (Says w v recipe c.args.targets b line (Ok None))
    (λ fault e. rule_told w v recipe c.args.targets b line c.in_ok-rest.rest.items c.in_ok-more.more.items c.as_slice-4.result.now c.behind_colons-is_double.result.0
    (refused fault) c.in_ok-rest.ensures expands (ap (λ (p : Bool × List ℕ). p.0) pair) whole e))
    (c.rule_of.ensures.fault names)
