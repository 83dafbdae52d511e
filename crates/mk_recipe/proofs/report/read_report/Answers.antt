use Rattle.std.proofs.Common.{◌≡◌, true, sym, subst, ⊎_elim}
use Rattle.std.proofs.lemmas.Result.{IfOk-weaker, IfErr-weaker}
use Rattle.mk_lines.specs.Text.{is_text}
use Rattle.mk_recipe.specs.Report.{IsReportFault}
use Rattle.mk_recipe.proofs.AnswerLemmas.{all_hidden, too_many, stopped}
use Rattle.mk_recipe.proofs.report.read_report.Goals as goal

pub returns-clause-names : goal.returns-clause-names
returns-clause-names c =
    let text : is_text c.args.report.now ≡ true = cc in
    IfOk-weaker c.hidden_names.result _ _
    (λ hidden read. all_hidden c.args.profile c.args.report.now c.args.target.now c.args.known.now c.in_ok-seen.seen c.hidden_names.new.seen hidden text c.in_ok-seen.ensures read)
    c.hidden_names.ensures.names

pub returns-clause-fault : goal.returns-clause-fault
returns-clause-fault c =
    let text : is_text c.args.report.now ≡ true = cc in
    let profile = c.args.profile in
    let report = c.args.report.now in
    let target = c.args.target.now in
    let known = c.args.known.now in
    IfErr-weaker c.hidden_names.result _ _
    (λ fault why.
    ⊎_elim (λ stops. stopped profile report target known c.in_ok-seen.seen fault text c.in_ok-seen.ensures stops)
    (λ more. subst (IsReportFault profile report target known) (sym more.0) (too_many profile report target known c.in_ok-seen.seen c.hidden_names.new.seen more.1 text c.in_ok-seen.ensures more.2))
    why)
    c.hidden_names.ensures.fault
