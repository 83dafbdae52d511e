use Rattle.std.proofs.Common.{◌≡◌, ◌≤◌, [], length, IsTrue, ap, ◌∙◌}
use Rattle.std.specs.List.{list_all}
use Rattle.jb_closing.specs.Report.{ends_well}
use Rattle.st_records.specs.declared.version.Form.TheVariants as forms
use Rattle.jb_runner.proofs.RunningLemmas.{if_same, if_both}
use Rattle.jb_runner.proofs.pool.close.Goals as goal

-- the report is the one that was made of the ends
pub returns-clause-ends : goal.returns-clause-ends
returns-clause-ends g c =
    if_same (λ r. length r.ends.items ≡ length c.args.graph.now.nodes.items) c.report-report.result c.of.result c.report-report.ensures.same
    (ap (λ ends. length ends.items) c.of.ensures.ends ∙ c.in_ok-ends.ensures.each ∙ c.len.ensures)

pub returns-clause-status : goal.returns-clause-status
returns-clause-status g c = if_same (λ r. r.status ≤ 2) c.report-report.result c.of.result c.report-report.ensures.same c.of.ensures.status

pub returns-clause-well : goal.returns-clause-well
returns-clause-well g c =
    if_same (λ r. r.status ≡ 0 → IsTrue (list_all ends_well r.ends.items)) c.report-report.result c.of.result c.report-report.ensures.same c.of.ensures.well

pub returns-clause-same : goal.returns-clause-same
returns-clause-same g c =
    if_same (λ r. c.args.form ≡ forms.Plain → r.same.items ≡ []) c.report-report.result c.of.result c.report-report.ensures.same
    (λ plain. ap (λ same. same.items) c.of.ensures.same ∙ c.into_same-same.ensures plain)

pub returns-clause-built : goal.returns-clause-built
returns-clause-built g c =
    if_both _ _ c.report-report.result (rw c.deref.ensures.value at c.report-report.ensures.receipts) (rw c.deref.ensures.value at c.report-report.ensures.built)
