use Rattle.std.proofs.lemmas.Result.{err_from_is_err_and}
use Rattle.mk_gnu_eval.specs.Shown.{progress_of}
use Rattle.mk_gnu_eval.proofs.ReadingLemmas.{search_ends}
use Rattle.mk_gnu_eval.proofs.lines.take_search.Goals as goal

pub returns-in_err-value-clause-refused : goal.returns-in_err-value-clause-refused
returns-in_err-value-clause-refused g c = λ w ok.
    let site = c.args.site.now in
    let told = err_from_is_err_and c.from_residual.result c.from_residual.ensures.1 in
    rw (told.1, told.2)
    (search_ends w site.file.now site.line c.args.text.now (progress_of c.args.progress.now) c.in_err-value.field-0.0 (c.in_err-value.ensures.refused w ok))
