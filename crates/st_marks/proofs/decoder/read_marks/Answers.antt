use Rattle.std.proofs.Common.{arith}
use Rattle.std.specs.Option.{option_copied}
use Rattle.st_marks.proofs.TextLemmas.{text_from_parts, behind_count, no_text-source, no_text-count}
use Rattle.st_marks.proofs.PartLemmas.{nothing_said-source, nothing_said-count, nothing_said-marks, is_said}
use Rattle.st_marks.proofs.decoder.read_marks.Goals as goal

pub returns-in_err-source-clause-none : goal.returns-in_err-source-clause-none
returns-in_err-source-clause-none c = rw c.from_residual.ensures (λ source marks is. no_text-source c.args.text.now c.in_err-source.ensures source marks is)

pub returns-in_err-count-clause-none : goal.returns-in_err-count-clause-none
returns-in_err-count-clause-none c =
    rw c.from_residual-in_err-count.ensures (λ source marks is.
    no_text-count c.args.text.now c.in_ok-source.rest.now (option_copied c.in_ok-source.source) c.in_ok-source.ensures c.in_err-count.ensures source marks is)

pub returns-in_err-marks-clause-none : goal.returns-in_err-marks-clause-none
returns-in_err-marks-clause-none c =
    rw c.from_residual-in_err-marks.ensures (λ source marks is.
    c.in_err-marks.ensures.none marks
    (behind_count (option_copied c.in_ok-source.source) source marks c.args.text.now c.in_ok-source.rest.now c.in_ok-count.rest.now c.in_ok-count.count is c.in_ok-source.ensures c.in_ok-count.ensures))

pub returns-clause-found : goal.returns-clause-found
returns-clause-found c =
    text_from_parts c.args.text.now c.in_ok-source.rest.now c.in_ok-count.rest.now (option_copied c.in_ok-source.source) c.in_ok-count.count c.in_ok-marks.marks
    (λ i. omega (arith, c.type_inv.text i)) c.in_ok-source.ensures c.in_ok-count.ensures c.in_ok-marks.ensures.found

pub returns-in_err-source-clause-nothing : goal.returns-in_err-source-clause-nothing
returns-in_err-source-clause-nothing c = rw c.from_residual.ensures (nothing_said-source c.args.text.now c.in_err-source.ensures)

pub returns-in_err-count-clause-nothing : goal.returns-in_err-count-clause-nothing
returns-in_err-count-clause-nothing c =
    rw c.from_residual-in_err-count.ensures (
    nothing_said-count c.args.text.now c.in_ok-source.rest.now (option_copied c.in_ok-source.source) c.in_ok-source.ensures c.in_err-count.ensures
    )

pub returns-in_err-marks-clause-nothing : goal.returns-in_err-marks-clause-nothing
returns-in_err-marks-clause-nothing c =
    rw c.from_residual-in_err-marks.ensures (
    nothing_said-marks c.args.text.now c.in_ok-source.rest.now c.in_ok-count.rest.now (option_copied c.in_ok-source.source) c.in_ok-count.count c.in_ok-source.ensures c.in_ok-count.ensures
    c.in_err-marks.ensures.none
    )

pub returns-clause-said : goal.returns-clause-said
returns-clause-said c =
    is_said c.args.text.now c.in_ok-source.rest.now c.in_ok-count.rest.now (option_copied c.in_ok-source.source) c.in_ok-count.count c.in_ok-marks.marks
    c.in_ok-source.ensures c.in_ok-count.ensures c.in_ok-marks.ensures.found
