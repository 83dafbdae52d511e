use Rattle.std.proofs.Common.{◌≡◌, length, [], rules}
use Rattle.std.proofs.lemmas.List.{nil_from_length}
use Rattle.st_marks.specs.Reading.{mark_at, many_at}
use Rattle.st_marks.proofs.FaultLemmas.{gives_nothing}
use Rattle.st_marks.proofs.TextLemmas.{all_read}
use Rattle.st_marks.proofs.marks.Marks.read.Goals as goal

pub returns-in_err-rest-clause-none : goal.returns-in_err-rest-clause-none
returns-in_err-rest-clause-none c = rw c.from_residual.ensures (λ marks e. gives_nothing (many_at mark_at c.args.count c.args.bytes.now) (marks, []) c.in_err-rest.ensures.none e)

pub returns-clause-found : goal.returns-clause-found
returns-clause-found c =
    let read = c.in_ok-rest.ensures.found in
    let none : length c.in_ok-rest.rest.now ≡ 0 = search rules in
    all_read c.args.count c.args.bytes.now read.0 c.in_ok-rest.rest.now read.1 (nil_from_length c.in_ok-rest.rest.now none)
