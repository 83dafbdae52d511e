use Rattle.std.proofs.Common.{◌∙◌, length, ap}
use Rattle.std.specs.Option.{option_copied}
use Rattle.st_marks.proofs.TextLemmas.{same_said}
use Rattle.st_marks.proofs.decoder.marks_of.Goals as goal

pub returns-in-Some-clause-found : goal.returns-in-Some-clause-found
returns-in-Some-clause-found c = λ source marks is len.
    let same = (same_said (option_copied c.in-Some.field-0.source) source c.in-Some.field-0.marks marks c.args.text.now c.in-Some.ensures.found is).1 in
    c.of_number.ensures.same (ap length same ∙ len) ∙ same
