use Rattle.std.proofs.Common.{refl}
use Rattle.st_file.proofs.LayoutLemmas.{IsNamed-along}
use Rattle.st_file.proofs.layout.header_of.Goals as goal

pub returns-in_default-form_of_number-clause-refused :
    goal.returns-in_default-form_of_number-clause-refused
returns-in_default-form_of_number-clause-refused c = (
  refl,
  record {
    rest = c.in-Some-u16_of.rest.now;
    named = IsNamed-along _ _ _ c.in-Some.ensures.found c.in-Some-u16_of.ensures.found.1;
    fits = c.in-Some-u16_of.ensures.found.0;
    other = rw c.in_default-form_of_number.is at c.form_of_number.ensures.none;
  },
)
