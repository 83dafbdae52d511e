use Rattle.std.proofs.Common.{◌≡◌, ◌∙◌, sym, subst}
use Rattle.st_file.specs.Side.{IsOfSide as IsOfBytes}
use Rattle.st_listing.specs.Writing.{IsOfSide}
use Rattle.st_listing.specs.declared.listing.ListFault.TheVariants as faults
use Rattle.st_programs.proofs.SideLemmas.{of_side}
use Rattle.st_programs.proofs.message.damaged_side.Goals as goal

pub returns-in-Open-clause-only : goal.returns-in-Open-clause-only
returns-in-Open-clause-only c = λ side is. c.damaged_side.ensures.only side (subst (IsOfSide side) c.in-Open.is is)

pub returns-in-Open-clause-refused : goal.returns-in-Open-clause-refused
returns-in-Open-clause-refused c = λ newest side x f refuses is.
    let opened : faults.Open c.in-Open.fault ≡ faults.Open f = sym c.in-Open.is ∙ is in
    let same : f ≡ c.in-Open.fault = cc in
    c.damaged_side.ensures.only side (subst (IsOfBytes side) same (of_side newest side x f refuses))
