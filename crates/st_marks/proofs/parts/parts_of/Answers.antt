use Rattle.std.proofs.Common.{ap}
use Rattle.st_marks.specs.Parts.{parted_of}
use Rattle.st_marks.proofs.parts.parts_of.Goals as goal

pub returns-in_err-said-clause-none : goal.returns-in_err-said-clause-none
returns-in_err-said-clause-none c = rw c.from_residual.ensures (ap (parted_of c.args.explicit c.args.hidden) c.in_err-said.ensures.nothing)
