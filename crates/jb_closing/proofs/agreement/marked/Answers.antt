use Rattle.jb_closing.proofs.AgreementLemmas.{missing_then, made_wrong}
use Rattle.jb_closing.proofs.agreement.marked.Goals as goal

pub returns-in-Missing : goal.returns-in-Missing
returns-in-Missing c = λ before was.
    missing_then c.args.mark c.first_mark.result c.args.told.now c.args.noted.now before c.in-Missing.is c.first_mark.ensures was

pub returns-in_default : goal.returns-in_default
returns-in_default c = λ before was. made_wrong c.args.mark c.args.told.now c.args.noted.now before c.in_default.not-Missing was
