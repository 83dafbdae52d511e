use Rattle.mk_rule_lines.proofs.ResultLemmas.{if_ok}
use Rattle.dmk_trust.proofs.TakingLemmas.{found_made}
use Rattle.dmk_trust.proofs.taking.found_of.Goals as goal

pub returns-then-left : goal.returns-then-left
returns-then-left c =
    if_ok c.found_left.result _ _ (λ found takes why listed. takes c.args.marks.now why (c.in_ok-left.ensures.yes c.if-left.true) listed) c.found_left.ensures

pub returns : goal.returns
returns c = λ why listed. found_made (c.in_ok-left.ensures.no c.if-left.false)
