use Rattle.std.proofs.Common.{◌≡◌, false, ◌==◌, get_or}
use Rattle.std.proofs.lemmas.Bool.{ne_eqb}
use Rattle.mk_lines.proofs.OutsideLemmas.{none_outside, some_outside}
use Rattle.mk_lines.proofs.reference.first_outside.Goals as goal

pub returns-in-None-clause-found : goal.returns-in-None-clause-found
returns-in-None-clause-found c = none_outside c.args.one c.args.other c.args.bytes.now c.in-None.ensures

pub returns-else-bytes-at-eq36-clause-found : goal.returns-else-bytes-at-eq36-clause-found
returns-else-bytes-at-eq36-clause-found c =
    let other : (get_or c.args.bytes.now c.in-Some.at 0 == 36) ≡ false = ne_eqb (get_or c.args.bytes.now c.in-Some.at 0) 36 c.if-bytes-at-eq36.false in
    some_outside c.args.one c.args.other c.args.bytes.now c.in-Some.at c.in-Some.ensures.0 c.in-Some.ensures.1 other
