use Rattle.std.proofs.Common.{◌≡◌, Some, sym}
use Rattle.mk_makefile.specs.Source.{source_of}
use Rattle.mk_sources.specs.There.{is_there}
use Rattle.mk_sources.proofs.ChainLemmas.{source_there}
use Rattle.mk_sources.proofs.chain.source_in.Goals as goal

pub returns-in-Some-clause-source : goal.returns-in-Some-clause-source
returns-in-Some-clause-source g c = λ looks now.
    let makers = c.args.makers.now in
    let said = c.in_ok-there.ensures.source looks now in
    let is = c.in-Some.is in
    let found : source_of (is_there makers.targets.now looks) makers.forms.now c.args.name.now ≡ Some c.in-Some.there = cc in
    sym (source_there (is_there makers.targets.now looks) makers.forms.now c.args.steps c.args.name.now c.in-Some.there found)
