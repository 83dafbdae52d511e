use Rattle.std.proofs.Common.{◌∙◌, ap, refl}
use Rattle.std.specs.FinMap as map
use Rattle.mk_nodes.specs.Look.{time_of}
use Rattle.mk_nodes.specs.Prerequisites.{inputs_of}
use Rattle.mk_sources.proofs.seen.given_by.Goals as goal

pub returns-clause-given : goal.returns-clause-given
returns-clause-given g c = λ name looks now numbers stamp.
    let rules = c.args.rules.now in
    c.in_ok-given.ensures (inputs_of rules.lines.now (map.get rules.state.now) looks) name refl numbers
    (c.in_ok-group.ensures.group name looks now (c.time.ensures ∙ ap time_of stamp))
