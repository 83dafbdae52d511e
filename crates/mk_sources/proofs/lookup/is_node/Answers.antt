use Rattle.std.proofs.Common.{◌≡◌, true, ◌∙◌}
use Rattle.std.specs.FinMap as map
use Rattle.std.specs.Str.{is_utf8}
use Rattle.mk_nodes.specs.Prerequisites.{is_read}
use Rattle.mk_sources.proofs.LookupLemmas.{node_there, one_answer}
use Rattle.mk_rule_lines.proofs.ResultLemmas.{if_ok}
use Rattle.mk_sources.proofs.lookup.is_node.Goals as goal

pub returns-clause-node : goal.returns-clause-node
returns-clause-node g c =
    let rules = c.args.rules.now in
    let name = c.args.name.now in
    let text : is_utf8 name ≡ true = cc in
    let read : is_read rules.lines.now name ≡ true = cc in
    if_ok c.is_there.result _ _ (λ there is. λ looks now. is looks now ∙ node_there rules.lines.now rules.targets.now rules.named (map.get rules.state.now) looks name text read)
    c.is_there.ensures.there

pub returns-clause-unasked : goal.returns-clause-unasked
returns-clause-unasked g c = λ no_text.
    let text : is_utf8 c.args.name.now ≡ true = cc in
    one_answer (is_utf8 c.args.name.now) text no_text
