use Rattle.std.proofs.Common.{map, option_map}
use Rattle.mk_rule_lines.proofs.ResultLemmas.{if_ok}
use Rattle.mk_plan.proofs.WordLemmas.{written_words}
use Rattle.mk_plan.proofs.words.repeated_words.Goals as goal

pub returns : goal.returns
returns c =
    if_ok c.behind_implied.result _ _
    (λ found are. written_words c.args.graph.now c.args.node c.args.explicit.now (option_map (λ words. map (λ word. word.now) words.items) found) are c.requires.wide c.requires.names)
    c.behind_implied.ensures
