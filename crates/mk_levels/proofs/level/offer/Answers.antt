use Rattle.std.proofs.Common.{sym, ◌∙◌, option_copied}
use Rattle.mk_levels.proofs.OfferedLemmas.{offered}
use Rattle.mk_levels.proofs.level.offer.Goals as goal

pub returns-clause-some : goal.returns-clause-some
returns-clause-some c =
    offered c.args.own.now c.args.levels.now c.args.target.now c.in_ok-level.level.now (option_copied c.get.result)
    (sym c.is_settled.ensures ∙ c.if-not-is_settled.false) (sym c.are_settled.ensures ∙ c.if-not-are_settled.false)
    c.in_ok-level.ensures c.get.ensures
