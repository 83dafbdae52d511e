use Rattle.std.proofs.Common.{◌∙◌, ap, sym, is_lt}
use Rattle.st_state.specs.Ranks.{number_from}
use Rattle.st_state.proofs.RankLemmas.{rank-prefixed, rank-below, rank-above}
use Rattle.st_state.proofs.name_order.rank_of.Goals as goal

pub returns-in-Some : goal.returns-in-Some
returns-in-Some c =
    let cut = c.in-Some.ensures.cases in
    c.first_eight.ensures ∙ ap (number_from 8 0) cut.1 ∙ sym (rank-prefixed c.args.beginning.now c.args.name.now cut.0)

pub returns-then-is_lt : goal.returns-then-is_lt
returns-then-is_lt c =
    sym (rank-below c.args.beginning.now c.args.name.now c.in-None.ensures.cases (ap is_lt (sym c.cmp.ensures) ∙ sym c.if-is_lt.ensures))

pub returns-else-is_lt : goal.returns-else-is_lt
returns-else-is_lt c =
    sym (rank-above c.args.beginning.now c.args.name.now c.in-None.ensures.cases (ap is_lt (sym c.cmp.ensures) ∙ sym c.if-is_lt.ensures))
