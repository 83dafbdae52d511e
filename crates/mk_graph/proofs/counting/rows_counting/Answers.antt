use Rattle.std.proofs.Common.{◌≡◌, sym, subst}
use Rattle.std.specs.Prelude.{IfOk}
use Rattle.mk_graph.specs.Counted.{counting}
use Rattle.mk_graph.proofs.counting.rows_counting.Goals as goal

pub returns-then-dropped : goal.returns-then-dropped
returns-then-dropped c = subst (λ d. IfOk c.copy.result (λ e. e ≡ counting c.args.hard.now c.args.soft.now d)) (sym c.if-dropped.true) c.copy.ensures

pub returns : goal.returns
returns c = subst (λ d. IfOk c.joined.result (λ e. e ≡ counting c.args.hard.now c.args.soft.now d)) (sym c.if-dropped.false) c.joined.ensures
