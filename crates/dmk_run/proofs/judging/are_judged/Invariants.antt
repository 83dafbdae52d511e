use Rattle.dmk_run.specs.Judged.{remade_by, IsJudged}
use Rattle.dmk_run.proofs.JudgingLemmas.{AllBefore}
use Rattle.dmk_run.proofs.judging.are_judged.Given as goal

-- the ends so far are judged
abbrev pub invariant-loop-node : goal.invariant-loop-node
invariant-loop-node l = AllBefore (IsJudged l.keeping l.graph (remade_by l.ends l.same)) l.ends l.node
