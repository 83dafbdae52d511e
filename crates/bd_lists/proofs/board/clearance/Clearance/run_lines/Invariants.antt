use Rattle.std.proofs.Common.{◌+◌, ◌≤◌, length, vec_len, vec_capacity}
use Rattle.bd_lists.proofs.RunLemmas.{HasRun}
use Rattle.bd_lists.proofs.board.clearance.Clearance.run_lines.Given as goal

abbrev pub invariant-loop-line : goal.invariant-loop-line
invariant-loop-line g l = record {
  room : vec_len l.ended + length l.line-items ≤ vec_capacity l.ended + l.line-index;
  run : HasRun (g.E.Exec.answers l.exec l.recipe.env.items) l.recipe.ignore l.line-items l.line-index l.initial.ended.items l.ended.items;
}
