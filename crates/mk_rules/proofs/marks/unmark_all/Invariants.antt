use Rattle.std.proofs.Common.{◌≡◌, ◌&&◌, ℕ, not, drop}
use Rattle.mk_graph.specs.Edges.{has}
use Rattle.mk_rules.specs.NodeNotes.{is_marked}
use Rattle.mk_rules.proofs.marks.unmark_all.Given as goal

abbrev pub invariant-loop-number : goal.invariant-loop-number
invariant-loop-number l = (n : ℕ) → (is_marked l.marks n && not (has (drop l.number-index l.numbers) n)) ≡ (is_marked l.fn.marks n && not (has l.numbers n))
