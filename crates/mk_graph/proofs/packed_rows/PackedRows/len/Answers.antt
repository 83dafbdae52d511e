use Rattle.std.proofs.Common.{arith}
use Rattle.byte_strings.proofs.PieceLemmas.{length-pieces}
use Rattle.mk_graph.proofs.packed_rows.PackedRows.len.Goals as goal

pub returns : goal.returns
returns c = rw (← c.self.view_is) (omega (arith, length-pieces c.self.inside.numbers.items 0 c.self.inside.ends.items))
