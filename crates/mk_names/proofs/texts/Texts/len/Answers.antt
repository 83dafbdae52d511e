use Rattle.std.proofs.Common.{arith}
use Rattle.byte_strings.proofs.PieceLemmas.{length-pieces}
use Rattle.mk_names.proofs.texts.Texts.len.Goals as goal

pub returns : goal.returns
returns c = rw (← c.self.view_is) (omega (arith, length-pieces c.self.inside.bytes.items 0 c.self.inside.ends.items))
