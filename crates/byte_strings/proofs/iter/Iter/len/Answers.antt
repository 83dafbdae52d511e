use Rattle.std.proofs.Common.{sym}
use Rattle.byte_strings.proofs.TextLemmas.{length-texts}
use Rattle.byte_strings.proofs.iter.Iter.len.Goals as goal

pub returns : goal.returns
returns c = rw (← c.self.view_is) (sym (length-texts c.self.inside.count c.self.inside.bytes.now))
