use Rattle.std.proofs.lemmas.Slice.Eq.{slice_eq-Decides}
use Rattle.bd_flusher.proofs.SameLemmas.{same_bytes}
use Rattle.bd_flusher.proofs.same.are_same.Goals as goal

pub returns : goal.returns
returns c = slice_eq-Decides same_bytes c.args.names.now c.args.others.now c.eq.result c.eq.ensures
