use Rattle.std.proofs.Common.{inr}
use Rattle.bd_flusher.proofs.WritingLemmas.{taken_in}
use Rattle.bd_flusher.proofs.flusher_in.FlusherIn.write.Goals as goal

-- what was taken in is flushed, whose answer is told
pub returns-clause-written : goal.returns-clause-written
returns-clause-written g c =
    let call = c.in_ok-take_in.ensures in
    inr (inr (c.take_in.new.self, taken_in _ _ c.deref_mut.result.now.notes (λ nothing. (call.all nothing).0) (λ something. (call.held something call.form).1), c.flush.ensures))
