use Rattle.std.proofs.Common.{inr, ap}
use Rattle.bd_flusher.specs.Site.{in_form}
use Rattle.bd_flusher.proofs.WritingLemmas.{taken_in}
use Rattle.bd_flusher.proofs.flusher.Flusher.write.Goals as goal

-- what was taken in is flushed, whose answer is told
pub returns-clause-written : goal.returns-clause-written
returns-clause-written g c =
    let call = c.in_ok-take_in.ensures in
    inr (
      in_form c.take_in.new.self,
      taken_in (in_form c.args.site.now) (in_form c.take_in.new.self) c.deref_mut.result.now.notes (λ nothing. ap in_form (call.all nothing).0) (λ something. ap in_form (call.held something).1),
      c.flush.ensures,
    )
