use Rattle.dmk_state.proofs.OutputLemmas.{kept_at_refusal, cause_of_fault, part_at_fault}
use Rattle.dmk_state.proofs.output.show.Goals as goal

pub returns-in-Ok-clause-refused : goal.returns-in-Ok-clause-refused
returns-in-Ok-clause-refused g c = λ f h. absurd (c.in-Ok.ensures.refused f h)

pub returns-in-Err-clause-refused : goal.returns-in-Err-clause-refused
returns-in-Err-clause-refused g c = λ f h. (c.refuse.ensures, kept_at_refusal _ _ c.in-Err.fault f _ _ (c.in-Err.ensures.refused f h) c.in-Err.ensures.left)

pub returns-in-Err-clause-cause : goal.returns-in-Err-clause-cause
returns-in-Err-clause-cause g c =
    λ e. cause_of_fault c.args.a.now.items c.args.b.now.items _ _ c.in-Err.fault c.in-Err.ensures.found c.in-Err.ensures.memory c.in-Err.ensures.left

pub returns-in-Err-clause-part : goal.returns-in-Err-clause-part
returns-in-Err-clause-part g c =
    λ m found e. part_at_fault c.args.a.now.items c.args.b.now.items m _ _ c.in-Err.fault found c.in-Err.ensures.left
