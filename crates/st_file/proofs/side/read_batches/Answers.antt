use Rattle.std.proofs.Common.{refl, rules, inr}
use Rattle.st_file.proofs.SideLemmas.{walked_more, broken_here, comes_to_records}
use Rattle.st_file.proofs.side.read_batches.Goals as goal

pub loop-rest-preserved : goal.loop-rest-preserved
loop-rest-preserved g c =
    let found = rw c.in-Some.is at c.in_ok-after.ensures.found in
    walked_more _ _ _ _ _ _ _ c.loop-rest.rest.now c.in-Some.after.now found.0 c.loop-rest.invariant (search rules) (search rules) found.1 (search rules) (search rules)

pub returns-in_default-clause-refused : goal.returns-in_default-clause-refused
returns-in_default-clause-refused g c = λ newest is_read.
    let none = rw c.in_default.is at c.in_ok-after.ensures.none in
    inr (refl, inr (inr (broken_here _ newest _ _ is_read _ _ _ c.loop-rest.rest.now _ c.loop-rest.invariant (search rules) (search rules) c.split_at.ensures.back none)))

pub returns-in_err-after-clause-memory : goal.returns-in_err-after-clause-memory
returns-in_err-after-clause-memory g c =
    λ newest is_read e. comes_to_records _ newest _ _ is_read _ _ _ c.loop-rest.rest.now _ c.loop-rest.invariant (search rules) (search rules) c.split_at.ensures.back c.in_err-after.ensures.memory
