use Rattle.jb_auth.proofs.AuthLemmas.{no_front, no_back, no_second}
use Rattle.jb_auth.proofs.auth.negatives.Goals as goal

pub returns-in_err-first : goal.returns-in_err-first
returns-in_err-first c =
    rw c.from_residual.ensures
    (λ first second numbers. no_front c.args.value.now c.cut_at.result.0.now c.cut_at.result.1 first second c.cut_at.ensures.front c.cut_at.ensures.rest c.in_err-first.ensures numbers)

pub returns-in_err-back : goal.returns-in_err-back
returns-in_err-back c =
    rw c.from_residual-in_err-back.ensures
    (λ first second numbers. no_back c.args.value.now c.cut_at.result.0.now c.cut_at.result.1 first second c.cut_at.ensures.front c.in_err-back.was c.cut_at.ensures.rest numbers)

pub returns-in_err-second : goal.returns-in_err-second
returns-in_err-second c =
    rw c.from_residual-in_err-second.ensures
    (λ first second numbers. no_second c.args.value.now c.cut_at.result.0.now c.cut_at.result.1 c.in_ok-back.field-0 first second c.cut_at.ensures.front c.in_ok-back.was c.cut_at.ensures.rest c.in_err-second.ensures numbers)
