use Rattle.std.proofs.Common.{arith, drop}
use Rattle.std.proofs.lemmas.Result.{err_from_is_err_and}
use Rattle.st_records.specs.declared.fault.DecodeFault.TheVariants.{OutOfMemory}
use Rattle.st_records.proofs.Decoding.{read_is, is_read, same_read, no_fault}
use Rattle.st_records.proofs.FaultLemmas.{cause_is, fails_so, never_reads, whole_target, err_again}
use Rattle.st_packed.proofs.decoder.decode_in.Goals as goal

pub returns-in_err-record-clause-only : goal.returns-in_err-record-clause-only
returns-in_err-record-clause-only c = λ r n within stands.
    let p = err_from_is_err_and c.from_residual.result c.from_residual.ensures.1 in
    rw (p.1, p.2) (no_fault c.args.form c.in_err-record.field-0.0 c.args.bytes.now (r, drop n c.args.bytes.now) (r, n) c.in_err-record.ensures.gives (is_read c.args.form c.args.bytes.now r n stands))

pub overflow_sub-result : goal.overflow_sub-result
overflow_sub-result c = (read_is c.args.form c.args.bytes.now c.in_ok-record.rest.now c.in_ok-record.record (λ i. omega (arith, c.type_inv.bytes i)) c.in_ok-record.ensures.gives).shorter

pub returns-clause-found : goal.returns-clause-found
returns-clause-found c =
    let is = read_is c.args.form c.args.bytes.now c.in_ok-record.rest.now c.in_ok-record.record (λ i. omega (arith, c.type_inv.bytes i)) c.in_ok-record.ensures.gives in
    (is.within, is.front)

pub returns-clause-only : goal.returns-clause-only
returns-clause-only c = λ r n within stands.
    same_read c.args.form c.args.bytes.now c.in_ok-record.rest.now c.in_ok-record.record r n within c.in_ok-record.ensures.gives (is_read c.args.form c.args.bytes.now r n stands)

pub returns-in_err-record-clause-cause : goal.returns-in_err-record-clause-cause
returns-in_err-record-clause-cause c =
    let p = err_from_is_err_and c.from_residual.result c.from_residual.ensures.1 in
    rw (p.1, p.2) (cause_is c.args.form c.args.bytes.now c.in_err-record.field-0.0 (λ i. omega (arith, c.type_inv.bytes i)) c.in_err-record.ensures.gives)

pub returns-in_err-record-clause-refused : goal.returns-in_err-record-clause-refused
returns-in_err-record-clause-refused c = λ f has.
    let p = err_from_is_err_and c.from_residual.result c.from_residual.ensures.1 in
    rw (p.1, p.2) (fails_so c.args.form c.args.bytes.now f c.in_err-record.field-0.0 has c.in_err-record.ensures.gives)

pub returns-clause-refused : goal.returns-clause-refused
returns-clause-refused c = λ f has. absurd (never_reads c.args.form c.args.bytes.now f (c.in_ok-record.record, c.in_ok-record.rest.now) has c.in_ok-record.ensures.gives)

pub returns-in_err-record-clause-memory : goal.returns-in_err-record-clause-memory
returns-in_err-record-clause-memory c =
    let p = err_from_is_err_and c.from_residual.result c.from_residual.ensures.1 in
    rw (p.1, p.2) (λ e. whole_target c.args.bytes.now (λ i. omega (arith, c.type_inv.bytes i)) (c.in_err-record.ensures.memory (err_again c.in_err-record.field-0.0 OutOfMemory e)))
