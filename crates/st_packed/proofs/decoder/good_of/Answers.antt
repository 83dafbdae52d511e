use Rattle.std.proofs.Common.{arith}
use Rattle.st_records.proofs.Decoding.{record_is}
use Rattle.st_packed.proofs.TargetLemmas.{target_read}
use Rattle.st_packed.proofs.decoder.good_of.Goals as goal

pub overflow_sub-bytes : goal.overflow_sub-bytes
overflow_sub-bytes c =
    let len = record_is c.args.form c.args.bytes.now c.in_ok-record.rest.now c.in_ok-record.record (λ i. omega (arith, c.type_inv.bytes i)) c.in_ok-record.ensures.gives in
    omega (arith, len)

pub fault_within-requires-clause-length : goal.fault_within-requires-clause-length
fault_within-requires-clause-length c =
    let len = record_is c.args.form c.args.bytes.now c.in_ok-record.rest.now c.in_ok-record.record (λ i. omega (arith, c.type_inv.bytes i)) c.in_ok-record.ensures.gives in
    omega (arith, len)

pub returns-in_err-fault_within-clause-memory : goal.returns-in_err-fault_within-clause-memory
returns-in_err-fault_within-clause-memory c = λ _.
    target_read c.args.form c.args.bytes.now (c.in_ok-record.record, c.in_ok-record.rest.now) c.in_ok-record.ensures.gives
