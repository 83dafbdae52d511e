use Rattle.std.proofs.Common.{rules, ◌<◌}
use Rattle.st_state.proofs.StateLemmas.{on_err}
use Rattle.st_file.specs.Batch.{IsFramed, ComesToTargetIn}
use Rattle.st_file.proofs.FrameLemmas.{no_batch_by_count, no_batch_by_body}
use Rattle.st_file.proofs.batch.read_batch.Goals as goal

pub returns-then-count-eq0-clause-none : goal.returns-then-count-eq0-clause-none
returns-then-count-eq0-clause-none g c =
    let frame = c.in-Some.ensures.found in
    no_batch_by_count c.args.form c.args.first c.in-Some.count c.in-Some.body.now c.in-Some.rest.now c.args.bytes.now c.if-count-eq0.true frame.1 frame.2

pub returns-then-not-branch-clause-none : goal.returns-then-not-branch-clause-none
returns-then-not-branch-clause-none g c =
    let frame = c.in-Some.ensures.found in
    no_batch_by_body c.args.form c.args.first c.in-Some.count c.in-Some.body.now c.in-Some.rest.now c.args.bytes.now frame.0 frame.1 frame.2 (search rules)

pub returns-in_err-read_body-clause-memory : goal.returns-in_err-read_body-clause-memory
returns-in_err-read_body-clause-memory g c =
    let found = c.in-Some.ensures.found in
    let some : 0 < c.in-Some.count = search rules in
    let frame : IsFramed c.args.bytes.now = record {
      count = c.in-Some.count;
      some = some;
      fits = found.0;
      text = c.in-Some.body.now;
      short = found.1;
      rest = c.in-Some.rest.now;
      parts = found.2;
    } in
    let comes : (f : IsFramed c.args.bytes.now) × ComesToTargetIn c.args.form c.args.first f.count f.text = (frame, c.in_err-read_body.ensures.memory) in
    on_err _ comes
