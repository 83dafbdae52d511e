use Rattle.std.proofs.Common.{◌≡◌, ◌+◌, ◌^◌, length, drop}
use Rattle.st_file.specs.Batch.{body_in}
use Rattle.st_file.proofs.batch_writer.body_length.Given as goal

-- what is left, and what the records so far take, is the room that a body may have
abbrev pub invariant-loop-event : goal.invariant-loop-event
invariant-loop-event l = l.room + length (body_in l.form l.records) ≡ 2 ^ 30 + length (body_in l.form (drop l.event-index l.records))
