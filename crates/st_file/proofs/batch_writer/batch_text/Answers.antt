use Rattle.std.proofs.Common.{◌≤◌, ◌<◌, List, [], ◌∷◌, length, arith}
use Rattle.std.proofs.lemmas.List.{length-append}
use Rattle.st_records.specs.declared.version.Form.{Form}
use Rattle.st_records.specs.declared.record.Record.{Record}
use Rattle.st_records.specs.declared.record.Record.TheVariants as records
use Rattle.st_records.specs.Encoding.{encoding_in}
use Rattle.st_file.specs.Batch.{body_in}
use Rattle.st_file.proofs.batch_writer.batch_text.Goals as goal

-- no record is without bytes
some_bytes : (form : Form) (r : Record) → 0 < length (encoding_in form r)
some_bytes form (records.Begun target) = omega arith
some_bytes form (records.Done target commands hidden explicit) = omega arith
some_bytes form (records.Failed target status) = omega arith
some_bytes form (records.Kept target entry) = omega arith

-- so there are no more records than bytes
length-body : (form : Form) (rs : List Record) → length rs ≤ length (body_in form rs)
length-body form [] = omega arith
length-body form (r ∷ rs) = omega (arith, length-append (encoding_in form r) (body_in form rs), some_bytes form r, length-body form rs)

pub overflow_cast-records : goal.overflow_cast-records
overflow_cast-records c = omega (arith, length-body c.args.form c.args.records.now, c.requires.whole, c.requires.short)
