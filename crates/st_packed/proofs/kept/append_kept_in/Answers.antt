use Rattle.st_records.specs.declared.record.Record.TheVariants as records
use Rattle.st_records.proofs.Good.{fits_in}
use Rattle.st_packed.proofs.kept.append_kept_in.Goals as goal

pub put_packed-requires : goal.put_packed-requires
put_packed-requires c = fits_in c.args.form (records.Kept c.args.name.now c.args.entry.now) c.requires
