use Rattle.st_records.proofs.Good.{fits_in}
use Rattle.st_records.proofs.record.Record.append_in.Goals as goal

pub put_record-requires : goal.put_record-requires
put_record-requires c = fits_in c.args.form c.args.self.now c.requires
