use Rattle.st_records.proofs.Decoding.{one_encoding_in_lem}
use Rattle.st_records.proofs.laws.one_encoding_in.Goals as goal

pub returns : goal.returns
returns c = one_encoding_in_lem
