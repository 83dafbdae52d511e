use Rattle.mk_reader.proofs.StatementLemmas.{text_one, text_some}
use Rattle.mk_reader.proofs.laws.one_reading.Goals as goal

pub returns : goal.returns
returns c = record { some = text_some; one = text_one }
