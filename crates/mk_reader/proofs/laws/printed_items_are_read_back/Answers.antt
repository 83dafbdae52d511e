use Rattle.mk_reader.proofs.PrintedItemsLemmas.{printed_read}
use Rattle.mk_reader.proofs.laws.printed_items_are_read_back.Goals as goal

pub returns : goal.returns
returns c = printed_read
