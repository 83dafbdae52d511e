use Rattle.mk_reader.proofs.PrintedLemmas.{definition_read, rule_read}
use Rattle.mk_reader.proofs.laws.printed_lines_are_read_back.Goals as goal

pub returns : goal.returns
returns c = record { definition = definition_read; rule = rule_read }
