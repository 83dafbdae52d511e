use Rattle.std.proofs.Common.{◌≡◌, length}
use Rattle.mk_words.specs.Words.{words_of}
use Rattle.mk_variables.specs.Table.{table_of}
use Rattle.mk_variables.specs.Statement.{all_shared_as}
use Rattle.mk_variables.proofs.table.Table.share_words.Given as goal

abbrev pub invariant-loop-word : goal.invariant-loop-word
invariant-loop-word l = all_shared_as l.sharing (words_of l.rest) (table_of l.self) ≡ all_shared_as l.sharing (words_of l.words) (table_of l.fn.self)

abbrev pub decreases-loop-word : goal.decreases-loop-word
decreases-loop-word l = length l.rest
