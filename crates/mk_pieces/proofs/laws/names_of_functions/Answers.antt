use Rattle.mk_pieces.proofs.NameLemmas.{known, alone}
use Rattle.mk_pieces.proofs.laws.names_of_functions.Goals as goal

pub returns-clause-known : goal.returns-clause-known
returns-clause-known c = λ f. known f

pub returns-clause-alone : goal.returns-clause-alone
returns-clause-alone c = λ name f e. alone name f e
