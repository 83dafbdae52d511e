use Rattle.mk_pieces.proofs.ArgumentLemmas.{joined_again}
use Rattle.mk_pieces.proofs.laws.arguments_are_the_text.Goals as goal

pub returns : goal.returns
returns c = λ opening close most text. joined_again opening close most 0 text
