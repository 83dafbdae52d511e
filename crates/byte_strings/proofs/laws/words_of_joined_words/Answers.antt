use Rattle.byte_strings.proofs.WordLemmas.{words-joined}
use Rattle.byte_strings.proofs.laws.words_of_joined_words.Goals as goal

pub returns : goal.returns
returns c = words-joined
