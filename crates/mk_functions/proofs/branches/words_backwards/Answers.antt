use Rattle.mk_words.specs.Words.{words_of}
use Rattle.mk_functions.proofs.ListLemmas.{turned}
use Rattle.mk_functions.proofs.branches.words_backwards.Goals as goal

pub returns : goal.returns
returns c = turned c.loop-word.words.items c.reverse.new.self.items (words_of c.loop-word.rest.now) (words_of c.args.text.now) c.reverse.ensures.items c.in_default.ensures.word c.loop-word.invariant
