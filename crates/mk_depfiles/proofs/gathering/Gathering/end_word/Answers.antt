use Rattle.mk_depfiles.proofs.WordLemmas.{word_ended}
use Rattle.mk_depfiles.proofs.gathering.Gathering.end_word.Goals as goal

pub returns-clause-read : goal.returns-clause-read
returns-clause-read c =
    word_ended c.close_word.result c.args.self.now c.close_word.new.self c.args.count c.close_word.ensures.words c.close_word.ensures.word c.close_word.ensures.held
