use Rattle.mk_sources.proofs.SeveralLemmas.{follows_run}
use Rattle.mk_sources.proofs.laws.further_targets_follow_the_run.Goals as goal

pub returns : goal.returns
returns c = λ inputs name leader source is by. follows_run inputs name leader source is by
