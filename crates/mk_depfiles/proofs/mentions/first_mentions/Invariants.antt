use Rattle.mk_depfiles.proofs.MentionLemmas.{Mentions}
use Rattle.mk_depfiles.proofs.mentions.first_mentions.Given as goal

abbrev pub invariant-loop-name : goal.invariant-loop-name
invariant-loop-name l = Mentions l.once l.seen.keys l.name-iterator l.names
