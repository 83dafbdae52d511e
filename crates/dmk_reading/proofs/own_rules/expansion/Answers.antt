use Rattle.mk_macros.specs.Ranks.{defined_by, rule_meanings}
use Rattle.dmk_reading.proofs.OwnLemmas.{no_expansion}
use Rattle.dmk_reading.proofs.own_rules.expansion.Goals as goal

pub returns-in_ok-unless_out_of_memory-in-Err-clause-none :
    goal.returns-in_ok-unless_out_of_memory-in-Err-clause-none
returns-in_ok-unless_out_of_memory-in-Err-clause-none c = λ none bytes found.
    no_expansion (rule_meanings (defined_by c.args.macros.now)) c.args.text.now c.in-Err.fault c.in_ok-unless_out_of_memory-in-Err.ensures
    c.in-Err.ensures.fault bytes found
