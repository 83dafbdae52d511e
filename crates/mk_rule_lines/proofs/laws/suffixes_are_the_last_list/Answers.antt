use Rattle.mk_rule_lines.proofs.SuffixLemmas.{suffixes_are, suffixes_told}
use Rattle.mk_rule_lines.proofs.laws.suffixes_are_the_last_list.Goals as goal

pub returns : goal.returns
returns c = λ lines suffixes. (suffixes_are lines suffixes, suffixes_told lines suffixes)
