use Rattle.std.proofs.Common.{ap, ◌∙◌}
use Rattle.byte_strings.specs.Blanks.{words}
use Rattle.mk_rule_lines.proofs.LineLemmas.{no_words}
use Rattle.mk_rule_lines.proofs.lines.phony_line.Goals as goal

pub returns-clause-prerequisites : goal.returns-clause-prerequisites
returns-clause-prerequisites c = c.new-3.ensures ∙ ap words (c.new-2.ensures ∙ c.new.ensures.items) ∙ no_words
