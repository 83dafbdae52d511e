use Rattle.std.proofs.Common.{◌≡◌}
use Rattle.byte_strings.specs.Blanks.{words}
use Rattle.mk_notes.specs.Names.{has}
use Rattle.mk_notes.proofs.names.has_word.Given as goal

abbrev pub invariant-loop-word : goal.invariant-loop-word
invariant-loop-word l = has l.word-iterator l.name ≡ has (words l.text) l.name
