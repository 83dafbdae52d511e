use Rattle.std.proofs.Common.{◌≡◌, ◌≤◌, length, ◌++◌, map}
use Rattle.byte_strings.specs.Blanks.{words}
use Rattle.mk_macros.specs.Words.{changed_word, changed_words}
use Rattle.mk_macros.specs.Shown.{shown_change}
use Rattle.mk_macros.proofs.WordLemmas.{spaced}
use Rattle.mk_macros.proofs.substitution.append_changed_words.Given as goal

abbrev pub decreases-loop-word : goal.decreases-loop-word
decreases-loop-word l = length l.rest

abbrev pub invariant-loop-word : goal.invariant-loop-word
invariant-loop-word l = record {
  made : l.out.items ++ spaced (map (changed_word (shown_change l.change)) (words l.rest)) ≡ l.fn.out.items ++ changed_words (shown_change l.change) l.fn.value;
  short : length l.out.items ≤ l.most;
}
