use Rattle.mk_macros.proofs.PatternLemmas.{changed_word-ending, changed_word-other, changed_word-pattern, changed_word-other_form, changed_word-no_place}
use Rattle.mk_macros.proofs.laws.substitutions_change_words.Goals as goal

pub returns : goal.returns
returns c = record {
  ending = changed_word-ending;
  other_words = changed_word-other;
  stem = changed_word-pattern;
  other_forms = changed_word-other_form;
  no_place = changed_word-no_place;
}
