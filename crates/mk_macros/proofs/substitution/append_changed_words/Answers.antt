use Rattle.mk_macros.proofs.WordLemmas.{changed_words-first}
use Rattle.mk_macros.proofs.substitution.append_changed_words.Goals as goal

pub loop-word-init : goal.loop-word-init
loop-word-init c = record {
  made = changed_words-first _ c.args.value.now _ c.in-Some.rest.now _ _ c.in-Some.ensures.word c.in_ok-append_changed_word.ensures.ok.0;
  short = c.in_ok-append_changed_word.ensures.ok.1;
}
