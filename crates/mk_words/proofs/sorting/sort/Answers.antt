use Rattle.std.proofs.Common.{map, refl}
use Rattle.mk_words.specs.Words.{words_of}
use Rattle.mk_words.proofs.SortedLemmas.{bytes_at, among-more, sorted_view, sort-all}
use Rattle.mk_words.proofs.sorting.sort.Goals as goal

pub loop-word-preserved : goal.loop-word-preserved
loop-word-preserved c =
    among-more bytes_at c.loop-word.words.keys c.insert.new.self.keys c.in-Some.word c.in-Some.word.now c.loop-word.word-iterator c.next.new.self (words_of c.args.text.now)
    c.in-Some.ensures.steps refl c.in_ok-insert.ensures.keys c.loop-word.invariant

pub returns : goal.returns
returns c = (
  map bytes_at c.loop-word.words.keys,
  sort-all (map bytes_at c.loop-word.words.keys) c.loop-word.word-iterator (words_of c.args.text.now) c.in-None.ensures.steps.0 c.loop-word.invariant
      (sorted_view bytes_at c.loop-word.words.keys c.in_ok-out.ensures.ordered),
  c.in_ok-out.ensures.text,
)
