use Rattle.std.proofs.Common.{◌≡◌, ◌++◌, length, flat_map}
use Rattle.mk_functions.specs.Values.{Answers}
use Rattle.mk_words.specs.Words.{words_of}
use Rattle.mk_gnu_eval.specs.Reading.{names_for}
use Rattle.mk_gnu_eval.proofs.names.included_names.Given as goal

abbrev pub invariant-loop-name : goal.invariant-loop-name
invariant-loop-name g l = record {
  made : (w : Answers) → g.O.Outside.allows l.outside w → l.names ++ flat_map (names_for w) (words_of l.rest) ≡ flat_map (names_for w) (words_of l.text);
  narrows : (w : Answers) → g.O.Outside.allows l.outside w → g.O.Outside.allows l.initial.outside w;
}

abbrev pub decreases-loop-name : goal.decreases-loop-name
decreases-loop-name g l = length l.rest
