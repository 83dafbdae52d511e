use Rattle.std.proofs.Common.{◌∙◌, ℕ, Bool, List, ap, map, filter}
use Rattle.std.proofs.lemmas.List.Elements.{filter_agree}
use Rattle.mk_words.specs.Words.{words_of, spaced}
use Rattle.mk_words.specs.Patterns.{pattern_of, fits_any, fits_parted}
use Rattle.mk_words.proofs.PartedLemmas.{bytes_of}
use Rattle.mk_words.proofs.SpacedLemmas.{ended-all}
use Rattle.mk_words.proofs.patterns.filter.Goals as goal

pub returns : goal.returns
returns c =
    let words : List (List ℕ) = words_of c.args.text.now in
    let parted : List ℕ → Bool = fits_parted (map bytes_of c.in_ok-patterns.patterns.literals.keys) c.in_ok-patterns.patterns.forms.items in
    ended-all c.loop-word.out.items c.without_last.result.items (filter parted c.loop-word.word-iterator) (filter parted words) (ap (filter parted) c.in-None.ensures.steps.0)
    c.loop-word.invariant c.without_last.ensures
    ∙ ap spaced (filter_agree parted (fits_any (map pattern_of (words_of c.args.patterns.now))) c.in_ok-patterns.ensures words)
