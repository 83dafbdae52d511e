use Rattle.std.proofs.Common.{◌∙◌, ℕ, Bool, List, ap, map, filter, not}
use Rattle.std.proofs.lemmas.List.Elements.{filter_agree}
use Rattle.mk_words.specs.Words.{words_of, spaced}
use Rattle.mk_words.specs.Patterns.{pattern_of, fits_any, fits_parted}
use Rattle.mk_words.proofs.PartedLemmas.{bytes_of}
use Rattle.mk_words.proofs.SpacedLemmas.{ended-all}
use Rattle.mk_words.proofs.patterns.filter_out.Goals as goal

pub returns : goal.returns
returns c =
    let words : List (List ℕ) = words_of c.args.text.now in
    let parted : List ℕ → Bool = fits_parted (map bytes_of c.in_ok-patterns.patterns.literals.keys) c.in_ok-patterns.patterns.forms.items in
    ended-all c.loop-word.out.items c.without_last.result.items (filter (λ word. not (parted word)) c.loop-word.word-iterator) (filter (λ word. not (parted word)) words) (ap (filter (λ word. not (parted word))) c.in-None.ensures.steps.0)
    c.loop-word.invariant c.without_last.ensures
    ∙ ap spaced (filter_agree (λ word. not (parted word)) (λ word. not (fits_any (map pattern_of (words_of c.args.patterns.now)) word)) (λ word. ap not (c.in_ok-patterns.ensures word)) words)
