use Rattle.std.proofs.Common.{◌∙◌, ap}
use Rattle.mk_words.specs.Patterns.{fits_any}
use Rattle.mk_words.proofs.PartedLemmas.{parted-hit, parted-miss}
use Rattle.mk_words.proofs.patterns.Patterns.fits.Goals as goal

pub returns-then-contains : goal.returns-then-contains
returns-then-contains c =
    parted-hit c.args.word.now c.args.self.now.literals.keys c.args.self.now.forms.items c.contains.result c.contains.ensures c.if-contains.true

pub returns-else-contains : goal.returns-else-contains
returns-else-contains c =
    parted-miss c.args.word.now c.args.self.now.literals.keys c.args.self.now.forms.items c.contains.result c.fits_any.result c.contains.ensures c.if-contains.false
    (c.fits_any.ensures ∙ ap (λ patterns. fits_any patterns c.args.word.now) c.as_slice.ensures.value)
