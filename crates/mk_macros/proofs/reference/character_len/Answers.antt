use Rattle.bstr.proofs.lemmas.PieceLemmas.{piece-bounds}
use Rattle.mk_macros.proofs.reference.character_len.Goals as goal

pub returns-in-Some-default-clause-within : goal.returns-in-Some-default-clause-within
returns-in-Some-default-clause-within c =
    let bounds = piece-bounds c.args.text.now c.requires in
    rw c.decode.ensures.size bounds.2
