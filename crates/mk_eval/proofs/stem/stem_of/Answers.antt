use Rattle.std.proofs.lemmas.Bool.Decides.{Decides-eqb}
use Rattle.std.proofs.lemmas.Slice.Eq.{strip_suffix_is}
use Rattle.mk_eval.proofs.StemLemmas.{stem_ends}
use Rattle.mk_eval.proofs.stem.stem_of.Goals as goal

pub returns-then-byte-eq37 : goal.returns-then-byte-eq37
returns-then-byte-eq37 c =
    let now = c.loop-byte in
    stem_ends c.in-Some.byte.now c.in-Some.after.now now.left.now now.rest.now c.args.pattern.now c.args.target.now c.in-Some.ensures.cases.0 ((Decides-eqb c.in-Some.byte.now 37).1 c.if-byte-eq37.true)
    now.invariant.narrows now.invariant.widens c.strip_suffix.result
    (strip_suffix_is Decides-eqb now.rest.now c.in-Some.after.now c.strip_suffix.result c.strip_suffix.ensures.cases)
