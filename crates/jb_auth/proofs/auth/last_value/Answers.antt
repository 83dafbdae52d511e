use Rattle.std.proofs.Common.{Some, None}
use Rattle.std.specs.Prelude.{codes}
use Rattle.std.proofs.lemmas.Slice.Eq.{strip_prefix_is}
use Rattle.std.proofs.lemmas.Bool.Decides.{Decides-eqb}
use Rattle.jb_auth.proofs.AuthLemmas.{HasRead-with, HasRead-without}
use Rattle.jb_auth.proofs.auth.last_value.Goals as goal

pub loop-rest-preserved-in-Some-strip_prefix : goal.loop-rest-preserved-in-Some-strip_prefix
loop-rest-preserved-in-Some-strip_prefix c =
    let word = c.cut_at.result.0.now in
    HasRead-with c.args.makeflags.now c.loop-rest.rest c.loop-rest.last c.cut_at.result.1 c.in-Some.text c.in-Some-strip_prefix.value word
    c.in-Some.is c.loop-rest.invariant c.cut_at.ensures.front c.cut_at.ensures.rest
    (strip_prefix_is Decides-eqb word (codes "--jobserver-auth=") (Some c.in-Some-strip_prefix.value) c.in-Some-strip_prefix.ensures.cases)

pub loop-rest-preserved : goal.loop-rest-preserved
loop-rest-preserved c =
    let word = c.cut_at.result.0.now in
    HasRead-without c.args.makeflags.now c.loop-rest.rest c.loop-rest.last c.cut_at.result.1 c.in-Some.text word
    c.in-Some.is c.loop-rest.invariant c.cut_at.ensures.front c.cut_at.ensures.rest
    (strip_prefix_is Decides-eqb word (codes "--jobserver-auth=") None c.in_default-strip_prefix.ensures.cases)
