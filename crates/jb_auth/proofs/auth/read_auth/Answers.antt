use Rattle.jb_auth.specs.Auth.{absent, seen}
use Rattle.jb_auth.proofs.AuthLemmas.{Says-once, Says-value}
use Rattle.jb_auth.proofs.auth.read_auth.Goals as goal

pub returns-in-None-clause-only : goal.returns-in-None-clause-only
returns-in-None-clause-only c = λ authority says. Says-once c.args.makeflags.now authority absent says c.in-None.ensures

pub returns-in-Some-clause-says : goal.returns-in-Some-clause-says
returns-in-Some-clause-says c = Says-value c.args.makeflags.now c.in-Some.value.now c.in-Some.ensures (seen c.auth_of.result) c.auth_of.ensures

pub returns-in-Some-clause-only : goal.returns-in-Some-clause-only
returns-in-Some-clause-only c =
    λ authority says.
    Says-once c.args.makeflags.now authority (seen c.auth_of.result) says
    (Says-value c.args.makeflags.now c.in-Some.value.now c.in-Some.ensures (seen c.auth_of.result) c.auth_of.ensures)
