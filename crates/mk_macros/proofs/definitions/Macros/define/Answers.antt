use Rattle.std.proofs.Common.{Result, Ok, Err, OnOk, OnErr}
use Rattle.mk_macros.specs.Shown.{ranks_of}
use Rattle.mk_macros.proofs.DefinitionLemmas.{defines, keeps}
use Rattle.mk_macros.proofs.definitions.Macros.define.Goals as goal

at_ok : {T E : Type 0} {P Q : Type 0} (r : Result T E) → (P → Q) → OnOk r P → OnOk r Q
at_ok (Ok x) f p = f p
at_ok (Err e) f p = p

at_err : {T E : Type 0} {P Q : Type 0} (r : Result T E) → (P → Q) → OnErr r P → OnErr r Q
at_err (Ok x) f p = p
at_err (Err e) f p = f p

pub returns-clause-ok : goal.returns-clause-ok
returns-clause-ok c =
    rw (← c.self.view_is) (at_ok c.define_in.result
    (defines (λ k. k.items) ranks_of c.self.inside.definitions.entries c.define_in.new.definitions.entries c.args.name.now c.define_in.ensures.others c.self.inside.profile c.args.rank c.args.value.now c.args.append)
    c.define_in.ensures.ok)

pub returns-clause-err : goal.returns-clause-err
returns-clause-err c =
    rw (← c.self.view_is) (at_err c.define_in.result
    (keeps (λ k. k.items) ranks_of c.self.inside.definitions.entries c.define_in.new.definitions.entries c.args.name.now c.define_in.ensures.others c.self.inside.profile)
    c.define_in.ensures.err)
