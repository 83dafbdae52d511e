use Rattle.std.proofs.Common.{Result, Ok, Err, OnOk, OnErr}
use Rattle.mk_macros.specs.Shown.{ranks_of}
use Rattle.mk_macros.proofs.DefinitionLemmas.{marks, keeps}
use Rattle.mk_macros.proofs.definitions.Macros.mark.Goals as goal

at_ok : {T E : Type 0} {P Q : Type 0} (r : Result T E) → (P → Q) → OnOk r P → OnOk r Q
at_ok (Ok x) f p = f p
at_ok (Err e) f p = p

at_err : {T E : Type 0} {P Q : Type 0} (r : Result T E) → (P → Q) → OnErr r P → OnErr r Q
at_err (Ok x) f p = p
at_err (Err e) f p = f p

pub returns-clause-ok : goal.returns-clause-ok
returns-clause-ok c =
    rw (← c.self.view_is) (at_ok c.mark_in.result
    (marks (λ k. k.items) ranks_of c.self.inside.definitions.entries c.mark_in.new.definitions.entries c.args.name.now c.mark_in.ensures.others c.self.inside.profile c.args.is_fixed)
    c.mark_in.ensures.ok)

pub returns-clause-err : goal.returns-clause-err
returns-clause-err c =
    rw (← c.self.view_is) (at_err c.mark_in.result
    (keeps (λ k. k.items) ranks_of c.self.inside.definitions.entries c.mark_in.new.definitions.entries c.args.name.now c.mark_in.ensures.others c.self.inside.profile)
    c.mark_in.ensures.err)
