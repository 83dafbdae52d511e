use Rattle.std.proofs.Common.{ℕ, List, subst, inr, rules}
use Rattle.std.proofs.lemmas.Result.{IfErr-weaker}
use Rattle.st_disk.specs.declared.which.Which.{Which}
use Rattle.st_disk.specs.declared.which.Which.TheVariants as which
use Rattle.st_recovery.specs.Recovers.{WasReadIn}
use Rattle.st_recovery.proofs.RecoversLemmas.{whole_of_read, was_read, second_refused}
use Rattle.st_recovery.proofs.recovery.choose_from_in.Goals as goal

pub returns-in_err-b_extent-in-Ok-clause-refused : goal.returns-in_err-b_extent-in-Ok-clause-refused
returns-in_err-b_extent-in-Ok-clause-refused g c = λ honest.
    let a = g.D.Disk.seen c.args.disk.now which.A in
    let b = g.D.Disk.seen c.args.disk.now which.B in
    let whole = whole_of_read _ _ _ a c.in-Ok.a_extent (c.in-Ok.ensures.void honest) c.in-Ok.ensures.form (c.in-Ok.ensures.held honest) in
    let refused = rw (c.in-Ok.ensures.seen honest) at (c.in_err-b_extent-in-Ok.ensures.refused honest) in
    let told = second_refused c.args.newest a b c.in_err-b_extent-in-Ok.field-0.0 whole refused in
    search (rules, told)

pub returns-in_ok-b_extent-in-Ok-clause-chosen : goal.returns-in_ok-b_extent-in-Ok-clause-chosen
returns-in_ok-b_extent-in-Ok-clause-chosen g c = λ honest.
    let a_is = was_read c.args.newest _ _ _ _ (c.in-Ok.ensures.void honest) c.in-Ok.ensures.form (c.in-Ok.ensures.held honest) in
    let b_then = was_read c.args.newest _ _ _ _ (c.in_ok-b_extent-in-Ok.ensures.void honest) c.in_ok-b_extent-in-Ok.ensures.form (c.in_ok-b_extent-in-Ok.ensures.held honest) in
    let b_is = subst (λ (f : Which → List ℕ). WasReadIn c.args.newest (f which.B) c.in_ok-b_extent-in-Ok.b_extent c.read_from_in-in-Ok.new.sink) (c.in-Ok.ensures.seen honest) b_then in
    c.newer.ensures.chosen _ _ _ a_is b_is

pub returns-in_ok-b_extent-in-Ok-clause-void : goal.returns-in_ok-b_extent-in-Ok-clause-void
returns-in_ok-b_extent-in-Ok-clause-void g c = λ honest.
    let a_is = was_read c.args.newest _ _ _ _ (c.in-Ok.ensures.void honest) c.in-Ok.ensures.form (c.in-Ok.ensures.held honest) in
    let b_then = was_read c.args.newest _ _ _ _ (c.in_ok-b_extent-in-Ok.ensures.void honest) c.in_ok-b_extent-in-Ok.ensures.form (c.in_ok-b_extent-in-Ok.ensures.held honest) in
    let b_is = subst (λ (f : Which → List ℕ). WasReadIn c.args.newest (f which.B) c.in_ok-b_extent-in-Ok.b_extent c.read_from_in-in-Ok.new.sink) (c.in-Ok.ensures.seen honest) b_then in
    c.newer.ensures.void _ _ _ a_is b_is

pub returns-in_ok-b_extent-in-Ok-clause-refused : goal.returns-in_ok-b_extent-in-Ok-clause-refused
returns-in_ok-b_extent-in-Ok-clause-refused g c = λ honest.
    let a_is = was_read c.args.newest _ _ _ _ (c.in-Ok.ensures.void honest) c.in-Ok.ensures.form (c.in-Ok.ensures.held honest) in
    let b_then = was_read c.args.newest _ _ _ _ (c.in_ok-b_extent-in-Ok.ensures.void honest) c.in_ok-b_extent-in-Ok.ensures.form (c.in_ok-b_extent-in-Ok.ensures.held honest) in
    let b_is = subst (λ (f : Which → List ℕ). WasReadIn c.args.newest (f which.B) c.in_ok-b_extent-in-Ok.b_extent c.read_from_in-in-Ok.new.sink) (c.in-Ok.ensures.seen honest) b_then in
    IfErr-weaker c.newer.result _ _ (λ fault refused. inr (inr refused)) (c.newer.ensures.refused _ _ _ a_is b_is)

pub returns-in_ok-b_extent-in-Ok-clause-form : goal.returns-in_ok-b_extent-in-Ok-clause-form
returns-in_ok-b_extent-in-Ok-clause-form g c = c.newer.ensures.form c.args.newest c.in-Ok.ensures.form c.in_ok-b_extent-in-Ok.ensures.form

pub returns-in_ok-b_extent-in-Ok-clause-good : goal.returns-in_ok-b_extent-in-Ok-clause-good
returns-in_ok-b_extent-in-Ok-clause-good g c = c.newer.ensures.good c.in-Ok.ensures.good c.in_ok-b_extent-in-Ok.ensures.good
