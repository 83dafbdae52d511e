use Rattle.std.proofs.Common.{inr, rules}
use Rattle.std.proofs.lemmas.Result.{IfErr-weaker}
use Rattle.st_recovery.proofs.RecoversLemmas.{whole_of_read, was_read}
use Rattle.st_recovery.proofs.recovery.choose_in.Goals as goal

pub returns-in_err-b_extent-clause-memory : goal.returns-in_err-b_extent-clause-memory
returns-in_err-b_extent-clause-memory c = λ e.
    inr (
      whole_of_read _ _ _ c.args.a.now c.in_ok-a_extent.a_extent c.in_ok-a_extent.ensures.void c.in_ok-a_extent.ensures.form c.in_ok-a_extent.ensures.held,
      c.in_err-b_extent.ensures.memory (search rules),
    )

pub returns-clause-chosen : goal.returns-clause-chosen
returns-clause-chosen c =
    c.newer.ensures.chosen c.args.newest c.args.a.now c.args.b.now
    (was_read _ _ _ _ _ c.in_ok-a_extent.ensures.void c.in_ok-a_extent.ensures.form c.in_ok-a_extent.ensures.held)
    (was_read _ _ _ _ _ c.in_ok-b_extent.ensures.void c.in_ok-b_extent.ensures.form c.in_ok-b_extent.ensures.held)

pub returns-clause-void : goal.returns-clause-void
returns-clause-void c =
    c.newer.ensures.void c.args.newest c.args.a.now c.args.b.now
    (was_read _ _ _ _ _ c.in_ok-a_extent.ensures.void c.in_ok-a_extent.ensures.form c.in_ok-a_extent.ensures.held)
    (was_read _ _ _ _ _ c.in_ok-b_extent.ensures.void c.in_ok-b_extent.ensures.form c.in_ok-b_extent.ensures.held)

pub returns-clause-refused : goal.returns-clause-refused
returns-clause-refused c =
    IfErr-weaker c.newer.result _ _ (λ fault refused. inr refused)
    (c.newer.ensures.refused c.args.newest c.args.a.now c.args.b.now
    (was_read _ _ _ _ _ c.in_ok-a_extent.ensures.void c.in_ok-a_extent.ensures.form c.in_ok-a_extent.ensures.held)
    (was_read _ _ _ _ _ c.in_ok-b_extent.ensures.void c.in_ok-b_extent.ensures.form c.in_ok-b_extent.ensures.held))

pub returns-clause-form : goal.returns-clause-form
returns-clause-form c = c.newer.ensures.form c.args.newest c.in_ok-a_extent.ensures.form c.in_ok-b_extent.ensures.form
