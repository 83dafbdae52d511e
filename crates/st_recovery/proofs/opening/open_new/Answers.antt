use Rattle.std.proofs.Common.{◌∙◌}
use Rattle.st_disk.specs.declared.which.Which.TheVariants as which
use Rattle.st_disk.specs.Moments.{now}
use Rattle.st_disk.proofs.MomentLaws.{at_end}
use Rattle.st_recovery.proofs.StoredLemmas.{creating, stored_new, ready_new, pairs_stored}
use Rattle.st_file.proofs.LayoutLemmas.{itself_is_read}
use Rattle.st_recovery.proofs.AnewLemmas.{made_of_none}
use Rattle.st_recovery.proofs.opening.open_new.Goals as goal

pub returns-in-Ok-clause-any_moment : goal.returns-in-Ok-clause-any_moment
returns-in-Ok-clause-any_moment g c = λ honest. creating (c.create_in.ensures.any_moment honest) (c.requires.on_b honest) (c.requires.void_b honest)

pub returns-in-Err-clause-any_moment_refused : goal.returns-in-Err-clause-any_moment_refused
returns-in-Err-clause-any_moment_refused g c = λ honest. creating (c.create_in.ensures.any_moment honest) (c.requires.on_b honest) (c.requires.void_b honest)

pub invariant_of-log : goal.invariant_of-log
invariant_of-log g c = record { ready = λ honest alive. ready_new (c.in-Ok.ensures.created honest) }

pub invariant_of-result : goal.invariant_of-result
invariant_of-result g c =
    let sides = now (g.D.Disk.moments c.create_in.new.disk) in
    record {
      stored = λ honest alive. ∣ stored_new sides (c.in-Ok.ensures.created honest) ((at_end (c.create_in.ensures.any_moment honest)).away_same ∙ c.requires.on_b honest) (c.requires.void_b honest) c.with_key-state.ensures ∣₁;
      is_read = itself_is_read c.args.newest;
      made = ∣ made_of_none c.args.newest _ c.with_key-state.ensures ∣₁;
    }

pub returns-in-Ok-clause-recovers : goal.returns-in-Ok-clause-recovers
returns-in-Ok-clause-recovers g c = λ honest.
    let sides = now (g.D.Disk.moments c.create_in.new.disk) in
    pairs_stored which.A sides
    (stored_new sides (c.in-Ok.ensures.created honest) ((at_end (c.create_in.ensures.any_moment honest)).away_same ∙ c.requires.on_b honest) (c.requires.void_b honest) c.with_key-state.ensures)
