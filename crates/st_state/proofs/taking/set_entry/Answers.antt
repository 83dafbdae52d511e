use Rattle.std.proofs.Common.{ap, sym, ◌∙◌}
use Rattle.st_state.specs.State.{by_name}
use Rattle.st_state.proofs.StateLemmas.{by_name-insert_entry, absent-by_name, on_err}
use Rattle.st_state.proofs.taking.set_entry.Goals as goal

pub returns-in_err-insert-clause-memory : goal.returns-in_err-insert-clause-memory
returns-in_err-insert-clause-memory c =
    on_err _ (absent-by_name (λ k. k) c.args.name c.args.entries.now.entries (sym c.in_err-insert.ensures.absent))

pub returns-clause-ok : goal.returns-clause-ok
returns-clause-ok c =
    ap (by_name (λ k. k)) c.in_ok-insert.ensures.entries
    ∙ by_name-insert_entry (λ k. k) c.args.name c.args.entry c.args.entries.now.entries
