use Rattle.std.proofs.Common.{◌≡◌, ap, sym, ◌∙◌, rules, List, ℕ}
use Rattle.std.specs.FinMap as map
use Rattle.std.specs.Option.{unwrap_or}
use Rattle.indexmap.specs.Entry.{map_with_value}
use Rattle.st_records.specs.declared.record.Entry.{Entry}
use Rattle.st_state.specs.State.{by_name, known_hidden, unfinished}
use Rattle.st_state.proofs.StateLemmas.{by_name-insert_entry, absent-by_name, on_err, hidden_or_none}
use Rattle.st_state.proofs.taking.set_unfinished.Goals as goal

pub returns-in_err-entries-clause-memory : goal.returns-in_err-entries-clause-memory
returns-in_err-entries-clause-memory c =
    on_err _ (absent-by_name (λ k. k) c.args.name c.args.entries.now.entries (sym c.in_err-entries.ensures.absent))

pub returns-clause-ok : goal.returns-clause-ok
returns-clause-ok c =
    let es = c.args.entries.now.entries in
    let left = c.leave_unfinished.new.known in
    let none : Entry = c.new.result in
    let hidden : c.or_insert-known.result.now.hidden ≡ known_hidden (by_name {K = List ℕ} (λ k. k) es) c.args.name =
    ap (λ e. e.hidden) (c.or_insert-known.ensures.value ∙ ap (λ o. unwrap_or o none) c.in_ok-entries.ensures.value)
    ∙ hidden_or_none (λ k. k) c.args.name es none (ap (λ (e : Entry). e.hidden) c.new.ensures) in
    let rest : by_name {K = List ℕ} (λ k. k) (map_with_value c.in_ok-entries.field-0 left).entries
    ≡ map.insert (by_name {K = List ℕ} (λ k. k) es) c.args.name (unfinished c.args.phase (known_hidden (by_name {K = List ℕ} (λ k. k) es) c.args.name)) =
    ap (by_name {K = List ℕ} (λ k. k)) (c.in_ok-entries.ensures.update.1 left)
    ∙ by_name-insert_entry {K = List ℕ} (λ k. k) c.args.name left es
    ∙ ap (map.insert (by_name {K = List ℕ} (λ k. k) es) c.args.name) (c.leave_unfinished.ensures ∙ ap (unfinished c.args.phase) hidden) in
    search (rules, rest)
