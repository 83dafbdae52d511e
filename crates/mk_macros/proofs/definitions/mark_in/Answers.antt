use Rattle.std.proofs.Common.{◌∙◌, ap}
use Rattle.std.specs.Option.{option_map_or}
use Rattle.std.specs.Map.{lookup}
use Rattle.mk_macros.specs.Ranks.{no_ranks}
use Rattle.mk_macros.specs.Shown.{ranks_of}
use Rattle.mk_macros.proofs.DefinitionLemmas.{is_named, lookup-set_value, lookup-insert_entry}
use Rattle.mk_macros.proofs.definitions.mark_in.Goals as goal

pub returns-in-Some-clause-others : goal.returns-in-Some-clause-others
returns-in-Some-clause-others c = λ n apart.
    let writes = (c.get_mut.follows.holds (record c.in-Some.definition.now { is_fixed = c.args.is_fixed })).0 in
    let same = lookup-set_value (λ k. k.items) n c.args.name.now apart c.args.definitions.now.entries (record c.in-Some.definition.now { is_fixed = c.args.is_fixed }) in
    ap (λ es. option_map_or ranks_of (lookup (is_named (λ k. k.items) n) es) no_ranks) writes
    ∙ ap (λ found. option_map_or ranks_of found no_ranks) same

pub returns-clause-others : goal.returns-clause-others
returns-clause-others c = λ n apart.
    let entries = c.in_ok-insert.ensures.entries in
    let same = lookup-insert_entry (λ k. k.items) n c.args.name.now apart c.get_mut.follows.lender-at-none.entries c.in_ok-from_slice.field-0 (record c.new-definition.result { is_fixed = c.args.is_fixed }) c.in_ok-from_slice.ensures.items in
    ap (λ es. option_map_or ranks_of (lookup (is_named (λ k. k.items) n) es) no_ranks) entries
    ∙ ap (λ found. option_map_or ranks_of found no_ranks) same
    ∙ ap (λ m. option_map_or ranks_of (lookup (is_named (λ k. k.items) n) m.entries) no_ranks) c.get_mut.follows.holds-at-none
