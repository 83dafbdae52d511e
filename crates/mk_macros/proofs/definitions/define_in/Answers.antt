use Rattle.std.proofs.Common.{rules, ◌≡◌, ◌∙◌, sym, ap, subst, Some, nat_eq}
use Rattle.std.specs.Option.{option_map_or}
use Rattle.std.specs.Map.{lookup}
use Rattle.std.specs.Cmp.Lexicographic.{pointwise}
use Rattle.indexmap.specs.IndexMap.{get_by}
use Rattle.mk_macros.specs.Ranks.{no_ranks, redefined}
use Rattle.mk_macros.specs.Shown.{ranks_of, texts_at}
use Rattle.mk_macros.proofs.DefinitionLemmas.{is_named, lookup-set_value, lookup-insert_entry}
use Rattle.mk_macros.proofs.definitions.define_in.Goals as goal

pub returns-in-Some-clause-others : goal.returns-in-Some-clause-others
returns-in-Some-clause-others c = λ n apart.
    let writes = (c.get_mut.follows.holds c.define.new.self).0 in
    let same = lookup-set_value (λ k. k.items) n c.args.name.now apart c.args.definitions.now.entries c.define.new.self in
    ap (λ es. option_map_or ranks_of (lookup (is_named (λ k. k.items) n) es) no_ranks) writes
    ∙ ap (λ found. option_map_or ranks_of found no_ranks) same

pub returns-clause-others : goal.returns-clause-others
returns-clause-others c = λ n apart.
    let entries = c.in_ok-insert.ensures.entries in
    let same = lookup-insert_entry (λ k. k.items) n c.args.name.now apart c.get_mut.follows.lender-at-none.entries c.in_ok-from_slice.field-0 c.define-2.new.self c.in_ok-from_slice.ensures.items in
    ap (λ es. option_map_or ranks_of (lookup (is_named (λ k. k.items) n) es) no_ranks) entries
    ∙ ap (λ found. option_map_or ranks_of found no_ranks) same
    ∙ ap (λ m. option_map_or ranks_of (lookup (is_named (λ k. k.items) n) m.entries) no_ranks) c.get_mut.follows.holds-at-none

pub returns-clause-ok : goal.returns-clause-ok
returns-clause-ok c =
    let made : ranks_of c.define-2.new.self ≡ redefined c.args.profile no_ranks c.args.rank c.args.value.now c.args.append = search rules in
    let found : get_by (λ k. pointwise nat_eq c.args.name.now k.items) c.insert.new.self ≡ Some c.define-2.new.self =
    subst (λ ks. get_by (λ k. pointwise nat_eq ks k.items) c.insert.new.self ≡ Some c.define-2.new.self) c.in_ok-from_slice.ensures.items c.in_ok-insert.ensures.updates.1 in
    let got : texts_at c.insert.new.self c.args.name.now ≡ ranks_of c.define-2.new.self = ap (λ o. option_map_or ranks_of o no_ranks) found in
    let old : texts_at c.args.definitions.now c.args.name.now ≡ no_ranks = search rules in
    got ∙ made ∙ ap (λ r. redefined c.args.profile r c.args.rank c.args.value.now c.args.append) (sym old)
