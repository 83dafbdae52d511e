use Rattle.std.proofs.Common.{◌||◌, sym, ap, ◌∙◌}
use Rattle.mk_names.specs.Names.{has_name}
use Rattle.mk_sources.proofs.SetLemmas.{has_moved}
use Rattle.mk_sources.proofs.distinct_names.set_of.Goals as goal

pub loop-name-preserved : goal.loop-name-preserved
loop-name-preserved c = λ n.
    let set = c.loop-name.set in
    let left = c.next.new.self in
    ap (λ s. has_name s n || has_name left n) c.in_ok-_is_new.ensures.ok
    ∙ has_moved set left c.args.list.now c.in-Some.name.now
    (λ m. ap (λ l. has_name set m || has_name l m) (sym c.in-Some.ensures.steps) ∙ c.loop-name.invariant m) n
