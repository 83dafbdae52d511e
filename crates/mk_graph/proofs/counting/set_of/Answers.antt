use Rattle.std.proofs.Common.{nat_eq, sym, ap, ◌∙◌, subst}
use Rattle.std.proofs.lemmas.List.Filters.{dedup_is}
use Rattle.std.specs.List.Sorted.{IsNonDecreasing, IsStrictlyIncreasing}
use Rattle.mk_graph.specs.Edges.{has}
use Rattle.mk_graph.proofs.CountedLemmas.{has-dedup}
use Rattle.mk_graph.proofs.SetLemmas.{strict_dedup}
use Rattle.mk_graph.proofs.counting.set_of.Goals as goal

pub returns-clause-members : goal.returns-clause-members
returns-clause-members c = λ n.
    let kept = dedup_is nat_eq c.in_ok-set.set.items c.dedup.new.self.items c.dedup.ensures.filtered in
    ap (λ l. has l n) kept ∙ has-dedup c.in_ok-set.set.items n ∙ ap (λ l. has l n) c.in_ok-set.ensures.items

pub returns-clause-ascending : goal.returns-clause-ascending
returns-clause-ascending c =
    let kept = dedup_is nat_eq c.in_ok-set.set.items c.dedup.new.self.items c.dedup.ensures.filtered in
    subst IsStrictlyIncreasing (sym kept) (strict_dedup c.in_ok-set.set.items (subst IsNonDecreasing (sym c.in_ok-set.ensures.items) c.requires))
