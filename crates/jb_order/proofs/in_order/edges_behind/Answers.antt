use Rattle.std.proofs.Common.{◌≡◌, ◌+◌, ℕ, List, [], ◌∷◌, ◌++◌, length, nat_lt, true, ◌&&◌, sym, ap, subst, ◌∙◌}
use Rattle.std.specs.List.{list_all}
use Rattle.std.proofs.lemmas.List.{length-append}
use Rattle.std.proofs.lemmas.List.Folds.{list_all-append}
use Rattle.jb_order.proofs.OrderLemmas.{HasAlsoTo, has_next}
use Rattle.jb_order.proofs.in_order.edges_behind.Goals as goal

pub loop-node-preserved : goal.loop-node-preserved
loop-node-preserved c =
    let soft : List (List ℕ) = c.args.soft.now in
    let node : ℕ = c.loop-node.node in
    let more : List (List ℕ) = c.loop-node.more in
    let waits : List ℕ = c.in_ok-waits.waits.items in
    let pushed : c.push_row.new.self ≡ more ++ waits ∷ [] =
    c.in_ok-push_row.ensures.ok ∙ ap (λ (ns : List ℕ). more ++ ns ∷ []) c.deref.ensures.value in
    let kept = c.loop-node.invariant in
    let fits : List ℕ → Type 0 = λ ns. list_all (λ n. nat_lt n (length soft)) ns ≡ true in (
      ap length pushed ∙ length-append more (waits ∷ []) ∙ ap (λ k. k + 1) kept.0,
      (λ counts. subst (λ (rows : List (List ℕ)). HasAlsoTo (node + 1) soft rows) (sym pushed)
          (has_next node soft more waits kept.0 (kept.1 counts) (c.in_ok-waits.ensures.soft counts))),
      ap (list_all (λ ns. list_all (λ n. nat_lt n (length soft)) ns)) pushed ∙ list_all-append (λ ns. list_all (λ n. nat_lt n (length soft)) ns) more (waits ∷ [])
          ∙ ap (λ b. b && list_all (λ ns. list_all (λ n. nat_lt n (length soft)) ns) (waits ∷ [])) kept.2 ∙ ap (λ b. b && true) c.in_ok-waits.ensures.closed,
    )
