use Rattle.std.proofs.Common.{◌∙◌, ◌+◌, ◌<◌, List, ℕ, Bool, length, sym, subst, rules, arith}
use Rattle.std.proofs.Common.{map as list_map}
use Rattle.std.specs.Cmp.{on_total, then_total, nat_cmp_total}
use Rattle.std.specs.Cmp.Lexicographic.{slice_cmp, nat_list_cmp_total}
use Rattle.std.specs.List.{All}
use Rattle.std.specs.List.Sorted.{IsPermutation}
use Rattle.std.specs.Ordering.{is_lt, nat_cmp, ordering_then}
use Rattle.std.proofs.lemmas.Fn.{always_returns_same}
use Rattle.std.proofs.lemmas.List.Sorted.{IsPermutation-map, All-permutation, ranks_by}
use Rattle.std.proofs.lemmas.Map.Lookups.{map_keys}
use Rattle.st_records.specs.declared.record.Entry.{Entry}
use Rattle.st_state.specs.declared.name_order.Ranked.{Ranked}
use Rattle.st_state.specs.Listed.{entry_at}
use Rattle.st_state.specs.Ranks.{HasRank}
use Rattle.st_state.proofs.ListedLemmas.{map_keys-same}
use Rattle.st_state.proofs.RankLemmas.{in_order-ranked}
use Rattle.st_state.proofs.StateLemmas.{entries-sorted, apart-map_keys, NamesDontFall}
use Rattle.st_state.proofs.name_order.in_order.Goals as goal

pub returns-clause-sorted : goal.returns-clause-sorted
returns-clause-sorted c =
    let es = c.args.entries.now.entries in
    let see : Ranked → List ℕ × Entry = λ r. entry_at es r.place in
    let order = c.sort_unstable_by.new.self.items in
    let ranked = c.in_ok-order.ensures in
    let shuffled = c.sort_unstable_by.ensures.permutation in
    let moved : IsPermutation (map_keys (λ k. k) es) (list_map see order) =
    subst (λ old. IsPermutation old (list_map see order)) (ranked.all ∙ sym (map_keys-same es)) (IsPermutation-map see _ _ shuffled) in
    let ranks : All (λ r. HasRank ranked.ranks.0 (see r).0 r.rank) order =
    All-permutation (λ r. HasRank ranked.ranks.0 (see r).0 r.rank) _ _ shuffled ranked.ranks.1 in
    let lt : Ranked → Ranked → Bool = λ x y. is_lt (ordering_then (nat_cmp x.rank y.rank) (slice_cmp nat_cmp (see x).0 (see y).0)) in
    let is_order = ranks_by (then_total (on_total (λ (r : Ranked). r.rank) nat_cmp_total) (on_total (λ r. (see r).0) nat_list_cmp_total)) (λ r. r) in
    let sorted = c.sort_unstable_by.ensures.sorted lt is_order (always_returns_same _ _ _ (λ a r f h. search rules)) in
    let up : NamesDontFall see order =
    λ k d h. in_order-ranked ranked.ranks.0 _ _ _ _ (ranks (k + 1) d h) (ranks k d (omega (arith, h))) (sorted k d (omega arith) h) in
    entries-sorted see (map_keys (λ k. k) es) order (apart-map_keys (λ k. k) es ranked.unique) moved up

pub returns-clause-within : goal.returns-clause-within
returns-clause-within c =
    All-permutation (λ (r : Ranked). r.place < length c.args.entries.now.entries) _ _ c.sort_unstable_by.ensures.permutation c.in_ok-order.ensures.within
