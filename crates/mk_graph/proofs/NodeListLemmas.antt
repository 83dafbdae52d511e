-- Lists of nodes that are linked through vectors.
use Rattle.std.proofs.Common.{◌≡◌, ◌≢◌, ℕ, zero, suc, ◌+◌, ◌-◌, ◌<◌, ◌≤◌, ◌^◌, Bool, true, false, ◌||◌, nat_eq, List, [], ◌∷◌, length, set, slice_index, replicate, refl, sym, ap, ◌∙◌, subst, ⊎_elim, arith, eq-eqb, eqb-true, true≢false, get_or-set_same, get_or-set_other, length-set}
use Rattle.std.proofs.lemmas.Bool.{cases_eq, cases_lt}
use Rattle.std.proofs.lemmas.List.{get_or-map, get_or_past, length-map, length-replicate, get_or-replicate}
use Rattle.std.proofs.lemmas.Map.Steps.{length-le_from_distinct_below}
use Rattle.std.specs.List.{IsDistinct, AllByRecursion}
use Rattle.mk_graph.specs.Edges.{row, has}
use Rattle.mk_graph.specs.NodeLists.{nodes_from, lists_of, AreLinked, AreLists}

-- parts of a false "or"
or_parts : (a b : Bool) → (a || b) ≡ false → (a ≡ false) × (b ≡ false)
or_parts true b h = absurd (true≢false h)
or_parts false b h = (refl, h)

apart_from : (n : ℕ) (ns : List ℕ) → has ns n ≡ false → AllByRecursion (λ y. nat_eq n y ≡ false) ns
apart_from n [] h = tt
apart_from n (x ∷ ns) h = let parts = or_parts (nat_eq n x) (has ns n) h in (parts.0, apart_from n ns parts.1)

distinct_linked : (next : List ℕ) (link : ℕ) (ns : List ℕ) → AreLinked next link ns → IsDistinct nat_eq ns
unfolding IsDistinct
distinct_linked next link [] is = tt
distinct_linked next link (n ∷ ns) is = (apart_from n ns is.2, distinct_linked next (slice_index next n) ns is.3)

below_linked : (next : List ℕ) (link : ℕ) (ns : List ℕ) → AreLinked next link ns → (q : ℕ) → has ns q ≡ true → q < length next
below_linked next link [] is q h = absurd (true≢false (sym h))
below_linked next link (n ∷ ns) is q h = by (below_linked next (slice_index next n) ns is.3 q) (nat_eq q n) refl
  where
    by : (has ns q ≡ true → q < length next) → (b : Bool) → nat_eq q n ≡ b → q < length next
    by rest true e = subst (λ k. k < length next) (sym (eqb-true q n e)) is.1
    by rest false e = rest (sym (ap (λ b. b || has ns q) e) ∙ h)

-- no list has more nodes than there are
few_linked : (next : List ℕ) (link : ℕ) (ns : List ℕ) → AreLinked next link ns → length ns ≤ length next
few_linked next link ns is = length-le_from_distinct_below ns (length next) (distinct_linked next link ns is) (below_linked next link ns is)

spelled : (next : List ℕ) (most link : ℕ) (ns : List ℕ) → AreLinked next link ns → length ns ≤ most → nodes_from next most link ≡ ns
spelled next zero link [] is few = refl
spelled next (suc most) link [] is few = ap (nodes_from next (suc most)) is
spelled next zero link (n ∷ ns) is few = absurd (omega arith)
spelled next (suc most) link (n ∷ ns) is few =
    let rest = spelled next most (slice_index next n) ns is.3 (omega arith) in
    let e : link ≡ suc n = omega (arith, is.0) in
    ap (nodes_from next (suc most)) e ∙ ap (λ l. n ∷ l) rest

row_of : (heads next : List ℕ) (p : ℕ) → p < length heads → row (lists_of heads next) p ≡ nodes_from next (length next) (slice_index heads p)
row_of heads next p within = get_or-map (nodes_from next (length next)) heads p 0 [] within

pub row_past : (heads next : List ℕ) (p : ℕ) → length heads ≤ p → row (lists_of heads next) p ≡ []
row_past heads next p past = get_or_past (lists_of heads next) p [] (let l = length-map heads (nodes_from next (length next)) in omega arith)

pub length-lists : (heads next : List ℕ) → length (lists_of heads next) ≡ length heads
length-lists heads next = length-map heads (nodes_from next (length next))

list_is : (heads next : List ℕ) (p : ℕ) (ns : List ℕ) → p < length heads → AreLinked next (slice_index heads p) ns → row (lists_of heads next) p ≡ ns
list_is heads next p ns within is = row_of heads next p within ∙ spelled next (length next) (slice_index heads p) ns is (few_linked next (slice_index heads p) ns is)

-- empty lists
module _ (n : ℕ) (few : n < 2 ^ 32) where
  many : length {A = ℕ} (replicate n 0) ≡ n
  many = length-replicate n 0

  no_link : (p : ℕ) → p < length {A = ℕ} (replicate n 0) → slice_index (replicate n 0) p ≡ 0
  no_link p lt = get_or-replicate n p 0 0 (omega (arith, many))

  pub none_listed : (p : ℕ) → row (lists_of (replicate n 0) (replicate n 0)) p ≡ []
  none_listed p = ⊎_elim
      (λ lt. list_is (replicate n 0) (replicate n 0) p [] lt (no_link p lt))
      (λ le. row_past (replicate n 0) (replicate n 0) p le)
      (cases_lt p (length {A = ℕ} (replicate n 0)))

  pub empty_lists : AreLists (replicate n 0) (replicate n 0)
  empty_lists = record {
    few = subst (λ k. k < 2 ^ 32) (sym many) few;
    nodes = refl;
    linked = λ p lt. subst (AreLinked (replicate n 0) (slice_index (replicate n 0) p)) (sym (none_listed p)) (no_link p lt);
    apart = λ p q m h k. absurd (true≢false (sym h ∙ ap (λ l. has l m) (none_listed p)));
  }

-- a link still leads there where a node that is none of these gets another one behind it
still_linked : (next : List ℕ) (u v link : ℕ) (ns : List ℕ) → AreLinked next link ns → has ns u ≡ false → AreLinked (set next u v) link ns
still_linked next u v link [] is free = is
still_linked next u v link (n ∷ ns) is free =
    let parts = or_parts (nat_eq u n) (has ns u) free in
    let apart : n ≢ u = λ e. true≢false (sym (eq-eqb u n (sym e)) ∙ parts.0) in (
      is.0,
      subst (λ k. n < k) (sym (length-set next u v)) is.1,
      is.2,
      subst (λ k. AreLinked (set next u v) k ns) (sym (get_or-set_other next u n v 0 apart)) (still_linked next u v (slice_index next n) ns is.3 parts.1),
    )

-- one list becomes another, whose nodes stand in none of the others
module _ (heads next heads' next' : List ℕ) (old : AreLists heads next) (same_heads : length heads' ≡ length heads) (same_next : length next' ≡ length next)
    (at : ℕ) (within : at < length heads) (ns : List ℕ) (here : AreLinked next' (slice_index heads' at) ns)
    (others : (p : ℕ) → p < length heads → p ≢ at → AreLinked next' (slice_index heads' p) (row (lists_of heads next) p))
    (free : (q n : ℕ) → q ≢ at → has ns n ≡ true → has (row (lists_of heads next) q) n ≡ false) where
  pub there : row (lists_of heads' next') at ≡ ns
  there = list_is heads' next' at ns (omega arith) here

  pub elsewhere : (p : ℕ) → p ≢ at → row (lists_of heads' next') p ≡ row (lists_of heads next) p
  elsewhere p apart = ⊎_elim
      (λ lt. list_is heads' next' p (row (lists_of heads next) p) (omega arith) (others p lt apart))
      (λ le. row_past heads' next' p (omega arith) ∙ sym (row_past heads next p le))
      (cases_lt p (length heads))

  pub lists_still : AreLists heads' next'
  lists_still = record {
    few = let f = old.few in omega arith;
    nodes = same_heads ∙ old.nodes ∙ sym same_next;
    linked = λ p lt. ⊎_elim
        (λ e. subst (λ k. AreLinked next' (slice_index heads' k) (row (lists_of heads' next') k)) (sym e) (subst (AreLinked next' (slice_index heads' at)) (sym there) here))
        (λ apart. subst (AreLinked next' (slice_index heads' p)) (sym (elsewhere p apart)) (others p (omega arith) apart))
        (cases_eq p at);
    apart = λ p q n h k. ⊎_elim
        (λ e. ⊎_elim (λ f. e ∙ sym f)
        (λ off. absurd (true≢false (sym k ∙ ap (λ l. has l n) (elsewhere q off) ∙ free q n off (sym (ap (λ l. has l n) (ap (row (lists_of heads' next')) e ∙ there)) ∙ h))))
        (cases_eq q at))
        (λ on. ⊎_elim
        (λ f. absurd (true≢false (sym h ∙ ap (λ l. has l n) (elsewhere p on) ∙ free p n on (sym (ap (λ l. has l n) (ap (row (lists_of heads' next')) f ∙ there)) ∙ k))))
        (λ off. old.apart p q n (sym (ap (λ l. has l n) (elsewhere p on)) ∙ h) (sym (ap (λ l. has l n) (elsewhere q off)) ∙ k))
        (cases_eq q at))
        (cases_eq p at);
  }

-- a node that stands in no list comes in front of one
module _ (heads next : List ℕ) (old : AreLists heads next) (node at : ℕ) (known : node < length next) (within : at < length heads)
    (free : (p : ℕ) → has (row (lists_of heads next) p) node ≡ false) where
  put_here : AreLinked (set next node (slice_index heads at)) (slice_index (set heads at (node + 1)) at) (node ∷ row (lists_of heads next) at)
  put_here = (
    get_or-set_same heads at (node + 1) 0 within,
    subst (λ k. node < k) (sym (length-set next node (slice_index heads at))) known,
    free at,
    subst (λ k. AreLinked (set next node (slice_index heads at)) k (row (lists_of heads next) at)) (sym (get_or-set_same next node (slice_index heads at) 0 known))
        (still_linked next node (slice_index heads at) (slice_index heads at) (row (lists_of heads next) at) (old.linked at within) (free at)),
  )

  put_others : (p : ℕ) → p < length heads → p ≢ at → AreLinked (set next node (slice_index heads at)) (slice_index (set heads at (node + 1)) p) (row (lists_of heads next) p)
  put_others p lt apart =
      subst (λ k. AreLinked (set next node (slice_index heads at)) k (row (lists_of heads next) p)) (sym (get_or-set_other heads at p (node + 1) 0 apart))
      (still_linked next node (slice_index heads at) (slice_index heads p) (row (lists_of heads next) p) (old.linked p lt) (free p))

  put_free : (q n : ℕ) → q ≢ at → has (node ∷ row (lists_of heads next) at) n ≡ true → has (row (lists_of heads next) q) n ≡ false
  put_free q n off h = by (nat_eq n node) refl (has (row (lists_of heads next) q) n) refl
    where
      by : (b : Bool) → nat_eq n node ≡ b → (c : Bool) → has (row (lists_of heads next) q) n ≡ c → c ≡ false
      by b e false f = refl
      by true e true f = absurd (true≢false (sym f ∙ ap (has (row (lists_of heads next) q)) (eqb-true n node e) ∙ free q))
      by false e true f = absurd (off (old.apart q at n f (sym (ap (λ d. d || has (row (lists_of heads next) at) n) e) ∙ h)))

  pub put_lists : AreLists (set heads at (node + 1)) (set next node (slice_index heads at))
  put_lists = lists_still heads next (set heads at (node + 1)) (set next node (slice_index heads at)) old (length-set heads at (node + 1)) (length-set next node (slice_index heads at))
      at within (node ∷ row (lists_of heads next) at) put_here put_others put_free

  pub put_there : row (lists_of (set heads at (node + 1)) (set next node (slice_index heads at))) at ≡ node ∷ row (lists_of heads next) at
  put_there = there heads next (set heads at (node + 1)) (set next node (slice_index heads at)) old (length-set heads at (node + 1)) (length-set next node (slice_index heads at))
      at within (node ∷ row (lists_of heads next) at) put_here put_others put_free

  pub put_elsewhere : (p : ℕ) → p ≢ at → row (lists_of (set heads at (node + 1)) (set next node (slice_index heads at))) p ≡ row (lists_of heads next) p
  put_elsewhere = elsewhere heads next (set heads at (node + 1)) (set next node (slice_index heads at)) old (length-set heads at (node + 1)) (length-set next node (slice_index heads at))
      at within (node ∷ row (lists_of heads next) at) put_here put_others put_free

-- the first node of a list that isn't empty, and those behind it
pub record IsFirst (next : List ℕ) (link : ℕ) (ns : List ℕ) : Type 0 where
  pub behind : List ℕ
  pub whole : ns ≡ (link - 1) ∷ behind
  pub known : link - 1 < length next
  pub once : has behind (link - 1) ≡ false
  pub linked : AreLinked next (slice_index next (link - 1)) behind

pub first_linked : (next : List ℕ) (link : ℕ) (ns : List ℕ) → AreLinked next link ns → 0 < link → IsFirst next link ns
first_linked next link [] is some = absurd (omega (arith, is))
first_linked next link (n ∷ ns) is some =
    let e : n ≡ link - 1 = omega (arith, is.0) in
    record {
      behind = ns;
      whole = ap (λ k. k ∷ ns) e;
      known = subst (λ k. k < length next) e is.1;
      once = subst (λ k. has ns k ≡ false) e is.2;
      linked = subst (λ k. AreLinked next (slice_index next k) ns) e is.3;
    }

-- the first node of a list is taken out
module _ (heads next : List ℕ) (old : AreLists heads next) (at : ℕ) (within : at < length heads) (some : 0 < slice_index heads at) where
  pub first_node : IsFirst next (slice_index heads at) (row (lists_of heads next) at)
  first_node = first_linked next (slice_index heads at) (row (lists_of heads next) at) (old.linked at within) some

  in_list : (n : ℕ) → has first_node.behind n ≡ true → has (row (lists_of heads next) at) n ≡ true
  in_list n h = by (nat_eq n (slice_index heads at - 1)) refl
    where
      by : (b : Bool) → nat_eq n (slice_index heads at - 1) ≡ b → has (row (lists_of heads next) at) n ≡ true
      by true e = ap (λ l. has l n) first_node.whole ∙ ap (λ b. b || has first_node.behind n) e
      by false e = ap (λ l. has l n) first_node.whole ∙ ap (λ b. b || has first_node.behind n) e ∙ h

  first_in : has (row (lists_of heads next) at) (slice_index heads at - 1) ≡ true
  first_in = ap (λ l. has l (slice_index heads at - 1)) first_node.whole ∙ ap (λ b. b || has first_node.behind (slice_index heads at - 1)) (eq-eqb (slice_index heads at - 1) (slice_index heads at - 1) refl)

  take_here : AreLinked next (slice_index (set heads at (slice_index next (slice_index heads at - 1))) at) first_node.behind
  take_here = subst (λ k. AreLinked next k first_node.behind) (sym (get_or-set_same heads at (slice_index next (slice_index heads at - 1)) 0 within)) first_node.linked

  take_others : (p : ℕ) → p < length heads → p ≢ at → AreLinked next (slice_index (set heads at (slice_index next (slice_index heads at - 1))) p) (row (lists_of heads next) p)
  take_others p lt apart =
      subst (λ k. AreLinked next k (row (lists_of heads next) p)) (sym (get_or-set_other heads at p (slice_index next (slice_index heads at - 1)) 0 apart)) (old.linked p lt)

  not_there : (q n : ℕ) → q ≢ at → has (row (lists_of heads next) at) n ≡ true → has (row (lists_of heads next) q) n ≡ false
  not_there q n off h = by (has (row (lists_of heads next) q) n) refl
    where
      by : (c : Bool) → has (row (lists_of heads next) q) n ≡ c → c ≡ false
      by false f = refl
      by true f = absurd (off (old.apart q at n f h))

  take_free : (q n : ℕ) → q ≢ at → has first_node.behind n ≡ true → has (row (lists_of heads next) q) n ≡ false
  take_free q n off h = not_there q n off (in_list n h)

  pub take_lists : AreLists (set heads at (slice_index next (slice_index heads at - 1))) next
  take_lists = lists_still heads next (set heads at (slice_index next (slice_index heads at - 1))) next old (length-set heads at (slice_index next (slice_index heads at - 1))) refl
      at within first_node.behind take_here take_others take_free

  pub take_there : row (lists_of (set heads at (slice_index next (slice_index heads at - 1))) next) at ≡ first_node.behind
  take_there = there heads next (set heads at (slice_index next (slice_index heads at - 1))) next old (length-set heads at (slice_index next (slice_index heads at - 1))) refl
      at within first_node.behind take_here take_others take_free

  pub take_elsewhere : (p : ℕ) → p ≢ at → row (lists_of (set heads at (slice_index next (slice_index heads at - 1))) next) p ≡ row (lists_of heads next) p
  take_elsewhere = elsewhere heads next (set heads at (slice_index next (slice_index heads at - 1))) next old (length-set heads at (slice_index next (slice_index heads at - 1))) refl
      at within first_node.behind take_here take_others take_free

  pub taken_from : row (lists_of heads next) at ≡ (slice_index heads at - 1) ∷ row (lists_of (set heads at (slice_index next (slice_index heads at - 1))) next) at
  taken_from = first_node.whole ∙ ap (λ l. (slice_index heads at - 1) ∷ l) (sym take_there)

  pub taken_free : (p : ℕ) → has (row (lists_of (set heads at (slice_index next (slice_index heads at - 1))) next) p) (slice_index heads at - 1) ≡ false
  taken_free p = ⊎_elim
      (λ e. ap (λ k. has (row (lists_of (set heads at (slice_index next (slice_index heads at - 1))) next) k) (slice_index heads at - 1)) e
      ∙ ap (λ l. has l (slice_index heads at - 1)) take_there ∙ first_node.once)
      (λ off. ap (λ l. has l (slice_index heads at - 1)) (take_elsewhere p off) ∙ not_there p (slice_index heads at - 1) off first_in)
      (cases_eq p at)
