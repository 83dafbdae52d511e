-- By the same inputs and goals there is one graph, as far as a plan reads it: its names, hard edges and order, and whether soft
-- edges count.
use Rattle.std.proofs.Common.{◌≡◌, ℕ, ◌<◌, ◌≤◌, Bool, true, false, not, ◌&&◌, ◌||◌, nat_eq, nat_lt, eq-eqb, List, [], ◌∷◌, ◌++◌, length, map, drop, get_or, Option, Some, None, inl, inr, refl, sym, ap, ◌∙◌, subst, ⊎_elim, true≢false, ltb-true}
use Rattle.std.specs.Prelude.{option_map, if◌then◌else◌}
use Rattle.std.specs.List.{list_all}
use Rattle.std.proofs.lemmas.Bool.{and_parts, and_from, cases_lt}
use Rattle.std.proofs.lemmas.List.{get_or_past, ext_get_or}
use Rattle.mk_graph.specs.Counted.{joined, counting, IsDropped}
use Rattle.mk_graph.specs.Cycle.{HasCycle}
use Rattle.mk_graph.specs.Edges.{row, has, is_closed}
use Rattle.mk_names.specs.Names.{name_at}
use Rattle.mk_graph.specs.Plan.{is_ready, IsPlanAfter}
use Rattle.mk_graph.proofs.CountedLemmas.{has-joined, HasCycle-wider, below_from_closed, length-counting}
use Rattle.mk_graph.proofs.CycleLemmas.{closed_row}
use Rattle.mk_graph.proofs.PlanLemmas.{one_plan_after}
use Rattle.mk_graph.proofs.RowLemmas.{list_all-has}
use Rattle.mk_settings.specs.Goals.{goals_of}
use Rattle.mk_nodes.specs.Graph.{IsGraph, AreEdges, AreHard, AreRequired, AreSoft, is_soft, required_in, counting_in, is_numbered}
use Rattle.mk_nodes.specs.Node.{EachHasOneNumber}
use Rattle.mk_nodes.specs.Prerequisites.{Inputs, prerequisites_of, hard_of, required_of}
use Rattle.mk_nodes.specs.declared.graph.Graph.{Graph}
use Rattle.mk_nodes.proofs.OneNumberingLemmas.{names_once}

-- ---- members alone decide

or_true : (b : Bool) → (b || true) ≡ true
or_true true = refl
or_true false = refl

both_ways : (a b : Bool) → (a ≡ true → b ≡ true) → (b ≡ true → a ≡ true) → a ≡ b
both_ways true true f g = refl
both_ways true false f g = sym (f refl)
both_ways false true f g = g refl
both_ways false false f g = refl

all_from_each : (p : ℕ → Bool) (ns : List ℕ) → ((m : ℕ) → has ns m ≡ true → p m ≡ true) → list_all p ns ≡ true
all_from_each p [] each = refl
all_from_each p (n ∷ ns) each =
    and_from (p n) (list_all p ns) (each n (ap (λ b. b || has ns n) (eq-eqb n n refl)))
    (all_from_each p ns (λ m there. each m (ap (λ b. nat_eq m n || b) there ∙ or_true (nat_eq m n))))

same_all : (p : ℕ → Bool) (ns ms : List ℕ) → ((m : ℕ) → has ns m ≡ has ms m) → list_all p ns ≡ list_all p ms
same_all p ns ms same =
    both_ways (list_all p ns) (list_all p ms)
    (λ all. all_from_each p ms (λ m there. list_all-has p ns m all (same m ∙ there)))
    (λ all. all_from_each p ns (λ m there. list_all-has p ms m all (sym (same m) ∙ there)))

module _ (g h : List (List ℕ)) (count : length g ≡ length h) (same : (n m : ℕ) → has (row g n) m ≡ has (row h n) m) where
  same_ready : (passed : List ℕ) (n : ℕ) → is_ready g passed n ≡ is_ready h passed n
  same_ready passed n =
      ap (λ l. nat_lt n l && (not (has passed n) && list_all (has passed) (row g n))) count
      ∙ ap (λ b. nat_lt n (length h) && (not (has passed n) && b)) (same_all (has passed) (row g n) (row h n) (same n))

  -- a plan of the one is a plan of the other
  plan_alike : (passed order : List ℕ) → IsPlanAfter g passed order → IsPlanAfter h passed order
  plan_alike passed [] none = λ n. sym (same_ready passed n) ∙ none n
  plan_alike passed (n ∷ order) (next, rest) = (
    record { ready = sym (same_ready passed n) ∙ next.ready; least = λ m below. sym (same_ready passed m) ∙ next.least m below },
    plan_alike (passed ++ n ∷ []) order rest,
  )

-- ---- numbers of distinct names are told apart by the names

module _ (names : List (List ℕ)) (one : EachHasOneNumber names) where
  abbrev are_below : List ℕ → Bool
  are_below ns = list_all (λ n. nat_lt n (length names)) ns

  pub same_numbers : (ns ms : List ℕ) → are_below ns ≡ true → are_below ms ≡ true → map (name_at names) ns ≡ map (name_at names) ms → ns ≡ ms
  same_numbers [] [] below_a below_b same = refl
  same_numbers [] (m ∷ ms) below_a below_b same = absurd cc
  same_numbers (n ∷ ns) [] below_a below_b same = absurd cc
  same_numbers (n ∷ ns) (m ∷ ms) below_a below_b same =
      let of_a = and_parts (nat_lt n (length names)) (are_below ns) below_a in
      let of_b = and_parts (nat_lt m (length names)) (are_below ms) below_b in
      let first : n ≡ m = one n m (ltb-true n (length names) of_a.0) (ltb-true m (length names) of_b.0) (ap (λ l. get_or l 0 []) same) in
      ap (λ k. k ∷ ns) first ∙ ap (λ l. m ∷ l) (same_numbers ns ms of_a.1 of_b.1 (ap (drop 1) same))

  some_name : (a b : List ℕ) → Some a ≡ Some b → a ≡ b
  some_name a b e = cc

  abbrev are_numbered : List (Option ℕ) → Bool
  are_numbered hs = list_all (is_numbered (length names)) hs

  same_hidden_one : (h k : Option ℕ) → is_numbered (length names) h ≡ true → is_numbered (length names) k ≡ true →
      option_map (name_at names) h ≡ option_map (name_at names) k → h ≡ k
  same_hidden_one None None is_h is_k same = refl
  same_hidden_one None (Some m) is_h is_k same = absurd cc
  same_hidden_one (Some n) None is_h is_k same = absurd cc
  same_hidden_one (Some n) (Some m) is_h is_k same =
      ap (λ k. Some k) (one n m (ltb-true n (length names) is_h) (ltb-true m (length names) is_k) (some_name (name_at names n) (name_at names m) same))

  pub same_hidden : (hs ks : List (Option ℕ)) → are_numbered hs ≡ true → are_numbered ks ≡ true →
      map (option_map (name_at names)) hs ≡ map (option_map (name_at names)) ks → hs ≡ ks
  same_hidden [] [] are_h are_k same = refl
  same_hidden [] (k ∷ ks) are_h are_k same = absurd cc
  same_hidden (h ∷ hs) [] are_h are_k same = absurd cc
  same_hidden (h ∷ hs) (k ∷ ks) are_h are_k same =
      let of_h = and_parts (is_numbered (length names) h) (are_numbered hs) are_h in
      let of_k = and_parts (is_numbered (length names) k) (are_numbered ks) are_k in
      let first : h ≡ k = same_hidden_one h k of_h.0 of_k.0 (ap (λ l. get_or l 0 None) same) in
      ap (λ x. x ∷ hs) first ∙ ap (λ l. k ∷ l) (same_hidden hs ks of_h.1 of_k.1 (ap (drop 1) same))

-- ---- one graph

-- the same edges make the same choice
module _ (g h s t : List (List ℕ)) (there : HasCycle g → HasCycle h) (back : HasCycle h → HasCycle g) (joined_there : HasCycle (joined g s) → HasCycle (joined h t))
    (joined_back : HasCycle (joined h t) → HasCycle (joined g s)) where
  one_choice : (d e : Bool) → IsDropped g s d → IsDropped h t e → d ≡ e
  one_choice true true of_d of_e = refl
  one_choice false false of_d of_e = refl
  one_choice true false of_d (inl none) = absurd (none (joined_there of_d.0))
  one_choice true false of_d (inr cycle) = absurd (of_d.1 (back cycle))
  one_choice false true (inl none) of_e = absurd (none (joined_back of_e.0))
  one_choice false true (inr cycle) of_e = absurd (of_e.1 (there cycle))

same_edges : (d : Bool) (g h s t : List (List ℕ)) → ((n m : ℕ) → has (row g n) m ≡ has (row h n) m) →
    ((n m : ℕ) → has (row (joined g s) n) m ≡ has (row (joined h t) n) m) →
    (n m : ℕ) → has (row (if d then g else joined g s) n) m ≡ has (row (if d then h else joined h t) n) m
same_edges true g h s t same same_joined = same
same_edges false g h s t same same_joined = same_joined

-- rows of the same edges have the same members
module _ (names : List (List ℕ)) (is_edge : (q p : List ℕ) → Bool) where
  wider : (a b : List (List ℕ)) → AreEdges names is_edge a → AreEdges names is_edge b → length a ≡ length names → is_closed a ≡ true →
      (n m : ℕ) → has (row a n) m ≡ true → has (row b n) m ≡ true
  wider a b of_a of_b count closed n m there =
      ⊎_elim
      (λ (inside : n < length a).
      let n_in : n < length names = subst (λ l. n < l) count inside in
      let m_in : m < length names = subst (λ l. m < l) count (below_from_closed a closed n m there) in
      of_b n m n_in m_in ∙ sym (of_a n m n_in m_in) ∙ there)
      (λ (past : length a ≤ n). absurd (true≢false (sym there ∙ ap (λ r. has r m) (get_or_past a n [] past))))
      (cases_lt n (length a))

  same_members : (a b : List (List ℕ)) → AreEdges names is_edge a → AreEdges names is_edge b → length a ≡ length names → length b ≡ length names →
      is_closed a ≡ true → is_closed b ≡ true → (n m : ℕ) → has (row a n) m ≡ has (row b n) m
  same_members a b of_a of_b count_a count_b closed_a closed_b n m =
      both_ways (has (row a n) m) (has (row b n) m) (wider a b of_a of_b count_a closed_a n m) (wider b a of_b of_a count_b closed_b n m)

-- the rows hold, by number, the names that belong to each name
abbrev AreRowsOf : (names : List (List ℕ)) → (of : List ℕ → List (List ℕ)) → List (List ℕ) → Type 0
AreRowsOf names of rows = (length rows ≡ length names) × ((n : ℕ) → n < length names → map (name_at names) (row rows n) ≡ of (name_at names n))

module _ (names : List (List ℕ)) (of : List ℕ → List (List ℕ)) (one : EachHasOneNumber names) (a b : List (List ℕ)) where
  -- one list of such rows
  same_rows : AreRowsOf names of a → AreRowsOf names of b → is_closed a ≡ true → is_closed b ≡ true → a ≡ b
  same_rows of_a of_b closed_a closed_b =
      ext_get_or [] a b (of_a.0 ∙ sym of_b.0)
      (λ n inside.
      let n_in : n < length names = subst (λ l. n < l) of_a.0 inside in
      same_numbers names one (row a n) (row b n)
      (ap (λ l. list_all (λ m. nat_lt m l) (row a n)) (sym of_a.0) ∙ closed_row a closed_a n inside)
      (ap (λ l. list_all (λ m. nat_lt m l) (row b n)) (sym of_b.0) ∙ closed_row b closed_b n (subst (λ l. n < l) (sym of_b.0) n_in))
      (of_a.1 n n_in ∙ sym (of_b.1 n n_in)))

module _ (inputs : Inputs) (named : List (List ℕ)) (a b : Graph) (is_a : IsGraph inputs named a) (is_b : IsGraph inputs named b) where
  pub one_names : a.names ≡ b.names
  one_names = names_once (prerequisites_of inputs) (goals_of inputs.lines named) a.names b.names is_a.names is_b.names

  pub one_count : length a.nodes.items ≡ length b.nodes.items
  one_count = is_a.nodes ∙ ap length one_names ∙ sym is_b.nodes

  pub one_hard : a.hard ≡ b.hard
  one_hard =
      same_rows a.names (hard_of inputs) a.distinct a.hard b.hard is_a.hard (subst (λ ns. AreHard inputs ns b.hard) (sym one_names) is_b.hard) a.hard_closed b.hard_closed

  required_of_b : AreRequired inputs a.names (required_in b)
  required_of_b = subst (λ ns. AreRequired inputs ns (required_in b)) (sym one_names) is_b.required

  one_required : required_in a ≡ required_in b
  one_required =
      same_rows a.names (required_of inputs) a.distinct (required_in a) (required_in b) (is_a.required.nodes, is_a.required.rows)
      (required_of_b.nodes, required_of_b.rows) is_a.required.closed required_of_b.closed

  required_same : (n m : ℕ) → has (row (required_in a) n) m ≡ has (row (required_in b) n) m
  required_same n m = ap (λ g. has (row g n) m) one_required

  soft_of_b : AreSoft inputs a.names b.soft
  soft_of_b = subst (λ ns. AreSoft inputs ns b.soft) (sym one_names) is_b.soft

  soft_same : (n m : ℕ) → has (row a.soft n) m ≡ has (row b.soft n) m
  soft_same =
      same_members a.names (is_soft inputs a.names) a.soft b.soft is_a.soft soft_of_b
      (a.soft_rows ∙ is_a.nodes) (b.soft_rows ∙ sym one_count ∙ is_a.nodes) a.soft_closed b.soft_closed

  joined_same : (n m : ℕ) → has (row (joined (required_in a) a.soft) n) m ≡ has (row (joined (required_in b) b.soft) n) m
  joined_same n m =
      has-joined (required_in a) a.soft (a.soft_rows ∙ sym a.required_rows) n m
      ∙ ap (λ t. t || has (row a.soft n) m) (required_same n m)
      ∙ ap (λ t. has (row (required_in b) n) m || t) (soft_same n m)
      ∙ sym (has-joined (required_in b) b.soft (b.soft_rows ∙ sym b.required_rows) n m)

  pub one_dropped : a.soft_dropped ≡ b.soft_dropped
  one_dropped =
      one_choice (required_in a) (required_in b) a.soft b.soft
      (HasCycle-wider (required_in a) (required_in b) (λ n m there. sym (required_same n m) ∙ there))
      (HasCycle-wider (required_in b) (required_in a) (λ n m there. required_same n m ∙ there))
      (HasCycle-wider (joined (required_in a) a.soft) (joined (required_in b) b.soft) (λ n m there. sym (joined_same n m) ∙ there))
      (HasCycle-wider (joined (required_in b) b.soft) (joined (required_in a) a.soft) (λ n m there. joined_same n m ∙ there))
      a.soft_dropped b.soft_dropped is_a.dropped is_b.dropped

  counting_as_many : length (counting_in a) ≡ length (counting_in b)
  counting_as_many =
      length-counting (required_in a) a.soft a.soft_dropped ∙ ap length one_required
      ∙ sym (length-counting (required_in b) b.soft b.soft_dropped)

  counting_same : (n m : ℕ) → has (row (counting_in a) n) m ≡ has (row (counting_in b) n) m
  counting_same n m =
      same_edges a.soft_dropped (required_in a) (required_in b) a.soft b.soft required_same joined_same n m
      ∙ ap (λ d. has (row (counting (required_in b) b.soft d) n) m) one_dropped

  pub one_order : a.order.items ≡ b.order.items
  one_order =
      one_plan_after (counting_in b) [] a.order.items b.order.items
      (plan_alike (counting_in a) (counting_in b) counting_as_many counting_same [] a.order.items is_a.order) is_b.order
