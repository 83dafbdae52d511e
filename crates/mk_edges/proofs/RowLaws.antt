-- What the rows of numbered names say of the names.
use Rattle.std.proofs.Common.{arith, ◌≡◌, ℕ, ◌<◌, ◌≤◌, nat_eq, lt-ltb, suc, zero, true≢false, ⊎_elim, Bool, true, false, not, ◌&&◌, ◌||◌, cond, List, [], ◌∷◌, ◌++◌, length, map, take, drop, filter, get_or, append_assoc, Option, Some, None, refl, sym, ap, subst, ◌∙◌}
use Rattle.std.specs.Prelude.{option_map, slice_get, bytes_eq, nat_lt}
use Rattle.std.specs.List.{list_all, IsDistinct}
use Rattle.std.proofs.lemmas.List.{map-append, take-map, drop-map, length-map}
use Rattle.std.proofs.lemmas.Bool.{cases_lt, and_parts, and_from}
use Rattle.std.proofs.lemmas.List.{get_or_past, get_or-map}
use Rattle.std.proofs.lemmas.Option.{slice_get-get_or, slice_get_within}
use Rattle.mk_graph.specs.Edges.{row, is_closed, has as has_number}
use Rattle.mk_graph.proofs.CountedLemmas.{below_from_closed, closed_from_below}
use Rattle.mk_graph.proofs.CycleLemmas.{closed_row}
use Rattle.mk_graph.specs.Cycle.{IsChain, IsCycle}
use Rattle.std.proofs.lemmas.List.Folds.{list_all-append}
use Rattle.mk_names.specs.Names.{name_at, all_added}
use Rattle.mk_graph.specs.Numbering.{AreDescribed}
use Rattle.mk_nodes.specs.Graph.{judged, judged_name, is_numbered, AreHard, IsNode}
use Rattle.mk_edges.specs.Known.{IsKnown, nodes_among}
use Rattle.mk_nodes.specs.Prerequisites.{Inputs, prerequisites_of, waited_for, judged_of, hard_of, hidden_of, soft_names, is_node, order_only_of}
use Rattle.mk_nodes.specs.Hidden.{spread}
use Rattle.mk_nodes.specs.Node.{hidden_marks, hidden_by}
use Rattle.mk_edges.specs.Rows.{EachRow, IsHardRow, IsWaitedRow, IsSoftRow}
use Rattle.mk_rule_lines.specs.Rules.{has}
use Rattle.mk_nodes.specs.declared.graph.Node.{Node}
use Rattle.std.proofs.lemmas.Slice.Eq.{bytes_eq-Decides}
use Rattle.mk_edges.proofs.PartsLaws.{source_is, explicit_is}
use Rattle.mk_edges.proofs.WaitLemmas.{are_below, has_named}
use Rattle.mk_nodes.proofs.FreshLemmas.{fresh, fresh-append, added_fresh, front_added, behind_added, has_fresh, has_filtered, filter_fresh}

-- ---- a number for each that is a node

abbrev spread_names : (are_nodes : List Bool) (names : List (List ℕ)) → List (Option (List ℕ))
spread_names [] ns = []
spread_names (false ∷ bs) ns = None ∷ spread_names bs ns
spread_names (true ∷ bs) [] = None ∷ spread_names bs []
spread_names (true ∷ bs) (n ∷ ns) = Some n ∷ spread_names bs ns

map-spread : (f : ℕ → List ℕ) (bs : List Bool) (ns : List ℕ) → map (option_map f) (spread bs ns) ≡ spread_names bs (map f ns)
map-spread f [] ns = refl
map-spread f (false ∷ bs) ns = ap (λ l. None ∷ l) (map-spread f bs ns)
map-spread f (true ∷ bs) [] = ap (λ l. None ∷ l) (map-spread f bs [])
map-spread f (true ∷ bs) (n ∷ ns) = ap (λ l. Some (f n) ∷ l) (map-spread f bs ns)

abbrev if_node : (p : List ℕ → Bool) → List ℕ → Option (List ℕ)
if_node p q = cond (p q) (Some q) None

-- whatever stands behind them
module _ (p : List ℕ → Bool) (rest : List (List ℕ)) where
  spread_at : (x : List ℕ) (xs : List (List ℕ)) (b : Bool) → p x ≡ b → spread_names (map p xs) (filter p xs ++ rest) ≡ map (if_node p) xs →
      spread_names (map p (x ∷ xs)) (filter p (x ∷ xs) ++ rest) ≡ map (if_node p) (x ∷ xs)
  spread_at x xs true e more = simp e (ap (λ l. Some x ∷ l) more)
  spread_at x xs false e more = simp e (ap (λ l. None ∷ l) more)

  spread-filter : (xs : List (List ℕ)) → spread_names (map p xs) (filter p xs ++ rest) ≡ map (if_node p) xs
  spread-filter [] = refl
  spread-filter (x ∷ xs) = spread_at x xs (p x) refl (spread-filter xs)

has_first : (name : List ℕ) (left : List (List ℕ)) → has name (name ∷ left) ≡ true
has_first name left = let same : bytes_eq name name ≡ true = (bytes_eq-Decides name name).1 refl in simp same refl

or_later : (b c : Bool) → c ≡ true → (b || c) ≡ true
or_later true c e = refl
or_later false c e = e

module _ (inputs : Inputs) (hard : List (List ℕ)) where
  judged_at : (q : List ℕ) (b : Bool) → has q hard ≡ b → not b ≡ true → judged_name inputs hard q ≡ if_node (is_node inputs) q
  judged_at q true e gone = cc
  judged_at q false e gone = simp e refl

  -- behind the hard ones each is judged by whether it is a node
  behind_judged : (xs : List (List ℕ)) → ((q : List ℕ) → has q xs ≡ true → not (has q hard) ≡ true) → map (judged_name inputs hard) xs ≡ map (if_node (is_node inputs)) xs
  behind_judged [] new = refl
  behind_judged (x ∷ xs) new =
      ap (λ o. o ∷ map (judged_name inputs hard) xs) (judged_at x (has x hard) refl (new x (has_first x xs)))
      ∙ ap (λ l. if_node (is_node inputs) x ∷ l) (behind_judged xs (λ q is. new q (or_later (bytes_eq q x) (has q xs) is)))

  hard_judged : (xs : List (List ℕ)) → ((q : List ℕ) → has q xs ≡ true → has q hard ≡ true) → map (judged_name inputs hard) xs ≡ map Some xs
  hard_judged [] inside = refl
  hard_judged (x ∷ xs) inside =
      let here : has x hard ≡ true = inside x (has_first x xs) in
      ap (λ o. o ∷ map (judged_name inputs hard) xs) (ap (λ b. cond (b || is_node inputs x) (Some x) None) here)
      ∙ ap (λ l. Some x ∷ l) (hard_judged xs (λ q is. inside q (or_later (bytes_eq q x) (has q xs) is)))

-- ---- a node's row

map-some : (f : ℕ → List ℕ) (ns : List ℕ) → map (option_map f) (map Some ns) ≡ map Some (map f ns)
map-some f [] = refl
map-some f (n ∷ ns) = ap (λ l. Some (f n) ∷ l) (map-some f ns)

and_second : (a b : Bool) → (a && b) ≡ true → b ≡ true
and_second true b e = e
and_second false b e = cc

module _ (inputs : Inputs) (names : List (List ℕ)) (name : List ℕ) (k : Node) (is : IsKnown inputs name k) (r : List ℕ)
    (row_is : map (name_at names) r ≡ prerequisites_of inputs name) where
  abbrev passed : List (List ℕ)
  passed = waited_for inputs name

  abbrev present : List (List ℕ)
  present = filter (is_node inputs) (hidden_of inputs name)

  -- the order-only ones that are new behind all others
  abbrev rest : List (List ℕ)
  rest = fresh (all_added (hard_of inputs name) present) (order_only_of inputs name)

  -- its front is that of the hard prerequisites
  pub hard_names : map (name_at names) (take k.hard r) ≡ hard_of inputs name
  hard_names = sym (take-map (name_at names) k.hard r) ∙ ap (take k.hard) row_is ∙ ap (λ n. take n (prerequisites_of inputs name)) is.hard ∙ front_added (hard_of inputs name) passed

  behind_names : map (name_at names) (drop k.hard r) ≡ fresh (hard_of inputs name) passed
  behind_names = sym (drop-map (name_at names) k.hard r) ∙ ap (drop k.hard) row_is ∙ ap (λ n. drop n (prerequisites_of inputs name)) is.hard ∙ behind_added (hard_of inputs name) passed

  -- what is behind is what it waits for besides
  pub soft_members : (q : List ℕ) → has q (map (name_at names) (drop k.hard r)) ≡ has q (soft_names inputs name)
  soft_members q =
      ap (has q) behind_names ∙ has_fresh (hard_of inputs name) q passed
      ∙ sym (has_filtered (λ h. not (has h (hard_of inputs name))) q passed)

  known_nodes : hidden_marks k ≡ map (is_node inputs) (fresh (hard_of inputs name) (hidden_of inputs name))
  known_nodes =
      is.hidden ∙ ap (λ n. nodes_among inputs n (judged_of inputs name)) is.hard
      ∙ ap (map (is_node inputs)) (behind_added (hard_of inputs name) (hidden_of inputs name))

  -- whatever stands behind them
  module _ (behind : List ℕ) where
    abbrev soft : List ℕ
    soft = drop k.hard r ++ behind

    gone_or_not : map (name_at names) soft ≡ filter (is_node inputs) (fresh (hard_of inputs name) (hidden_of inputs name)) ++ (rest ++ map (name_at names) behind)
    gone_or_not =
        map-append (name_at names) (drop k.hard r) behind
        ∙ ap (λ l. l ++ map (name_at names) behind)
        (behind_names ∙ fresh-append (hard_of inputs name) present (order_only_of inputs name)
        ∙ ap (λ l. l ++ rest) (sym (filter_fresh (is_node inputs) (hard_of inputs name) (hidden_of inputs name))))
        ∙ append_assoc (filter (is_node inputs) (fresh (hard_of inputs name) (hidden_of inputs name))) rest (map (name_at names) behind)

    -- the prerequisites as they are judged
    pub judged_names : map (option_map (name_at names)) (judged (take k.hard r) (hidden_by k soft)) ≡ map (judged_name inputs (hard_of inputs name)) (judged_of inputs name)
    judged_names =
        let new = fresh (hard_of inputs name) (hidden_of inputs name) in
        map-append (option_map (name_at names)) (map Some (take k.hard r)) (hidden_by k soft)
        ∙ ap (λ l. l ++ map (option_map (name_at names)) (hidden_by k soft)) (map-some (name_at names) (take k.hard r) ∙ ap (map Some) hard_names)
        ∙ ap (λ l. map Some (hard_of inputs name) ++ l)
        (map-spread (name_at names) (hidden_marks k) soft
        ∙ ap (λ l. spread_names (hidden_marks k) l) gone_or_not
        ∙ ap (λ bs. spread_names bs (filter (is_node inputs) new ++ (rest ++ map (name_at names) behind))) known_nodes
        ∙ spread-filter (is_node inputs) (rest ++ map (name_at names) behind) new
        ∙ sym (behind_judged inputs (hard_of inputs name) new (λ q there. and_second (has q (hidden_of inputs name)) (not (has q (hard_of inputs name))) (sym (has_fresh (hard_of inputs name) q (hidden_of inputs name)) ∙ there))))
        ∙ ap (λ l. l ++ map (judged_name inputs (hard_of inputs name)) new) (sym (hard_judged inputs (hard_of inputs name) (hard_of inputs name) (λ q there. there)))
        ∙ sym (map-append (judged_name inputs (hard_of inputs name)) (hard_of inputs name) new)
        ∙ ap (map (judged_name inputs (hard_of inputs name))) (sym (added_fresh (hard_of inputs name) (hidden_of inputs name)))

-- ---- rows whose numbers stand in other rows

has_later_number : (b : Bool) (xs : List ℕ) (m : ℕ) → has_number xs m ≡ true → (b || has_number xs m) ≡ true
has_later_number true xs m e = refl
has_later_number false xs m e = e

take_at : (b : Bool) (front xs : List ℕ) (m : ℕ) → (has_number front m ≡ true → has_number xs m ≡ true) → (b || has_number front m) ≡ true → (b || has_number xs m) ≡ true
take_at true front xs m more is = refl
take_at false front xs m more is = more is

has_take : (k : ℕ) (xs : List ℕ) (m : ℕ) → has_number (take k xs) m ≡ true → has_number xs m ≡ true
has_take zero xs m is = absurd (true≢false (sym is))
has_take (suc k) [] m is = is
has_take (suc k) (x ∷ xs) m is = take_at (nat_eq m x) (take k xs) xs m (λ there. has_take k xs m there) is

has_drop : (k : ℕ) (xs : List ℕ) (m : ℕ) → has_number (drop k xs) m ≡ true → has_number xs m ≡ true
has_drop zero xs m is = is
has_drop (suc k) [] m is = is
has_drop (suc k) (x ∷ xs) m is = has_later_number (nat_eq m x) xs m (has_drop k xs m is)

-- rows of which each holds numbers of the row with its number
closed_within : (g rows : List (List ℕ)) → length rows ≡ length g → ((n m : ℕ) → n < length rows → has_number (row rows n) m ≡ true → has_number (row g n) m ≡ true) →
    is_closed g ≡ true → is_closed rows ≡ true
closed_within g rows same within closed =
    closed_from_below rows (λ n m there.
    ⊎_elim
    (λ (inside : n < length rows). subst (λ k. m < k) (sym same) (below_from_closed g closed n m (within n m inside there)))
    (λ (past : length rows ≤ n). absurd (true≢false (sym (subst (λ l. has_number l m ≡ true) (get_or_past rows n [] past) there))))
    (cases_lt n (length rows)))

abbrev pub IsRead : (known : List Node) (n : ℕ) → Type 0
IsRead known n = (k : Node) × (slice_get known n ≡ Some k)

-- there is something known of each number below
pub known_at : (known : List Node) (n : ℕ) → n < length known → IsRead known n
known_at [] n within = absurd (omega arith)
known_at (k ∷ known) n within = (get_or (k ∷ known) n k, slice_get-get_or (k ∷ known) n k within)

pub closed_hard : (g : List (List ℕ)) (known : List Node) (hard : List (List ℕ)) → length g ≡ length known → length hard ≡ length known →
    EachRow (IsHardRow g known) hard → is_closed g ≡ true → is_closed hard ≡ true
closed_hard g known hard rows count each closed =
    closed_within g hard (count ∙ sym rows) (λ n m inside there.
    let k = known_at known n (subst (λ l. n < l) count inside) in
    has_take k.0.hard (row g n) m (subst (λ l. has_number l m ≡ true) (each n inside k.0 k.1) there)) closed

pub closed_waited : (g : List (List ℕ)) (known : List Node) (hidden : List (List ℕ)) → length g ≡ length known → length hidden ≡ length known →
    EachRow (IsWaitedRow g known) hidden → is_closed g ≡ true → is_closed hidden ≡ true
closed_waited g known hidden rows count each closed =
    closed_within g hidden (count ∙ sym rows) (λ n m inside there.
    let k = known_at known n (subst (λ l. n < l) count inside) in
    has_drop k.0.hard (row g n) m (subst (λ l. has_number l m ≡ true) (each n inside k.0 k.1) there)) closed

-- ---- the rows of a graph's names

module _ (inputs : Inputs) (names : List (List ℕ)) (g : List (List ℕ)) (known : List Node) (rows_are : map (map (name_at names)) g ≡ map (prerequisites_of inputs) names)
    (described : AreDescribed (IsKnown inputs) names known) (count : length known ≡ length names) where
  pub rows_count : length g ≡ length names
  rows_count = sym (length-map g (map (name_at names))) ∙ ap length rows_are ∙ length-map names (prerequisites_of inputs)

  pub row_at : (n : ℕ) → n < length names → map (name_at names) (row g n) ≡ prerequisites_of inputs (name_at names n)
  row_at n within =
      sym (get_or-map (map (name_at names)) g n [] [] (subst (λ l. n < l) (sym rows_count) within))
      ∙ ap (λ (rs : List (List (List ℕ))). get_or rs n []) rows_are
      ∙ get_or-map (prerequisites_of inputs) names n [] [] within

  -- the hard rows
  pub are_hard : (hard : List (List ℕ)) → length hard ≡ length known → EachRow (IsHardRow g known) hard → AreHard inputs names hard
  are_hard hard rows each = (
    rows ∙ count,
    λ n within.
        let k = known_at known n (subst (λ l. n < l) (sym count) within) in
        ap (map (name_at names)) (each n (subst (λ l. n < l) (sym (rows ∙ count)) within) k.0 k.1)
        ∙ hard_names inputs names (name_at names n) k.0 (described n k.0 k.1) (row g n) (row_at n within),
  )

  -- the rows of what is waited for besides
  pub are_waited : (hidden : List (List ℕ)) → length hidden ≡ length known → EachRow (IsWaitedRow g known) hidden → is_closed g ≡ true → IsDistinct bytes_eq names →
      (n m : ℕ) → n < length names → m < length names → has_number (row hidden n) m ≡ has (name_at names m) (soft_names inputs (name_at names n))
  are_waited hidden rows each closed distinct n m n_in m_in =
      let k = known_at known n (subst (λ l. n < l) (sym count) n_in) in
      let inside : n < length hidden = subst (λ l. n < l) (sym (rows ∙ count)) n_in in
      let all = closed_waited g known hidden (rows_count ∙ sym count) rows each closed in
      let below : are_below names (row hidden n) ≡ true = ap (λ l. list_all (λ x. nat_lt x l) (row hidden n)) (sym (rows ∙ count)) ∙ closed_row hidden all n inside in
      has_named names distinct (row hidden n) m m_in below
      ∙ ap (λ r. has (name_at names m) (map (name_at names) r)) (each n inside k.0 k.1)
      ∙ soft_members inputs names (name_at names n) k.0 (described n k.0 k.1) (row g n) (row_at n n_in) (name_at names m)

-- ---- the numbers of hidden prerequisites

abbrev are_all_below : (count : ℕ) → List ℕ → Bool
are_all_below count ns = list_all (λ n. nat_lt n count) ns

spread_numbered : (count : ℕ) (bs : List Bool) (ns : List ℕ) → are_all_below count ns ≡ true → list_all (is_numbered count) (spread bs ns) ≡ true
spread_numbered count [] ns all = refl
spread_numbered count (false ∷ bs) ns all = spread_numbered count bs ns all
spread_numbered count (true ∷ bs) [] all = spread_numbered count bs [] refl
spread_numbered count (true ∷ bs) (n ∷ ns) all =
    let parts = and_parts (nat_lt n count) (are_all_below count ns) all in
    and_from (nat_lt n count) (list_all (is_numbered count) (spread bs ns)) parts.0 (spread_numbered count bs ns parts.1)

-- ---- what a graph is put together from

chain_below : (g : List (List ℕ)) → is_closed g ≡ true → (n : ℕ) (ms : List ℕ) → IsChain g n ms → list_all (λ m. nat_lt m (length g)) ms ≡ true
chain_below g closed n [] chain = refl
chain_below g closed n (m ∷ ms) chain =
    and_from (nat_lt m (length g)) (list_all (λ k. nat_lt k (length g)) ms) (lt-ltb m (length g) (below_from_closed g closed n m chain.0)) (chain_below g closed m ms chain.1)

-- the nodes of a cycle are nodes of the graph
pub cycle_below : (g : List (List ℕ)) → is_closed g ≡ true → (cycle : List ℕ) → IsCycle g cycle → list_all (λ m. nat_lt m (length g)) cycle ≡ true
cycle_below g closed cycle is =
    let behind = chain_below g closed is.first (is.between ++ is.first ∷ []) is.chain in
    let parts = and_parts (list_all (λ m. nat_lt m (length g)) is.between) (nat_lt is.first (length g) && true)
    (sym (list_all-append (λ m. nat_lt m (length g)) is.between (is.first ∷ [])) ∙ behind) in
    let first = and_parts (nat_lt is.first (length g)) true parts.1 in
    ap (list_all (λ m. nat_lt m (length g))) is.whole ∙ and_from (nat_lt is.first (length g)) (list_all (λ m. nat_lt m (length g)) (is.between ++ is.first ∷ [])) first.0 behind

module _ (inputs : Inputs) (names : List (List ℕ)) (g : List (List ℕ)) (known : List Node) (rows_are : map (map (name_at names)) g ≡ map (prerequisites_of inputs) names)
    (described : AreDescribed (IsKnown inputs) names known) (count : length known ≡ length names) where
  -- the nodes by their rows of hard prerequisites and of what they wait for besides
  pub nodes_are : (hard : List (List ℕ)) → length hard ≡ length known → EachRow (IsHardRow g known) hard →
      (soft : List (List ℕ)) → length soft ≡ length known → EachRow (IsSoftRow g known) soft → is_closed soft ≡ true →
      (n : ℕ) (node : Node) → slice_get known n ≡ Some node → IsNode inputs names (row hard n) (row soft n) (name_at names n) node
  nodes_are hard rows each soft soft_rows each_soft closed n node at =
      let is = described n node at in
      let within : n < length known = slice_get_within known n node at in
      let n_in : n < length names = subst (λ l. n < l) count within in
      let name = name_at names n in
      let row_is : map (name_at names) (row hard n) ≡ hard_of inputs name = (are_hard inputs names g known rows_are described count hard rows each).1 n n_in in
      let hard_is : row hard n ≡ take node.hard (row g n) = each n (subst (λ l. n < l) (sym rows) within) node at in
      let inside : n < length soft = subst (λ l. n < l) (sym soft_rows) within in
      let begins = each_soft n inside node at in
      record {
        stamp = is.stamp;
        stem = is.stem;
        implied = is.implied;
        source = source_is inputs names name node.rare.implied is.implied (row hard n) row_is;
        explicit = explicit_is inputs names name node.rare.implied is.implied (row hard n) row_is;
        recipe = is.recipe;
        group = is.group;
        prerequisites =
            ap (λ r. map (option_map (name_at names)) (judged r (hidden_by node (row soft n)))) hard_is
            ∙ ap (λ r. map (option_map (name_at names)) (judged (take node.hard (row g n)) (hidden_by node r))) begins.1
            ∙ judged_names inputs names name node is (row g n) (row_at inputs names g known rows_are described count n n_in) begins.0;
        numbered =
            spread_numbered (length names) (hidden_marks node) (row soft n)
            (ap (λ l. are_all_below l (row soft n)) (sym (soft_rows ∙ count)) ∙ closed_row soft closed n inside);
      }
