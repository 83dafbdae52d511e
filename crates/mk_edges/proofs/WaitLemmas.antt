-- Groups of names and groups of their numbers.
use Rattle.std.proofs.Common.{◌≡◌, ℕ, ◌<◌, Bool, true, false, ◌&&◌, ◌||◌, nat_lt, nat_eq, List, [], ◌∷◌, ◌++◌, length, map, filter, refl, sym, ap, subst, ◌∙◌, ⊎_elim, arith, eq-eqb, ne_eqb, ltb-true, lt-ltb, true≢false, append_assoc, append-nil}
use Rattle.std.specs.Prelude.{bytes_eq, ◌==◌, Result, Ok, Err, OnOk}
use Rattle.std.specs.List.{list_any, list_all, flat_map, IsDistinct}
use Rattle.std.proofs.lemmas.Bool.{cases_order, and_parts, and_from, and_right, or_parts, or_from, or_cases}
use Rattle.std.proofs.lemmas.List.{map-append}
use Rattle.std.proofs.lemmas.List.Elements.{filter-append}
use Rattle.std.proofs.lemmas.List.Folds.{list_all-append}
use Rattle.std.proofs.lemmas.Map.Keys.{apart_from_distinct}
use Rattle.std.proofs.lemmas.Slice.Eq.{bytes_eq-Decides}
use Rattle.mk_graph.specs.Edges.{row, is_closed, has as has_number}
use Rattle.mk_names.specs.Names.{name_at, has_name}
use Rattle.mk_graph.specs.Waits.{all_of, waits}
use Rattle.mk_graph.proofs.CountedLemmas.{below_from_closed, closed_from_below}
use Rattle.mk_names.proofs.NameLemmas.{has_name_at}
use Rattle.mk_graph.proofs.RowLemmas.{list_all-has}
use Rattle.mk_profile.specs.declared.profile.Profile.{Profile}
use Rattle.mk_rule_lines.specs.Explicit.{is_wait, is_bar, before_bar, behind_bar, words_by}
use Rattle.mk_rule_lines.specs.declared.rule_line.RuleLine.{RuleLine}
use Rattle.mk_rule_lines.specs.Rules.{has, targets_by}
use Rattle.mk_nodes.specs.Waits.{before_first, groups_of, orders, waits_in, line_orders}
use Rattle.mk_rule_lines.proofs.NameLemmas.{bytes_eq-same}

-- a group that is begun, and the groups that go on with it
abbrev pub onto : {A : Type 0} (group : List A) (groups : List (List A)) → List (List A)
onto group [] = group ∷ []
onto group (g ∷ groups) = (group ++ g) ∷ groups

module _ (p : List ℕ → Bool) where
  -- the groups of some words, of which those count that pass
  abbrev pub groups_left : List (List ℕ) → List (List (List ℕ))
  groups_left words = map (filter p) (groups_of words)

  first_named : (begun : List (List ℕ)) (word : List ℕ) (groups : List (List (List ℕ))) → p word ≡ true →
      onto begun (map (filter p) (before_first word groups)) ≡ onto (begun ++ word ∷ []) (map (filter p) groups)
  first_named begun word [] e = simp e refl
  first_named begun word (g ∷ groups) e = simp e (ap (λ l. l ∷ map (filter p) groups) (sym (append_assoc begun (word ∷ []) (filter p g))))

  first_passed : (begun : List (List ℕ)) (word : List ℕ) (groups : List (List (List ℕ))) → p word ≡ false →
      onto begun (map (filter p) (before_first word groups)) ≡ onto begun (map (filter p) groups)
  first_passed begun word [] e = simp e (ap (λ l. l ∷ []) (append-nil begun))
  first_passed begun word (g ∷ groups) e = simp e refl

  begins : (word : List ℕ) (groups : List (List (List ℕ))) → onto [] (map (filter p) (before_first word groups)) ≡ map (filter p) (before_first word groups)
  begins word [] = refl
  begins word (g ∷ groups) = refl

  onto_none : (words : List (List ℕ)) → onto [] (groups_left words) ≡ groups_left words
  onto_none [] = refl
  onto_none (word ∷ words) = by (is_wait word) refl
    where
      by : (b : Bool) → is_wait word ≡ b → onto [] (groups_left (word ∷ words)) ≡ groups_left (word ∷ words)
      by true e = simp e refl
      by false e =
          let at : groups_of (word ∷ words) ≡ before_first word (groups_of words) = simp e refl in
          ap (λ gs. onto [] (map (filter p) gs)) at ∙ begins word (groups_of words) ∙ ap (map (filter p)) (sym at)

  -- a `.WAIT` ends a group
  pub at_wait : (done : List (List (List ℕ))) (begun : List (List ℕ)) (word : List ℕ) (left : List (List ℕ)) → is_wait word ≡ true →
      (done ++ begun ∷ []) ++ onto [] (groups_left left) ≡ done ++ onto begun (groups_left (word ∷ left))
  at_wait done begun word left e =
      let at : groups_of (word ∷ left) ≡ [] ∷ groups_of left = simp e refl in
      append_assoc done (begun ∷ []) (onto [] (groups_left left))
      ∙ ap (λ gs. done ++ begun ∷ gs) (onto_none left)
      ∙ ap (λ l. done ++ l ∷ groups_left left) (sym (append-nil begun))
      ∙ ap (λ gs. done ++ onto begun (map (filter p) gs)) (sym at)

  -- a name that counts joins the group
  pub at_name : (done : List (List (List ℕ))) (begun : List (List ℕ)) (word : List ℕ) (left : List (List ℕ)) → is_wait word ≡ false → p word ≡ true →
      done ++ onto (begun ++ word ∷ []) (groups_left left) ≡ done ++ onto begun (groups_left (word ∷ left))
  at_name done begun word left e named =
      let at : groups_of (word ∷ left) ≡ before_first word (groups_of left) = simp e refl in
      ap (λ gs. done ++ gs) (sym (first_named begun word (groups_of left) named)) ∙ ap (λ gs. done ++ onto begun (map (filter p) gs)) (sym at)

  -- another is passed over
  pub at_other : (done : List (List (List ℕ))) (begun : List (List ℕ)) (word : List ℕ) (left : List (List ℕ)) → is_wait word ≡ false → p word ≡ false →
      done ++ onto begun (groups_left left) ≡ done ++ onto begun (groups_left (word ∷ left))
  at_other done begun word left e passed =
      let at : groups_of (word ∷ left) ≡ before_first word (groups_of left) = simp e refl in
      ap (λ gs. done ++ gs) (sym (first_passed begun word (groups_of left) passed)) ∙ ap (λ gs. done ++ onto begun (map (filter p) gs)) (sym at)

  pub at_end : (done : List (List (List ℕ))) (begun : List (List ℕ)) → done ++ begun ∷ [] ≡ done ++ onto begun (groups_left [])
  at_end done begun = ap (λ l. done ++ l ∷ []) (sym (append-nil begun))

  passed_at : (q : List ℕ) (word : List ℕ) (words : List (List ℕ)) (b : Bool) → p word ≡ b → p q ≡ true → has q (filter p words) ≡ has q words →
      has q (filter p (word ∷ words)) ≡ has q (word ∷ words)
  passed_at q word words true is e more = simp is (ap (λ b. bytes_eq q word || b) more)
  passed_at q word words false is e more = simp is (more ∙ apart (bytes_eq q word) refl)
    where
      apart : (b : Bool) → bytes_eq q word ≡ b → has q words ≡ (b || has q words)
      apart true same = let w : p q ≡ p word = ap p (bytes_eq-same q word same) in cc
      apart false same = refl

  -- of groups where those count that pass, names that pass are ordered alike
  has_passed : (q : List ℕ) (words : List (List ℕ)) → p q ≡ true → has q (filter p words) ≡ has q words
  has_passed q [] e = refl
  has_passed q (word ∷ words) e = passed_at q word words (p word) refl e (has_passed q words e)

  flat_passed : (groups : List (List (List ℕ))) → flat_map (λ g. g) (map (filter p) groups) ≡ filter p (flat_map (λ g. g) groups)
  flat_passed [] = refl
  flat_passed (g ∷ groups) = ap (λ l. filter p g ++ l) (flat_passed groups) ∙ sym (filter-append p g (flat_map (λ g. g) groups))

  pub orders_passed : (groups : List (List (List ℕ))) (a b : List ℕ) → p a ≡ true → p b ≡ true → orders (map (filter p) groups) a b ≡ orders groups a b
  orders_passed [] a b ea eb = refl
  orders_passed (g ∷ groups) a b ea eb =
      ap (λ c. (c && has b (flat_map (λ g. g) (map (filter p) groups))) || orders (map (filter p) groups) a b) (has_passed a g ea)
      ∙ ap (λ l. (has a g && has b l) || orders (map (filter p) groups) a b) (flat_passed groups)
      ∙ ap (λ c. (has a g && c) || orders (map (filter p) groups) a b) (has_passed b (flat_map (λ g. g) groups) eb)
      ∙ ap (λ c. (has a g && has b (flat_map (λ g. g) groups)) || c) (orders_passed groups a b ea eb)

-- numbers below the number of names
abbrev pub are_below : (names : List (List ℕ)) (ns : List ℕ) → Bool
are_below names ns = list_all (λ n. nat_lt n (length names)) ns

module _ (names : List (List ℕ)) (distinct : IsDistinct bytes_eq names) where
  swapped : (a b : List ℕ) → bytes_eq b a ≡ false → bytes_eq a b ≡ false
  swapped a b e = by (bytes_eq a b) refl
    where
      by : (t : Bool) → bytes_eq a b ≡ t → bytes_eq a b ≡ false
      by true is = ap (λ x. bytes_eq x b) (bytes_eq-same a b is) ∙ ap (λ x. bytes_eq b x) (sym (bytes_eq-same a b is)) ∙ e
      by false is = is

  -- names are equal where their numbers are
  same_number : (k n : ℕ) → k < length names → n < length names → nat_eq k n ≡ bytes_eq (name_at names k) (name_at names n)
  same_number k n inside within =
      ⊎_elim
      (λ (e : k ≡ n). eq-eqb k n e ∙ sym ((bytes_eq-Decides (name_at names k) (name_at names n)).1 (ap (name_at names) e)))
      (λ apart.
      ⊎_elim
      (λ (lt : k < n). ne_eqb k n (λ e. omega (arith, lt, e)) ∙ sym (apart_from_distinct bytes_eq names k n [] distinct lt within))
      (λ (gt : n < k). ne_eqb k n (λ e. omega (arith, gt, e)) ∙ sym (swapped (name_at names k) (name_at names n) (apart_from_distinct bytes_eq names n k [] distinct gt inside)))
      apart)
      (cases_order k n)

  -- a number stands in a list where its name stands among the names
  pub has_named : (ns : List ℕ) (k : ℕ) → k < length names → are_below names ns ≡ true → has_number ns k ≡ has (name_at names k) (map (name_at names) ns)
  has_named [] k inside all = refl
  has_named (n ∷ ns) k inside all =
      let parts = and_parts (nat_lt n (length names)) (are_below names ns) all in
      ap (λ b. b || has_number ns k) (same_number k n inside (ltb-true n (length names) parts.0))
      ∙ ap (λ b. bytes_eq (name_at names k) (name_at names n) || b) (has_named ns k inside parts.1)

  flat_below : (groups : List (List ℕ)) → list_all (are_below names) groups ≡ true → are_below names (all_of groups) ≡ true
  flat_below [] all = refl
  flat_below (g ∷ groups) all =
      let parts = and_parts (are_below names g) (list_all (are_below names) groups) all in
      list_all-append (λ n. nat_lt n (length names)) g (all_of groups) ∙ and_from (are_below names g) (are_below names (all_of groups)) parts.0 (flat_below groups parts.1)

  flat_named : (groups : List (List ℕ)) → flat_map (λ g. g) (map (map (name_at names)) groups) ≡ map (name_at names) (all_of groups)
  flat_named [] = refl
  flat_named (g ∷ groups) = ap (λ l. map (name_at names) g ++ l) (flat_named groups) ∙ sym (map-append (name_at names) g (all_of groups))

  -- groups of numbers wait as the groups of their names are ordered
  waits_named : (groups : List (List ℕ)) (n m : ℕ) → n < length names → m < length names → list_all (are_below names) groups ≡ true →
      waits groups n m ≡ orders (map (map (name_at names)) groups) (name_at names m) (name_at names n)
  waits_named [] n m n_in m_in all = refl
  waits_named (g ∷ groups) n m n_in m_in all =
      let parts = and_parts (are_below names g) (list_all (are_below names) groups) all in
      ap (λ b. (b && has_number (all_of groups) n) || waits groups n m) (has_named g m m_in parts.0)
      ∙ ap (λ b. (has (name_at names m) (map (name_at names) g) && b) || waits groups n m) (has_named (all_of groups) n n_in (flat_below groups parts.1))
      ∙ ap (λ l. (has (name_at names m) (map (name_at names) g) && has (name_at names n) l) || waits groups n m) (sym (flat_named groups))
      ∙ ap (λ b. (has (name_at names m) (map (name_at names) g) && has (name_at names n) (flat_map (λ g. g) (map (map (name_at names)) groups))) || b) (waits_named groups n m n_in m_in parts.1)

  -- what groups by number say is what those by name say
  pub told_waits : (groups : List (List ℕ)) (told : List (List (List ℕ))) → list_all (are_below names) groups ≡ true →
      map (map (name_at names)) groups ≡ map (filter (has_name names)) told →
      (n m : ℕ) → n < length names → m < length names → waits groups n m ≡ orders told (name_at names m) (name_at names n)
  told_waits groups told all same n m n_in m_in =
      waits_named groups n m n_in m_in all
      ∙ ap (λ gs. orders gs (name_at names m) (name_at names n)) same
      ∙ orders_passed (has_name names) told (name_at names m) (name_at names n) (has_name_at names m m_in) (has_name_at names n n_in)

one_at : (w : List ℕ) (ws : List (List ℕ)) (t : Bool) → is_wait w ≡ t → (t || list_any is_wait ws) ≡ false → (list_any is_wait ws ≡ false → groups_of ws ≡ ws ∷ []) →
    groups_of (w ∷ ws) ≡ (w ∷ ws) ∷ []
one_at w ws true e none more = cc
one_at w ws false e none more =
    let at : groups_of (w ∷ ws) ≡ before_first w (groups_of ws) = simp e refl in
    at ∙ ap (before_first w) (more none)

-- without a `.WAIT` there is one group, which orders nothing
one : (ws : List (List ℕ)) → list_any is_wait ws ≡ false → groups_of ws ≡ ws ∷ []
one [] none = refl
one (w ∷ ws) none = one_at w ws (is_wait w) refl none (λ rest. one ws rest)

off : (c : Bool) → ((c && false) || false) ≡ false
off true = refl
off false = refl

pub one_group : (words : List (List ℕ)) → list_any is_wait words ≡ false → (a b : List ℕ) → orders (groups_of words) a b ≡ false
one_group words none a b = ap (λ gs. orders gs a b) (one words none) ∙ off (has a words)

-- nor is there one on either side of a bar
none_at : (profile : Profile) (w : List ℕ) (ws : List (List ℕ)) (b t : Bool) → is_bar profile w ≡ b → is_wait w ≡ t → (t || list_any is_wait ws) ≡ false →
    (list_any is_wait ws ≡ false → list_any is_wait (before_bar profile ws) ≡ false) → list_any is_wait (before_bar profile (w ∷ ws)) ≡ false
none_at profile w ws true t e is none more = simp e refl
none_at profile w ws false true e is none more = cc
none_at profile w ws false false e is none more = simp (e, is) (more none)

none_before : (profile : Profile) (ws : List (List ℕ)) → list_any is_wait ws ≡ false → list_any is_wait (before_bar profile ws) ≡ false
none_before profile [] none = refl
none_before profile (w ∷ ws) none = none_at profile w ws (is_bar profile w) (is_wait w) refl refl none (λ rest. none_before profile ws rest)

later_none : (t s : Bool) → (t || s) ≡ false → s ≡ false
later_none true s e = cc
later_none false s e = e

none_past : (profile : Profile) (w : List ℕ) (ws : List (List ℕ)) (b : Bool) → is_bar profile w ≡ b → list_any is_wait ws ≡ false →
    (list_any is_wait ws ≡ false → list_any is_wait (behind_bar profile ws) ≡ false) → list_any is_wait (behind_bar profile (w ∷ ws)) ≡ false
none_past profile w ws true e none more = simp e none
none_past profile w ws false e none more = simp e (more none)

none_behind : (profile : Profile) (ws : List (List ℕ)) → list_any is_wait ws ≡ false → list_any is_wait (behind_bar profile ws) ≡ false
none_behind profile [] none = refl
none_behind profile (w ∷ ws) none =
    none_past profile w ws (is_bar profile w) refl (later_none (is_wait w) (list_any is_wait ws) none) (λ rest. none_behind profile ws rest)

-- a line without a `.WAIT` orders nothing
pub no_orders : (l : RuleLine) → list_any is_wait l.prerequisites ≡ false → (a b : List ℕ) →
    (orders (groups_of (words_by false l)) a b || orders (groups_of (words_by true l)) a b) ≡ false
no_orders l none a b =
    ap (λ c. c || orders (groups_of (words_by true l)) a b) (one_group (words_by false l) (none_before l.profile l.prerequisites none) a b)
    ∙ one_group (words_by true l) (none_behind l.profile l.prerequisites none) a b

-- lines without a `.WAIT` order nothing
pub no_line_orders : (names suffixes : List (List ℕ)) (p q : List ℕ) (lines : List RuleLine) → list_any waits_in lines ≡ false → list_any (line_orders names suffixes p q) lines ≡ false
no_line_orders names suffixes p q [] none = refl
no_line_orders names suffixes p q (l ∷ ls) none =
    let parts = or_parts (waits_in l) (list_any waits_in ls) none in
    or_from (line_orders names suffixes p q l) (list_any (line_orders names suffixes p q) ls)
    (and_right (list_any (has_name names) (targets_by false suffixes l)) _ (no_orders l parts.0 p q))
    (no_line_orders names suffixes p q ls parts.1)

-- what is known of the groups so far, where some words are left
pub record GroupsGo (names : List (List ℕ)) (left words : List (List ℕ)) (groups : List (List ℕ)) (begun : List ℕ) : Type 0 where
  pub all : map (map (name_at names)) groups ++ onto (map (name_at names) begun) (groups_left (has_name names) left) ≡ groups_left (has_name names) words
  pub nodes : list_all (are_below names) groups ≡ true
  pub begun_nodes : are_below names begun ≡ true

module _ (names : List (List ℕ)) (words : List (List ℕ)) where
  pub groups_start : GroupsGo names words words [] []
  groups_start = record { all = onto_none (has_name names) words; nodes = refl; begun_nodes = refl }

  all_nodes : (groups : List (List ℕ)) (begun : List ℕ) → list_all (are_below names) groups ≡ true → are_below names begun ≡ true →
      list_all (are_below names) (groups ++ begun ∷ []) ≡ true
  all_nodes groups begun all last =
      list_all-append (are_below names) groups (begun ∷ [])
      ∙ and_from (list_all (are_below names) groups) (are_below names begun && true) all (ap (λ b. b && true) last)

  module _ (word : List ℕ) (left : List (List ℕ)) (groups : List (List ℕ)) (begun : List ℕ) (go : GroupsGo names (word ∷ left) words groups begun) where
    pub groups_end : is_wait word ≡ true → GroupsGo names left words (groups ++ begun ∷ []) []
    groups_end e = record {
      all = ap (λ gs. gs ++ onto [] (groups_left (has_name names) left)) (map-append (map (name_at names)) groups (begun ∷ []))
          ∙ at_wait (has_name names) (map (map (name_at names)) groups) (map (name_at names) begun) word left e ∙ go.all;
      nodes = all_nodes groups begun go.nodes go.begun_nodes;
      begun_nodes = refl;
    }

    pub groups_more : is_wait word ≡ false → (n : ℕ) → n < length names → name_at names n ≡ word → has_name names word ≡ true → GroupsGo names left words groups (begun ++ n ∷ [])
    groups_more e n within is named = record {
      all = ap (λ l. map (map (name_at names)) groups ++ onto l (groups_left (has_name names) left)) (map-append (name_at names) begun (n ∷ []) ∙ ap (λ w. map (name_at names) begun ++ w ∷ []) is)
          ∙ at_name (has_name names) (map (map (name_at names)) groups) (map (name_at names) begun) word left e named ∙ go.all;
      nodes = go.nodes;
      begun_nodes = list_all-append (λ k. nat_lt k (length names)) begun (n ∷ []) ∙ and_from (are_below names begun) (nat_lt n (length names) && true) go.begun_nodes (ap (λ b. b && true) (lt-ltb n (length names) within));
    }

    pub groups_past : is_wait word ≡ false → has_name names word ≡ false → GroupsGo names left words groups begun
    groups_past e unnamed = record {
      all = at_other (has_name names) (map (map (name_at names)) groups) (map (name_at names) begun) word left e unnamed ∙ go.all;
      nodes = go.nodes;
      begun_nodes = go.begun_nodes;
    }

  pub groups_done : (groups : List (List ℕ)) (begun : List ℕ) → GroupsGo names [] words groups begun →
      map (map (name_at names)) (groups ++ begun ∷ []) ≡ groups_left (has_name names) words
  groups_done groups begun go =
      map-append (map (name_at names)) groups (begun ∷ [])
      ∙ at_end (has_name names) (map (map (name_at names)) groups) (map (name_at names) begun) ∙ go.all

  pub groups_done_nodes : (left : List (List ℕ)) (groups : List (List ℕ)) (begun : List ℕ) → GroupsGo names left words groups begun →
      list_all (are_below names) (groups ++ begun ∷ []) ≡ true
  groups_done_nodes left groups begun go = all_nodes groups begun go.nodes go.begun_nodes

pub and_none : (b t : Bool) → t ≡ false → (b && t) ≡ false
and_none true t e = e
and_none false t e = refl

pub or_none : (b t : Bool) → t ≡ false → b ≡ (b || t)
or_none true t e = refl
or_none false t e = sym e

-- who waits for a node waits for one of the groups
waits_below : (groups : List (List ℕ)) (n m k : ℕ) → list_all (λ g. list_all (λ x. nat_lt x k) g) groups ≡ true → waits groups n m ≡ true → m < k
waits_below [] n m k all is = absurd (true≢false (sym is))
waits_below (g ∷ groups) n m k all is =
    let parts = and_parts (list_all (λ x. nat_lt x k) g) (list_all (λ h. list_all (λ x. nat_lt x k) h) groups) all in
    ⊎_elim
    (λ here. ltb-true m k (list_all-has (λ x. nat_lt x k) g m parts.0 (and_parts (has_number g m) (has_number (all_of groups) n) here).0))
    (λ later. waits_below groups n m k parts.1 later)
    (or_cases (has_number g m && has_number (all_of groups) n) (waits groups n m) is)

-- rows that wait besides for nodes are closed where they were
pub closed_waits : (old new groups : List (List ℕ)) → length new ≡ length old → list_all (λ g. list_all (λ x. nat_lt x (length old)) g) groups ≡ true →
    ((n m : ℕ) → has_number (row new n) m ≡ (has_number (row old n) m || waits groups n m)) → is_closed old ≡ true → is_closed new ≡ true
closed_waits old new groups same all members closed =
    closed_from_below new (λ n m is.
    subst (λ k. m < k) (sym same)
    (⊎_elim
    (λ was. below_from_closed old closed n m was)
    (λ waited. waits_below groups n m (length old) all waited)
    (or_cases (has_number (row old n) m) (waits groups n m) (sym (members n m) ∙ is))))

pub both_ok : {T E P Q R : Type 0} (r : Result T E) → (P → Q → R) → OnOk r P → OnOk r Q → OnOk r R
both_ok (Ok x) f p q = f p q
both_ok (Err e) f p q = p

-- ---- words that are no `.WAIT`

abbrev has_byte : (byte : ℕ) → List ℕ → Bool
has_byte byte = list_any (λ b. b == byte)

and_no : (a : Bool) → (a && false) ≡ false
and_no true = refl
and_no false = refl

no_wait_at : (word : List ℕ) → has_byte 87 word ≡ false → is_wait word ≡ false
no_wait_at [] none = refl
no_wait_at (b ∷ []) none = and_no (b == 46)
no_wait_at (b ∷ c ∷ bs) none =
    let behind = (or_parts (b == 87) (has_byte 87 (c ∷ bs)) none).1 in
    let no : (c == 87) ≡ false = (or_parts (c == 87) (has_byte 87 bs) behind).0 in
    simp no (and_no (b == 46))

-- words of which none has its second byte
pub no_wait : (words : List (List ℕ)) → list_any (has_byte 87) words ≡ false → list_any is_wait words ≡ false
no_wait [] none = refl
no_wait (word ∷ words) none =
    let parts = or_parts (has_byte 87 word) (list_any (has_byte 87) words) none in
    let no : is_wait word ≡ false = no_wait_at word parts.0 in
    simp no (no_wait words parts.1)
