-- What has to be made before, by numbers and by names.
use Rattle.std.proofs.Common.{◌≡◌, ℕ, zero, suc, ◌<◌, ◌≤◌, ⊎_elim, ltb-true, Bool, true, false, ◌&&◌, ◌||◌, nat_lt, List, [], ◌∷◌, ◌++◌, length, map, filter, Option, Some, None, refl, sym, ap, subst, ◌∙◌, lt-ltb, append_assoc, true≢false}
use Rattle.std.specs.Prelude.{bytes_eq, is_some, option_map, slice_get, unwrap_or}
use Rattle.std.specs.List.{list_any, list_all}
use Rattle.std.proofs.lemmas.Bool.{and_from, and_parts, cases_lt}
use Rattle.std.proofs.lemmas.List.{map-append, get_or_past}
use Rattle.std.proofs.lemmas.List.Folds.{list_all-append}
use Rattle.mk_graph.specs.Edges.{row, is_closed, has as has_number}
use Rattle.mk_names.specs.Names.{name_at, has_name, added, all_added}
use Rattle.mk_graph.specs.Numbering.{AreDescribed}
use Rattle.mk_graph.proofs.CountedLemmas.{closed_from_below}
use Rattle.mk_graph.proofs.RowLemmas.{list_all-has}
use Rattle.mk_names.proofs.NameLemmas.{all_added-append, list_all-all_added, has_name_at, same_bytes, added_new}
use Rattle.mk_nodes.specs.Graph.{AreHard, AreRequired}
use Rattle.mk_edges.specs.Known.{IsKnown, listed_in}
use Rattle.mk_nodes.specs.Prerequisites.{Inputs, hard_of, hidden_of, is_node, order_only_of, prerequisites_of, required_of}
use Rattle.mk_edges.specs.Required.{has_others, names_in_row, IsRequiredRow}
use Rattle.mk_edges.specs.Rows.{EachRow}
use Rattle.mk_nodes.specs.declared.graph.Node.{Node}
use Rattle.mk_nodes.proofs.FreshLemmas.{added_fresh}
use Rattle.mk_edges.proofs.RowLaws.{known_at}
use Rattle.mk_edges.proofs.WaitLemmas.{are_below}

-- ---- numbers of names

module _ (names : List (List ℕ)) (whole : List (List ℕ)) (word : List ℕ) (left : List (List ℕ)) (numbers : List ℕ)
    (so : map (name_at names) numbers ++ filter (has_name names) (word ∷ left) ≡ whole) where
  pub number_more : has_name names word ≡ true → (n : ℕ) → name_at names n ≡ word → map (name_at names) (numbers ++ n ∷ []) ++ filter (has_name names) left ≡ whole
  number_more e n is =
      ap (λ l. l ++ filter (has_name names) left) (map-append (name_at names) numbers (n ∷ []) ∙ ap (λ w. map (name_at names) numbers ++ w ∷ []) is)
      ∙ append_assoc (map (name_at names) numbers) (word ∷ []) (filter (has_name names) left)
      ∙ sym (ap (λ l. map (name_at names) numbers ++ l) (kept e)) ∙ so
    where
      kept : has_name names word ≡ true → filter (has_name names) (word ∷ left) ≡ word ∷ filter (has_name names) left
      kept e = simp e refl

  pub number_past : has_name names word ≡ false → map (name_at names) numbers ++ filter (has_name names) left ≡ whole
  number_past e = sym (ap (λ l. map (name_at names) numbers ++ l) (gone e)) ∙ so
    where
      gone : has_name names word ≡ false → filter (has_name names) (word ∷ left) ≡ filter (has_name names) left
      gone e = simp e refl

pub below_more : (names : List (List ℕ)) (numbers : List ℕ) (n : ℕ) → are_below names numbers ≡ true → n < length names → are_below names (numbers ++ n ∷ []) ≡ true
below_more names numbers n all within =
    list_all-append (λ k. nat_lt k (length names)) numbers (n ∷ [])
    ∙ and_from (are_below names numbers) (nat_lt n (length names) && true) all (ap (λ b. b && true) (lt-ltb n (length names) within))

-- ---- names that all pass

module _ (p : List ℕ → Bool) where
  kept_at : (x : List ℕ) (xs : List (List ℕ)) → p x ≡ true → filter p xs ≡ xs → filter p (x ∷ xs) ≡ x ∷ xs
  kept_at x xs e more = simp e (ap (λ l. x ∷ l) more)

  all_kept : (xs : List (List ℕ)) → list_all p xs ≡ true → filter p xs ≡ xs
  all_kept [] all = refl
  all_kept (x ∷ xs) all =
      let parts = and_parts (p x) (list_all p xs) all in
      kept_at x xs parts.0 (all_kept xs parts.1)

  -- one that is among names that pass
  passes_at : (q : List ℕ) (x : List ℕ) (xs : List (List ℕ)) (t : Bool) → bytes_eq q x ≡ t → p x ≡ true → (has_name xs q ≡ true → p q ≡ true) →
      (t || has_name xs q) ≡ true → p q ≡ true
  passes_at q x xs true e first more is = ap p (same_bytes q x e) ∙ first
  passes_at q x xs false e first more is = more is

  passes : (xs : List (List ℕ)) (q : List ℕ) → list_all p xs ≡ true → has_name xs q ≡ true → p q ≡ true
  passes [] q all is = absurd (true≢false (sym is))
  passes (x ∷ xs) q all is =
      let parts = and_parts (p x) (list_all p xs) all in
      passes_at q x xs (bytes_eq q x) refl parts.0 (λ later. passes xs q parts.1 later) is

  fronts : (xs ys : List (List ℕ)) → list_all p (xs ++ ys) ≡ true → list_all p xs ≡ true
  fronts xs ys all = (and_parts (list_all p xs) (list_all p ys) (sym (list_all-append p xs ys) ∙ all)).0

  backs : (xs ys : List (List ℕ)) → list_all p (xs ++ ys) ≡ true → list_all p ys ≡ true
  backs xs ys all = (and_parts (list_all p xs) (list_all p ys) (sym (list_all-append p xs ys) ∙ all)).1

  added_passes : (xs : List (List ℕ)) (y : List ℕ) (t : Bool) → has_name xs y ≡ t → list_all p (added xs y) ≡ true → p y ≡ true
  added_passes xs y true e all = passes xs y (unchanged e all) e
    where
      unchanged : has_name xs y ≡ true → list_all p (added xs y) ≡ true → list_all p xs ≡ true
      unchanged e all = simp e at all
  added_passes xs y false e all =
      (and_parts (p y) true (backs xs (y ∷ []) (ap (list_all p) (sym (added_new xs y e)) ∙ all))).0

  -- where names with what is mentioned pass, both do
  pub names_pass : (xs ys : List (List ℕ)) → list_all p (all_added xs ys) ≡ true → list_all p xs ≡ true
  names_pass xs ys all = fronts xs _ (ap (list_all p) (sym (added_fresh xs ys)) ∙ all)

  pub mentioned_pass : (xs ys : List (List ℕ)) → list_all p (all_added xs ys) ≡ true → list_all p ys ≡ true
  mentioned_pass xs [] all = refl
  mentioned_pass xs (y ∷ ys) all =
      and_from (p y) (list_all p ys) (added_passes xs y (has_name xs y) refl (names_pass (added xs y) ys all)) (mentioned_pass (added xs y) ys all)

-- the names of numbers of names are among them
pub numbers_named : (names : List (List ℕ)) (ns : List ℕ) → are_below names ns ≡ true → list_all (has_name names) (map (name_at names) ns) ≡ true
numbers_named names [] all = refl
numbers_named names (n ∷ ns) all =
    let parts = and_parts (nat_lt n (length names)) (are_below names ns) all in
    and_from (has_name names (name_at names n)) (list_all (has_name names) (map (name_at names) ns)) (has_name_at names n (ltb-true n (length names) parts.0)) (numbers_named names ns parts.1)

-- what a name isn't made without is among its prerequisites
pub required_inside : (p : List ℕ → Bool) (inputs : Inputs) (name : List ℕ) → list_all p (prerequisites_of inputs name) ≡ true → list_all p (required_of inputs name) ≡ true
required_inside p inputs name all =
    let hard = hard_of inputs name in
    let hidden = filter (is_node inputs) (hidden_of inputs name) in
    let behind = order_only_of inputs name in
    let both = ap (list_all p) (sym (all_added-append hard hidden behind)) ∙ all in
    list_all-all_added p hard behind (names_pass p hard hidden (names_pass p (all_added hard hidden) behind both)) (mentioned_pass p (all_added hard hidden) behind both)

-- ---- the rows

same_some : {A : Type 0} {x y : A} → Some x ≡ Some y → x ≡ y
same_some e = cc

or_parts : (a b : Bool) → (a || b) ≡ false → (a ≡ false) × (b ≡ false)
or_parts true b e = cc
or_parts false b e = (refl, e)

pub required_here : (names hard : List (List ℕ)) (known : List Node) (k : ℕ) (found : Node) (r : List ℕ) → slice_get known k ≡ Some found →
    map (name_at names) r ≡ names_in_row names found (row hard k) → are_below names r ≡ true → IsRequiredRow names hard known k r
required_here names hard known k found r at are below = record {
  names_are = λ other other_at. are ∙ ap (λ f. names_in_row names f (row hard k)) (same_some (sym at ∙ other_at));
  below = below;
}

module _ (names : List (List ℕ)) (hard : List (List ℕ)) (known : List Node) (required : List (List ℕ)) (count : length required ≡ length names)
    (each : EachRow (IsRequiredRow names hard known) required) where
  pub closed_required : is_closed required ≡ true
  closed_required =
      closed_from_below required (λ n m there.
      ⊎_elim
      (λ (inside : n < length required). subst (λ k. m < k) (sym count) (ltb-true m (length names) (list_all-has (λ x. nat_lt x (length names)) (row required n) m (each n inside).below there)))
      (λ (past : length required ≤ n). absurd (true≢false (sym (subst (λ l. has_number l m ≡ true) (get_or_past required n [] past) there))))
      (cases_lt n (length required)))

no_other : {A : Type 0} (o : Option A) → is_some o ≡ false → o ≡ None
no_other None e = refl
no_other (Some x) e = cc

-- where none has others, the one at a place hasn't
none_at : (known : List Node) (n : ℕ) (k : Node) → list_any has_others known ≡ false → slice_get known n ≡ Some k → has_others k ≡ false
none_at [] n k none at = cc
none_at (x ∷ known) zero k none at = ap has_others (sym (same_some at)) ∙ (or_parts (has_others x) (list_any has_others known) none).0
none_at (x ∷ known) (suc n) k none at = none_at known n k (or_parts (has_others x) (list_any has_others known) none).1 at

module _ (inputs : Inputs) (names : List (List ℕ)) (hard : List (List ℕ)) (known : List Node) (count : length known ≡ length names)
    (described : AreDescribed (IsKnown inputs) names known) (are : AreHard inputs names hard) where
  in_row : (o : Option (List (List ℕ))) (h w : List (List ℕ)) → list_all (has_name names) w ≡ true → unwrap_or o h ≡ w → unwrap_or (option_map (filter (has_name names)) o) h ≡ w
  in_row None h w all e = e
  in_row (Some l) h w all e = ap (filter (has_name names)) e ∙ all_kept (has_name names) w all

  pub are_required : ((n : ℕ) → n < length names → list_all (has_name names) (prerequisites_of inputs (name_at names n)) ≡ true) →
      (required : List (List ℕ)) → length required ≡ length names → is_closed required ≡ true → EachRow (IsRequiredRow names hard known) required → AreRequired inputs names required
  are_required inside required nodes closed each = record {
    nodes = nodes;
    closed = closed;
    rows = λ n within.
        let name = name_at names n in
        let k = known_at known n (subst (λ l. n < l) (sym count) within) in
        let row_is = each n (subst (λ l. n < l) (sym nodes) within) in
        row_is.names_are k.0 k.1
        ∙ ap (λ h. unwrap_or (option_map (filter (has_name names)) (listed_in k.0)) h) (are.1 n within)
        ∙ in_row (listed_in k.0) (hard_of inputs name) (required_of inputs name) (required_inside (has_name names) inputs name (inside n within)) (described n k.0 k.1).required;
  }

  -- where none has others the hard ones are all
  pub none_required : is_closed hard ≡ true → list_any has_others known ≡ false → AreRequired inputs names hard
  none_required closed none = record {
    nodes = are.0;
    closed = closed;
    rows = λ n within.
        let name = name_at names n in
        let k = known_at known n (subst (λ l. n < l) (sym count) within) in
        are.1 n within
        ∙ ap (λ o. unwrap_or (option_map (λ l. l.value) o) (hard_of inputs name)) (sym (no_other k.0.rare.required (none_at known n k.0 none k.1)))
        ∙ (described n k.0 k.1).required;
  }
