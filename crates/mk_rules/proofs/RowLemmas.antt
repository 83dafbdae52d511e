-- A row of numbers, to which one name more comes.
use Rattle.std.proofs.Common.{◌≡◌, ℕ, ◌<◌, Bool, true, false, cond, ◌||◌, nat_lt, List, [], ◌∷◌, ◌++◌, length, refl, sym, ap, ◌∙◌, subst, arith, lt-ltb, ltb-true, true≢false}
use Rattle.std.specs.List.{list_all, IsDistinct}
use Rattle.std.proofs.lemmas.Bool.{and_parts}
use Rattle.std.specs.Str.{bytes_eq}
use Rattle.std.proofs.lemmas.List.{length-map, map-append}
use Rattle.std.proofs.lemmas.List.Folds.{list_all-append}
use Rattle.mk_graph.specs.Edges.{has}
use Rattle.mk_names.specs.Names.{name_at, has_name, added, all_added}
use Rattle.mk_names.proofs.NameLemmas.{Begins, begins_added, length_from_begins, below_from_begins, row_from_begins, name_at-begins, all_added-append, has_name_at, distinct_all_added}
use Rattle.mk_graph.proofs.RowLemmas.{list_all-has}
use Rattle.mk_rules.specs.NodeNotes.{AreKnownNodes}
use Rattle.mk_rules.specs.Row.{named, IsRow, IsSomeRow}
use Rattle.mk_rule_lines.proofs.NameLemmas.{bytes_eq-same}
use Rattle.mk_edges.proofs.WaitLemmas.{has_named}

pub same_name : (a b : List ℕ) → bytes_eq a b ≡ true → a ≡ b
same_name a b same = bytes_eq-same a b same

-- the row that no name is in yet
pub row_start : (names : List (List ℕ)) → IsDistinct bytes_eq names → IsRow names names []
row_start names distinct = record { distinct = distinct; within = refl; names_are = refl }

-- ---- a name that has no number is in no row

name_without : (names : List (List ℕ)) (name : List ℕ) → has_name names name ≡ false → (numbers : List ℕ) → list_all (λ n. nat_lt n (length names)) numbers ≡ true →
    has_name (named names numbers) name ≡ false
name_without names name none [] within = refl
name_without names name none (n ∷ numbers) within =
    by (bytes_eq name (name_at names n)) refl
    (name_without names name none numbers (and_parts (nat_lt n (length names)) (list_all (λ m. nat_lt m (length names)) numbers) within).1)
  where
    inside : n < length names
    inside = ltb-true n (length names) (and_parts (nat_lt n (length names)) (list_all (λ m. nat_lt m (length names)) numbers) within).0

    by : (u : Bool) → bytes_eq name (name_at names n) ≡ u → has_name (named names numbers) name ≡ false → has_name (named names (n ∷ numbers)) name ≡ false
    by true f rest =
        let same : name ≡ name_at names n = bytes_eq-same name (name_at names n) f in
        absurd (true≢false (sym (ap (has_name names) same ∙ has_name_at names n inside) ∙ none))
    by false f rest = ap (λ (b : Bool). b || has_name (named names numbers) name) f ∙ rest

pub without_number : (names : List (List ℕ)) (numbers : List ℕ) (name : List ℕ) → IsSomeRow names numbers → has_name names name ≡ false → has_name (named names numbers) name ≡ false
without_number names numbers name row none = name_without names name none numbers row.1.within

-- a name is in a row where its number is
pub with_number : (names : List (List ℕ)) (numbers : List ℕ) (name : List ℕ) (n : ℕ) → IsSomeRow names numbers → n < length names → name_at names n ≡ name →
    has numbers n ≡ has_name (named names numbers) name
with_number names numbers name n row inside is =
    has_named names row.1.distinct numbers n inside row.1.within ∙ ap (has_name (named names numbers)) is

-- ---- one name more

module _ (names : List (List ℕ)) (numbers : List ℕ) (names' : List (List ℕ)) (numbers' : List ℕ) (name : List ℕ) (n : ℕ)
    (names_is : names' ≡ added names name) (inside : n < length names') (name_is : name_at names' n ≡ name)
    (numbers_is : numbers' ≡ cond (has numbers n) numbers (numbers ++ n ∷ [])) (start : List (List ℕ)) (row : IsRow start names numbers) where
  grown : Begins names names'
  grown = subst (Begins names) (sym names_is) (begins_added names name)

  distinct' : IsDistinct bytes_eq names'
  distinct' = subst (IsDistinct bytes_eq) (sym names_is) (distinct_all_added names (name ∷ []) row.distinct)

  within' : list_all (λ m. nat_lt m (length names')) numbers ≡ true
  within' = below_from_begins names names' numbers grown row.within

  same_named : named names' numbers ≡ named names numbers
  same_named = row_from_begins names names' numbers grown row.within

  pub has_is : has numbers n ≡ has_name (named names numbers) name
  has_is = has_named names' distinct' numbers n inside within' ∙ ap (has_name (named names' numbers)) name_is ∙ ap (λ l. has_name l name) same_named

  -- the number is in the row
  names_stay : has numbers n ≡ true → names' ≡ names
  names_stay there =
      let lt : n < length names = ltb-true n (length names) (list_all-has (λ m. nat_lt m (length names)) numbers n row.within there) in
      let known : has_name names name ≡ true = ap (has_name names) (sym name_is ∙ name_at-begins names names' n grown lt) ∙ has_name_at names n lt in
      names_is ∙ ap (λ (b : Bool). cond b names (names ++ name ∷ [])) known

  stays : has numbers n ≡ true → numbers' ≡ numbers
  stays there = numbers_is ∙ ap (λ (b : Bool). cond b numbers (numbers ++ n ∷ [])) there

  comes : has numbers n ≡ false → numbers' ≡ numbers ++ n ∷ []
  comes none = numbers_is ∙ ap (λ (b : Bool). cond b numbers (numbers ++ n ∷ [])) none

  named_comes : has numbers n ≡ false → named names' numbers' ≡ named names numbers ++ name ∷ []
  named_comes none =
      ap (named names') (comes none) ∙ map-append (name_at names') numbers (n ∷ [])
      ∙ ap (λ l. l ++ name_at names' n ∷ []) same_named ∙ ap (λ x. named names numbers ++ x ∷ []) name_is

  within_comes : has numbers n ≡ false → list_all (λ m. nat_lt m (length names')) numbers' ≡ true
  within_comes none =
      ap (list_all (λ m. nat_lt m (length names'))) (comes none) ∙ list_all-append (λ m. nat_lt m (length names')) numbers (n ∷ [])
      ∙ rw (within', lt-ltb n (length names') inside) refl

  by_named : (b : Bool) → has numbers n ≡ b → named names' numbers' ≡ added (named names numbers) name
  by_named true there =
      ap (named names') (stays there) ∙ same_named ∙ sym (ap (λ (b : Bool). cond b (named names numbers) (named names numbers ++ name ∷ [])) (sym has_is ∙ there))
  by_named false none =
      named_comes none ∙ sym (ap (λ (b : Bool). cond b (named names numbers) (named names numbers ++ name ∷ [])) (sym has_is ∙ none))

  pub named_more : named names' numbers' ≡ added (named names numbers) name
  named_more = by_named (has numbers n) refl

  by_row : (b : Bool) → has numbers n ≡ b → IsRow start names' numbers'
  by_row true there = record {
    distinct = distinct';
    within = ap (list_all (λ m. nat_lt m (length names'))) (stays there) ∙ within';
    names_are = names_stay there ∙ row.names_are ∙ ap (all_added start) (sym same_named ∙ ap (named names') (sym (stays there)));
  }
  by_row false none = record {
    distinct = distinct';
    within = within_comes none;
    names_are =
        names_is ∙ ap (λ l. added l name) row.names_are ∙ sym (all_added-append start (named names numbers) (name ∷ []))
        ∙ ap (all_added start) (sym (named_comes none));
  }

  pub row_more : IsRow start names' numbers'
  row_more = by_row (has numbers n) refl

-- a name that has a number is in its place among those that have one
pub added_known : (names : List (List ℕ)) (name : List ℕ) (n : ℕ) → n < length names → name_at names n ≡ name → names ≡ added names name
added_known names name n inside is =
    sym (ap (λ (b : Bool). cond b names (names ++ name ∷ [])) (sym (ap (has_name names) is) ∙ has_name_at names n inside))

-- what is known of names stays where one more comes
pub known_added : (is_node : List ℕ → Bool) (names names' : List (List ℕ)) (name : List ℕ) (marks : List Bool) → names' ≡ added names name →
    AreKnownNodes is_node names marks → AreKnownNodes is_node names' marks
known_added is_node names names' name marks is known = λ n marked.
    let begins : Begins names names' = subst (Begins names) (sym is) (begins_added names name) in
    let longer = length_from_begins names names' begins in
    let inside = (known n marked).0 in
    (omega (arith, inside, longer), ap is_node (name_at-begins names names' n begins inside) ∙ (known n marked).1)

-- as many numbers are in a row as there are names
pub row_count : (names : List (List ℕ)) (numbers : List ℕ) (mentioned : List (List ℕ)) → named names numbers ≡ all_added [] mentioned → length numbers ≡ length (all_added [] mentioned)
row_count names numbers mentioned is = sym (length-map numbers (name_at names)) ∙ ap length is
