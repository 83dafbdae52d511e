-- Words put in order.
use Rattle.std.proofs.Common.{◌≡◌, ℕ, ◌||◌, Bool, true, false, List, [], ◌∷◌, map, refl, sym, ap, ◌∙◌, bytes_eq, Bor, BTreeSet}
use Rattle.std.specs.declared.cmp.Ordering.TheVariants.{Less}
use Rattle.std.specs.Ordering.{nat_cmp}
use Rattle.std.specs.List.{AllByRecursion, list_any}
use Rattle.std.specs.List.Sorted.{IsStrictlySortedBy}
use Rattle.std.specs.Cmp.Lexicographic.{slice_cmp}
use Rattle.std.specs.BTreeMap.{is_at}
use Rattle.std.specs.BTreeSet.{insert_key}
use Rattle.std.proofs.lemmas.Cmp.{nat_list_cmp_total}
use Rattle.std.proofs.lemmas.Map.Lookups.{exact_bytes, btree_set_from_contains}
use Rattle.std.proofs.lemmas.Map.Text.{is_eq-slice_cmp}
use Rattle.mk_words.specs.Sorted.{is_among, IsSortOf}
use Rattle.mk_words.proofs.KeyLemmas.{by_bytes, or_assoc, or_turn, any_more}

abbrev pub bytes_at : Bor (List ℕ) → List ℕ
bytes_at word = word.now

module _ {K : Type 0} (view : K → List ℕ) where
  less_view : (word : List ℕ) (ks : List K) → AllByRecursion (λ k. slice_cmp nat_cmp word (view k) ≡ Less) ks → AllByRecursion (λ k. slice_cmp nat_cmp word k ≡ Less) (map view ks)
  less_view word [] h = tt
  less_view word (k ∷ ks) h = (h.0, less_view word ks h.1)

  -- keys that stand in order of what they are seen as
  pub sorted_view : (ks : List K) → IsStrictlySortedBy (by_bytes view) ks → IsStrictlySortedBy (slice_cmp nat_cmp) (map view ks)
  unfolding IsStrictlySortedBy
  sorted_view [] h = tt
  sorted_view (k ∷ ks) h = (less_view (view k) ks h.0, sorted_view ks h.1)

  -- a word more
  pub among-more : (ks new : List K) (k : K) (word : List ℕ) (left more all : List (List ℕ)) → left ≡ word ∷ more → view k ≡ word → new ≡ insert_key (by_bytes view) ks k →
      ((w : List ℕ) → (is_among (map view ks) w || is_among left w) ≡ is_among all w) →
      (w : List ℕ) → (is_among (map view new) w || is_among more w) ≡ is_among all w
  among-more ks new k word left more all at is e gathered w =
      ap (λ b. b || is_among more w) (any_more view ks new k e w)
      ∙ or_assoc (bytes_eq w (view k)) (is_among (map view ks) w) (is_among more w)
      ∙ or_turn (bytes_eq w (view k)) (is_among (map view ks) w) (is_among more w)
      ∙ ap (λ v. is_among (map view ks) w || (bytes_eq w v || is_among more w)) is
      ∙ ap (λ ws. is_among (map view ks) w || is_among ws w) (sym at)
      ∙ gathered w

or_nothing : (a : Bool) → (a || false) ≡ a
or_nothing true = refl
or_nothing false = refl

pub sort-all : (sorted left all : List (List ℕ)) → left ≡ [] → ((w : List ℕ) → (is_among sorted w || is_among left w) ≡ is_among all w) →
    IsStrictlySortedBy (slice_cmp nat_cmp) sorted → IsSortOf all sorted
sort-all sorted left all none gathered in_order =
    record { in_order = in_order; same_words = λ w. sym (or_nothing (is_among sorted w)) ∙ ap (λ ws. is_among sorted w || is_among ws w) (sym none) ∙ gathered w }

found_as : (word : List ℕ) (ks : List (List ℕ)) → list_any (is_at (slice_cmp nat_cmp word)) ks ≡ is_among ks word
found_as word [] = refl
found_as word (k ∷ ks) =
    ap (λ b. b || list_any (is_at (slice_cmp nat_cmp word)) ks) (is_eq-slice_cmp word k) ∙ ap (λ b. bytes_eq word k || b) (found_as word ks)

-- words have one such order
pub one_sort : (ws a b : List (List ℕ)) → IsSortOf ws a → IsSortOf ws b → a ≡ b
one_sort ws a b h k =
    let one : BTreeSet (List ℕ) = record { keys = a } in
    let other : BTreeSet (List ℕ) = record { keys = b } in
    btree_set_from_contains nat_list_cmp_total one other h.in_order k.in_order
    (λ w. found_as w a ∙ h.same_words w ∙ sym (k.same_words w) ∙ sym (found_as w b)) exact_bytes
