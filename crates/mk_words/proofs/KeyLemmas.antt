-- Words that are kept in order, each once.
use Rattle.std.proofs.Common.{◌≡◌, ℕ, Bool, true, false, ◌||◌, List, [], ◌∷◌, map, refl, sym, ap, ◌∙◌, bytes_eq}
use Rattle.std.specs.declared.cmp.Ordering.{Ordering}
use Rattle.std.specs.declared.cmp.Ordering.TheVariants.{Less, Equal, Greater}
use Rattle.std.specs.Ordering.{nat_cmp, match_ordering}
use Rattle.std.specs.List.{list_any}
use Rattle.std.specs.Cmp.Lexicographic.{slice_cmp}
use Rattle.std.specs.BTreeMap.{is_at}
use Rattle.std.specs.BTreeSet.{insert_key}
use Rattle.std.proofs.lemmas.Map.Lookups.{exact_bytes}
use Rattle.std.proofs.lemmas.Map.Text.{is_eq-slice_cmp}

pub or_assoc : (a b c : Bool) → ((a || b) || c) ≡ (a || (b || c))
or_assoc true b c = refl
or_assoc false b c = refl

pub or_turn : (a b c : Bool) → (a || (b || c)) ≡ (b || (a || c))
or_turn true true c = refl
or_turn true false c = refl
or_turn false b c = refl

or_again : (a b : Bool) → (a || (a || b)) ≡ (a || b)
or_again true b = refl
or_again false b = refl

module _ {K : Type 0} (view : K → List ℕ) where
  abbrev pub by_bytes : K → K → Ordering
  by_bytes a b = slice_cmp nat_cmp (view a) (view b)

  insert_step : (o : Ordering) (x k : K) (xs inserted : List K) →
      map view (match_ordering o (k ∷ x ∷ xs) (x ∷ xs) (x ∷ inserted)) ≡ match_ordering o (view k ∷ view x ∷ map view xs) (view x ∷ map view xs) (view x ∷ map view inserted)
  insert_step Less x k xs inserted = refl
  insert_step Equal x k xs inserted = refl
  insert_step Greater x k xs inserted = refl

  bytes_inserted : (ks : List K) (k : K) → map view (insert_key by_bytes ks k) ≡ insert_key (slice_cmp nat_cmp) (map view ks) (view k)
  bytes_inserted [] k = refl
  bytes_inserted (x ∷ xs) k =
      insert_step (by_bytes k x) x k xs (insert_key by_bytes xs k)
      ∙ ap (λ ys. match_ordering (by_bytes k x) (view k ∷ view x ∷ map view xs) (view x ∷ map view xs) (view x ∷ ys)) (bytes_inserted xs k)

  -- a word is looked for among keys by their bytes
  pub any_key : (word : List ℕ) (ks : List K) → list_any (is_at (λ k. slice_cmp nat_cmp word (view k))) ks ≡ list_any (bytes_eq word) (map view ks)
  any_key word [] = refl
  any_key word (k ∷ ks) =
      ap (λ b. b || list_any (is_at (λ q. slice_cmp nat_cmp word (view q))) ks) (is_eq-slice_cmp word (view k))
      ∙ ap (λ b. bytes_eq word (view k) || b) (any_key word ks)

insert_found : (word k x : List ℕ) (xs inserted : List (List ℕ)) → list_any (bytes_eq word) inserted ≡ (bytes_eq word k || list_any (bytes_eq word) xs) →
    (o : Ordering) → slice_cmp nat_cmp k x ≡ o → list_any (bytes_eq word) (match_ordering o (k ∷ x ∷ xs) (x ∷ xs) (x ∷ inserted)) ≡ (bytes_eq word k || list_any (bytes_eq word) (x ∷ xs))
insert_found word k x xs inserted h Less e = refl
insert_found word k x xs inserted h Equal e =
    sym (or_again (bytes_eq word x) (list_any (bytes_eq word) xs))
    ∙ ap (λ w. bytes_eq word w || (bytes_eq word x || list_any (bytes_eq word) xs)) (sym (exact_bytes k x e))
insert_found word k x xs inserted h Greater e = ap (λ b. bytes_eq word x || b) h ∙ or_turn (bytes_eq word x) (bytes_eq word k) (list_any (bytes_eq word) xs)

any_inserted : (word : List ℕ) (ks : List (List ℕ)) (k : List ℕ) → list_any (bytes_eq word) (insert_key (slice_cmp nat_cmp) ks k) ≡ (bytes_eq word k || list_any (bytes_eq word) ks)
any_inserted word [] k = refl
any_inserted word (x ∷ xs) k = insert_found word k x xs (insert_key (slice_cmp nat_cmp) xs k) (any_inserted word xs k) (slice_cmp nat_cmp k x) refl

-- a word more
pub any_more : {K : Type 0} (view : K → List ℕ) (ks new : List K) (k : K) → new ≡ insert_key (by_bytes view) ks k →
    (word : List ℕ) → list_any (bytes_eq word) (map view new) ≡ (bytes_eq word (view k) || list_any (bytes_eq word) (map view ks))
any_more view ks new k e word =
    ap (list_any (bytes_eq word)) (ap (map view) e ∙ bytes_inserted view ks k) ∙ any_inserted word (map view ks) (view k)
