-- A list of entries under names, each name once and in any order, seen as a finite map from byte strings.
use Rattle.std.proofs.Common.{Result, Ok, Err, OnErr, ◌≡◌, ◌∙◌, ℕ, ◌+◌, ◌<◌, List, [], ◌∷◌, Bool, true, false, cond, ◌&&◌, sym, ap, subst, refl, Option, None, Some, T, length, get_or, arith, slice_get, inl, inr}
use Rattle.std.proofs.Common.{map as list_map}
use Rattle.std.specs.declared.cmp.Ordering.{Ordering}
use Rattle.std.specs.declared.cmp.Ordering.TheVariants.{Less, Equal, Greater}
use Rattle.std.specs.Ordering.{nat_cmp, is_eq, eq_by_cmp, ordering_reverse, is_lt}
use Rattle.std.specs.Cmp.{eq_by_cmp_equiv}
use Rattle.std.specs.Cmp.Lexicographic.{slice_cmp, nat_list_cmp_total}
use Rattle.std.specs.Str.{bytes_eq}
use Rattle.std.specs.Map.{lookup, set_value, keys_of}
use Rattle.std.specs.FinMap as map
use Rattle.std.specs.FinMap.{find, get-from_entries, get-insert, same_map, get-from_sorted, entries-from_sorted, len-insert, len-empty, get-empty, is_sorted, slice_cmp-IsAntisymmetric, nat_cmp-IsAntisymmetric}
use Rattle.std.specs.FinMap.Entries.{below_all}
use Rattle.std.specs.Option.{IsSome, is_some, unwrap_or}
use Rattle.std.specs.List.{AllByRecursion, IsDistinct, Contains}
use Rattle.std.specs.List.Sorted.{IsStrictlySortedBy, IsPermutation}
use Rattle.indexmap.specs.IndexMap.{insert_entry}
use Rattle.std.proofs.lemmas.List.{length-map}
use Rattle.std.proofs.lemmas.List.Sorted.{IsPermutation-map, IsPermutation-sym, Contains-permutation}
use Rattle.std.proofs.lemmas.Option.{slice_get_cases, slice_get_read, get_or_from_slice_get}
use Rattle.std.proofs.Math.ListN.{get_or-map}
use Rattle.std.proofs.lemmas.Map.Entries.{place_from_lookup, lookup_from_place}
use Rattle.std.proofs.lemmas.Map.Keys.{sorted_head, sorted_tail, sorted_from_all_adjacent, apart_from_distinct, IsDistinct-IsPermutation, IsDistinct-head, IsDistinct-tail, IsDistinct-cons}
use Rattle.std.proofs.lemmas.Map.Lookups.{map_keys}
use Rattle.std.proofs.lemmas.Map.Text.{is_eq-slice_cmp}
use Rattle.std.proofs.lemmas.Slice.Eq.{bytes_eq-Decides}
use Rattle.st_state.specs.State.{by_name, StateMap, hidden_in, known_hidden}
use Rattle.st_records.specs.declared.record.Entry.{Entry}

-- the order of byte strings
abbrev pub by_bytes : List ℕ → List ℕ → Ordering
by_bytes = slice_cmp nat_cmp

pub by_bytes-exact : (x y : List ℕ) → by_bytes x y ≡ Equal → x ≡ y
by_bytes-exact = slice_cmp-IsAntisymmetric nat_cmp-IsAntisymmetric

level : (r : Ordering) → r ≡ ordering_reverse r → is_eq r ≡ true
level Less e = cc
level Equal e = refl
level Greater e = cc

pub by_bytes-same : (x : List ℕ) → is_eq (by_bytes x x) ≡ true
by_bytes-same x = level (by_bytes x x) (nat_list_cmp_total.antisymm x x)

equal_of : (r : Ordering) → is_eq r ≡ true → r ≡ Equal
equal_of Less e = cc
equal_of Equal e = refl
equal_of Greater e = cc

pub same_bytes : (x y : List ℕ) → is_eq (by_bytes x y) ≡ true → x ≡ y
same_bytes x y e = by_bytes-exact x y (equal_of _ e)

shadowed : {A : Type 0} (b : Bool) (x y z : A) → cond b x z ≡ cond b x (cond b y z)
shadowed true x y z = refl
shadowed false x y z = refl

-- two tests that don't pass together may be asked in either order
swapped : {A : Type 0} (a b : Bool) (x y z : A) → (a ≡ true → b ≡ true → ⊥) → cond a x (cond b y z) ≡ cond b y (cond a x z)
swapped true true x y z apart = absurd (apart refl refl)
swapped true false x y z apart = refl
swapped false true x y z apart = refl
swapped false false x y z apart = refl

never : (q x y : List ℕ) → is_eq (by_bytes q y) ≡ true → is_eq (by_bytes q x) ≡ true → is_eq (by_bytes x y) ≡ false → ⊥
never q x y a b apart =
    let same : x ≡ y = sym (same_bytes q x b) ∙ same_bytes q y a in
    let known : is_eq (by_bytes x y) ≡ true = ap (λ n. is_eq (by_bytes n y)) same ∙ by_bytes-same y in cc

both : (a b : Bool) → T a → T b → T (a && b)
both true b _ h = h
both false b h _ = absurd h

-- a name that passes the test of another one is that name
pub asked_is : (same : Bool) (x y : List ℕ) → same ≡ bytes_eq x y → same ≡ true → x ≡ y
asked_is same x y is passed = (bytes_eq-Decides x y).0 (sym is ∙ passed)

pub some_of : {A : Type 0} (o : Option A) (x : A) → Some x ≡ o → IsSome o
some_of o x e = subst IsSome e refl

pub on_err : {A E P : Type 0} (r : Result A E) → P → OnErr r P
on_err (Ok a) p = tt
on_err (Err e) p = p

-- entries that answer as one more insertion would are that map
inserted_from_find : (es fs : List (List ℕ × Entry)) (name : List ℕ) (entry : Entry)
    → ((q : List ℕ) → find by_bytes q fs ≡ cond (eq_by_cmp by_bytes q name) (Some entry) (find by_bytes q es))
    → map.from_entries {R = by_bytes} fs ≡ map.insert (map.from_entries es) name entry
inserted_from_find es fs name entry is =
    same_map nat_list_cmp_total by_bytes-exact _ _ (λ q.
    get-from_entries nat_list_cmp_total fs q
    ∙ is q
    ∙ ap (cond (eq_by_cmp by_bytes q name) (Some entry)) (sym (get-from_entries nat_list_cmp_total es q))
    ∙ sym (get-insert nat_list_cmp_total (map.from_entries es) name entry q))

read : (found : Option Entry) (none : Entry) → none.hidden ≡ [] → (unwrap_or found none).hidden ≡ hidden_in found
read None none new = new
read (Some entry) none new = refl

module _ {K : Type 0} (f : K → List ℕ) where
  find-map_keys : (q : List ℕ) (es : List (K × Entry)) → find by_bytes q (map_keys f es) ≡ lookup (λ k. bytes_eq q (f k)) es
  find-map_keys q [] = refl
  find-map_keys q (e ∷ es) =
      ap (λ b. cond b (Some e.1) (find by_bytes q (map_keys f es))) (is_eq-slice_cmp q (f e.0))
      ∙ ap (cond (bytes_eq q (f e.0)) (Some e.1)) (find-map_keys q es)

  pub get-by_name : (q : List ℕ) (es : List (K × Entry)) → map.get (by_name f es) q ≡ lookup (λ k. bytes_eq q (f k)) es
  get-by_name q es = get-from_entries nat_list_cmp_total (map_keys f es) q ∙ find-map_keys q es

  pub absent-by_name : (q : List ℕ) (es : List (K × Entry)) → None ≡ lookup (λ k. bytes_eq q (f k)) es → map.get (by_name f es) q ≡ None
  absent-by_name q es missing = get-by_name q es ∙ sym missing

  pub known_hidden-some : (q : List ℕ) (es : List (K × Entry)) (entry : Entry) → Some entry ≡ lookup (λ k. bytes_eq q (f k)) es → known_hidden (by_name f es) q ≡ entry.hidden
  known_hidden-some q es entry found = ap hidden_in (get-by_name q es ∙ sym found)

  pub known_hidden-none : (q : List ℕ) (es : List (K × Entry)) → None ≡ lookup (λ k. bytes_eq q (f k)) es → known_hidden (by_name f es) q ≡ []
  known_hidden-none q es missing = ap hidden_in (get-by_name q es ∙ sym missing)

  pub hidden_or_none : (q : List ℕ) (es : List (K × Entry)) (none : Entry) → none.hidden ≡ [] → (unwrap_or (lookup (λ k. bytes_eq q (f k)) es) none).hidden ≡ known_hidden (by_name f es) q
  hidden_or_none q es none new = read (lookup (λ k. bytes_eq q (f k)) es) none new ∙ ap hidden_in (sym (get-by_name q es))

  -- the entry at the first name that is the same, changed in its place: `rest` is what becomes of the entries behind it
  changed : (name : List ℕ) (entry : Entry) (q : List ℕ) (e : K × Entry) (es rest : List (K × Entry))
      → (bytes_eq name (f e.0) ≡ false → find by_bytes q (map_keys f rest) ≡ cond (eq_by_cmp by_bytes q name) (Some entry) (find by_bytes q (map_keys f es)))
      → find by_bytes q (map_keys f (cond (bytes_eq name (f e.0)) ((e.0, entry) ∷ es) (e ∷ rest)))
      ≡ cond (eq_by_cmp by_bytes q name) (Some entry) (find by_bytes q (map_keys f (e ∷ es)))
  changed name entry q e es rest later =
      elim (bytes_eq name (f e.0)) as (λ b. bytes_eq name (f e.0) ≡ b
      → find by_bytes q (map_keys f (cond b ((e.0, entry) ∷ es) (e ∷ rest)))
      ≡ cond (eq_by_cmp by_bytes q name) (Some entry) (cond (is_eq (by_bytes q (f e.0))) (Some e.1) (find by_bytes q (map_keys f es)))) [
        | true ↦ λ same.
            let here : name ≡ f e.0 = same_bytes name (f e.0) (is_eq-slice_cmp name (f e.0) ∙ same) in
            shadowed (is_eq (by_bytes q (f e.0))) (Some entry) (Some e.1) (find by_bytes q (map_keys f es))
            ∙ ap (λ n. cond (is_eq (by_bytes q n)) (Some entry) (cond (is_eq (by_bytes q (f e.0))) (Some e.1) (find by_bytes q (map_keys f es)))) (sym here)
        | false ↦ λ other.
            ap (cond (is_eq (by_bytes q (f e.0))) (Some e.1)) (later other)
            ∙ swapped (is_eq (by_bytes q (f e.0))) (is_eq (by_bytes q name)) _ _ _ (λ a b. never q name (f e.0) a b (is_eq-slice_cmp name (f e.0) ∙ other))
      ] refl

  find-insert_entry : (k : K) (entry : Entry) (q : List ℕ) (es : List (K × Entry))
      → find by_bytes q (map_keys f (insert_entry (λ x y. bytes_eq (f x) (f y)) es k entry))
      ≡ cond (eq_by_cmp by_bytes q (f k)) (Some entry) (find by_bytes q (map_keys f es))
  find-insert_entry k entry q [] = refl
  find-insert_entry k entry q (e ∷ es) = changed (f k) entry q e es _ (λ _. find-insert_entry k entry q es)

  pub by_name-insert_entry : (k : K) (entry : Entry) (es : List (K × Entry))
      → by_name f (insert_entry (λ x y. bytes_eq (f x) (f y)) es k entry) ≡ map.insert (by_name f es) (f k) entry
  by_name-insert_entry k entry es = inserted_from_find _ _ _ _ (λ q. find-insert_entry k entry q es)

  find-set_value : (name : List ℕ) (entry : Entry) (q : List ℕ) (es : List (K × Entry))
      → IsSome (lookup (λ k. bytes_eq name (f k)) es)
      → find by_bytes q (map_keys f (set_value (λ k. bytes_eq name (f k)) es entry))
      ≡ cond (eq_by_cmp by_bytes q name) (Some entry) (find by_bytes q (map_keys f es))
  find-set_value name entry q [] some = cc
  find-set_value name entry q (e ∷ es) some =
      changed name entry q e es _ (λ other.
      find-set_value name entry q es (subst (λ b. IsSome (cond b (Some e.1) (lookup (λ k. bytes_eq name (f k)) es))) other some))

  pub by_name-set_value : (name : List ℕ) (entry : Entry) (es : List (K × Entry))
      → IsSome (lookup (λ k. bytes_eq name (f k)) es)
      → by_name f (set_value (λ k. bytes_eq name (f k)) es entry) ≡ map.insert (by_name f es) name entry
  by_name-set_value name entry es some = inserted_from_find _ _ _ _ (λ q. find-set_value name entry q es some)

by_reverse : (r s : Ordering) → r ≡ ordering_reverse s → is_lt s ≡ false → is_eq r ≡ false → r ≡ Less
by_reverse r Less e up apart = cc
by_reverse r Equal e up apart = let both_ways : is_eq r ≡ true = ap is_eq e in cc
by_reverse r Greater e up apart = e

-- two names at different places are different
abbrev pub AreApart : List (List ℕ) → Type 0
AreApart = IsDistinct (eq_by_cmp by_bytes)

turned : (x y : List ℕ) → eq_by_cmp by_bytes x y ≡ eq_by_cmp by_bytes y x
turned = (eq_by_cmp_equiv nat_list_cmp_total).symm

-- ---- the same entries in another order

find-lookup : (q : List ℕ) (es : List (List ℕ × Entry)) → find by_bytes q es ≡ lookup (eq_by_cmp by_bytes q) es
find-lookup q [] = refl
find-lookup q (e ∷ es) = ap (cond (eq_by_cmp by_bytes q e.0) (Some e.1)) (find-lookup q es)

nothing : {X : Type 0} (x : X) → Some x ≡ None → ⊥
nothing x e = cc

contained : {X : Type 0} (xs : List X) (i : ℕ) (x : X) → slice_get xs i ≡ Some x → Contains xs x
contained xs i x h = elim (slice_get_cases xs i).1 [
  | inl p ↦ (i, p.1, get_or_from_slice_get xs i x x h)
  | inr p ↦ absurd (nothing x (sym h ∙ p.1))
]

standing : {X : Type 0} (xs : List X) (i : ℕ) (x : X) → i < length xs → get_or xs i x ≡ x → slice_get xs i ≡ Some x
standing xs i x h e = slice_get_read xs (length xs) i x refl h (sym e)

found_again : (es fs : List (List ℕ × Entry)) (q : List ℕ) (v : Entry) → IsPermutation es fs → AreApart (keys_of fs)
    → find by_bytes q es ≡ Some v → find by_bytes q fs ≡ Some v
found_again es fs q v moved apart found =
    let place = place_from_lookup (eq_by_cmp by_bytes q) es v (sym (find-lookup q es) ∙ found) in
    let k = place.1 in
    let same : q ≡ k = same_bytes q k place.3 in
    let there = Contains-permutation es fs (k, v) moved (contained es place.0 (k, v) place.2) in
    let at_k : lookup (eq_by_cmp by_bytes k) fs ≡ Some v =
    lookup_from_place {eq = eq_by_cmp by_bytes} (eq_by_cmp_equiv nat_list_cmp_total) fs there.0 k v apart (standing fs there.0 (k, v) there.1 there.2) in
    find-lookup q fs ∙ ap (λ n. lookup (eq_by_cmp by_bytes n) fs) same ∙ at_k

neither : (v : Entry) → Some v ≡ None → Some v ≡ None
neither v e = e

find-permutation : (es fs : List (List ℕ × Entry)) (q : List ℕ) → IsPermutation es fs → AreApart (keys_of es) → AreApart (keys_of fs)
    → find by_bytes q fs ≡ find by_bytes q es
find-permutation es fs q moved apart apart_too =
    elim (find by_bytes q es) as (λ o. find by_bytes q es ≡ o → find by_bytes q fs ≡ o) [
      | None ↦ λ missing. elim (find by_bytes q fs) as (λ o. find by_bytes q fs ≡ o → o ≡ None) [
        | None ↦ λ _. refl
        | Some v ↦ λ found. neither v (sym (found_again fs es q v (IsPermutation-sym es fs moved) apart found) ∙ missing)
      ] refl
      | Some v ↦ λ found. found_again es fs q v moved apart_too found
    ] refl

below : (x y : List ℕ) → is_lt (by_bytes y x) ≡ false → eq_by_cmp by_bytes x y ≡ false → by_bytes x y ≡ Less
below x y up apart = by_reverse (by_bytes x y) (by_bytes y x) (nat_list_cmp_total.antisymm x y) up apart

module _ {X : Type 0} (see : X → List ℕ × Entry) where
  name-get_or : (k : ℕ) (d : X) (xs : List X) → get_or (keys_of (list_map see xs)) k (see d).0 ≡ (see (get_or xs k d)).0
  name-get_or k d xs = get_or-map (λ (e : List ℕ × Entry). e.0) (list_map see xs) k (see d) ∙ ap (λ (e : List ℕ × Entry). e.0) (get_or-map see xs k d)

  -- no name is below the one before it
  abbrev pub NamesDontFall : List X → Type 0
  NamesDontFall xs = (k : ℕ) (d : X) → k + 1 < length xs → is_lt (by_bytes (see (get_or xs (k + 1) d)).0 (see (get_or xs k d)).0) ≡ false

  up_at : (k : ℕ) (d : X) (xs : List X) → is_lt (by_bytes (see (get_or xs (k + 1) d)).0 (see (get_or xs k d)).0) ≡ false
      → is_lt (by_bytes (get_or (keys_of (list_map see xs)) (k + 1) (see d).0) (get_or (keys_of (list_map see xs)) k (see d).0)) ≡ false
  up_at k d xs up =
      ap (λ n. is_lt (by_bytes n (get_or (keys_of (list_map see xs)) k (see d).0))) (name-get_or (k + 1) d xs)
      ∙ ap (λ n. is_lt (by_bytes (see (get_or xs (k + 1) d)).0 n)) (name-get_or k d xs)
      ∙ up

  -- names that don't fall and differ rise
  rises : (xs : List X) → AreApart (keys_of (list_map see xs)) → NamesDontFall xs → IsStrictlySortedBy by_bytes (keys_of (list_map see xs))
  rises [] apart up = sorted_from_all_adjacent nat_list_cmp_total [] [] (λ k h. absurd (omega arith))
  rises (x ∷ xs) apart up =
      let names = keys_of (list_map see (x ∷ xs)) in
      sorted_from_all_adjacent nat_list_cmp_total names (see x).0 (λ k h.
      let short : k + 1 < length (x ∷ xs) = omega (arith, h, length-map (list_map see (x ∷ xs)) (λ (e : List ℕ × Entry). e.0), length-map (x ∷ xs) see) in
      below (get_or names k (see x).0) (get_or names (k + 1) (see x).0)
      (up_at k x (x ∷ xs) (up k x short))
      (apart_from_distinct (eq_by_cmp by_bytes) names k (k + 1) (see x).0 apart (omega arith) h))

IsStrictlySorted-below : (k : List ℕ) (es : List (List ℕ × Entry)) → AllByRecursion (λ y. by_bytes k y ≡ Less) (keys_of es) → T (below_all by_bytes k es)
IsStrictlySorted-below k [] h = tt
IsStrictlySorted-below k (e ∷ es) h = both _ _ (subst (λ r. T (is_lt r)) (sym h.0) tt) (IsStrictlySorted-below k es h.1)

is_sorted-from : (es : List (List ℕ × Entry)) → IsStrictlySortedBy by_bytes (keys_of es) → T (is_sorted by_bytes es)
is_sorted-from [] h = tt
is_sorted-from (e ∷ es) h = both _ _ (IsStrictlySorted-below e.0 es (sorted_head _ _ _ h)) (is_sorted-from es (sorted_tail _ _ _ h))

-- entries of different names, sorted by their names, are the map's entries
pub entries-sorted : {X : Type 0} (see : X → List ℕ × Entry) (es : List (List ℕ × Entry)) (xs : List X) → AreApart (keys_of es) → IsPermutation es (list_map see xs) → NamesDontFall see xs
    → list_map see xs ≡ map.entries (map.from_entries {R = by_bytes} es)
entries-sorted see es xs apart moved up =
    let fs = list_map see xs in
    let apart_too : AreApart (keys_of fs) = IsDistinct-IsPermutation (eq_by_cmp by_bytes) turned (keys_of es) (keys_of fs) (IsPermutation-map (λ e. e.0) es fs moved) apart in
    let sorted : T (is_sorted by_bytes fs) = is_sorted-from fs (rises see xs apart_too up) in
    sym (entries-from_sorted by_bytes fs sorted)
    ∙ ap map.entries (same_map nat_list_cmp_total by_bytes-exact (map.from_sorted {R = by_bytes} fs) (map.from_entries {R = by_bytes} es) (λ q.
    get-from_sorted by_bytes fs q sorted ∙ find-permutation es fs q moved apart apart_too ∙ sym (get-from_entries nat_list_cmp_total es q)))

-- ---- how many names

pub absent : (name : List ℕ) (es : List (List ℕ × Entry)) → AllByRecursion (λ y. eq_by_cmp by_bytes name y ≡ false) (keys_of es) → find by_bytes name es ≡ None
absent name [] h = refl
absent name (e ∷ es) h = ap (λ b. cond b (Some e.1) (find by_bytes name es)) h.0 ∙ absent name es h.1

pub len-from_entries : (es : List (List ℕ × Entry)) → AreApart (keys_of es) → map.len (map.from_entries {R = by_bytes} es) ≡ length es
len-from_entries [] apart = len-empty by_bytes Entry
len-from_entries (e ∷ es) apart =
    len-insert nat_list_cmp_total (map.from_entries es) e.0 e.1
    ∙ ap (λ o. cond (is_some o) (map.len (map.from_entries {R = by_bytes} es)) (map.len (map.from_entries {R = by_bytes} es) + 1))
    (get-from_entries nat_list_cmp_total es e.0 ∙ absent e.0 es (IsDistinct-head _ _ _ apart))
    ∙ ap (λ n. n + 1) (len-from_entries es (IsDistinct-tail _ _ _ apart))
    ∙ omega arith

head-map_keys : {K : Type 0} (f : K → List ℕ) (name : List ℕ) (es : List (K × Entry)) → AllByRecursion (λ y. bytes_eq name (f y) ≡ false) (keys_of es)
    → AllByRecursion (λ y. eq_by_cmp by_bytes name y ≡ false) (keys_of (map_keys f es))
head-map_keys f name [] h = tt
head-map_keys f name (e ∷ es) h = (is_eq-slice_cmp name (f e.0) ∙ h.0, head-map_keys f name es h.1)

-- keys that differ as their type says have different bytes
pub apart-map_keys : {K : Type 0} (f : K → List ℕ) (es : List (K × Entry)) → IsDistinct (λ x y. bytes_eq (f x) (f y)) (keys_of es) → AreApart (keys_of (map_keys f es))
unfolding IsDistinct
apart-map_keys f [] apart = apart
apart-map_keys f (e ∷ es) apart =
    IsDistinct-cons (eq_by_cmp by_bytes) (f e.0) (keys_of (map_keys f es)) (head-map_keys f (f e.0) es (IsDistinct-head _ _ _ apart)) (apart-map_keys f es (IsDistinct-tail _ _ _ apart))

-- ---- set one after another

-- the map with these entries set, from the first to the last
abbrev pub with_entries : StateMap → List (List ℕ × Entry) → StateMap
with_entries m [] = m
with_entries m (e ∷ es) = with_entries (map.insert m e.0 e.1) es

or_else : {A : Type 0} → Option A → Option A → Option A
or_else None y = y
or_else (Some x) y = Some x

get-with_entries : (m : StateMap) (es : List (List ℕ × Entry)) (q : List ℕ) → AreApart (keys_of es) → map.get (with_entries m es) q ≡ or_else (find by_bytes q es) (map.get m q)
unfolding or_else
get-with_entries m [] q apart = refl
get-with_entries m (e ∷ es) q apart =
    get-with_entries (map.insert m e.0 e.1) es q (IsDistinct-tail _ _ _ apart)
    ∙ ap (or_else (find by_bytes q es)) (get-insert nat_list_cmp_total m e.0 e.1 q)
    ∙ elim (is_eq (by_bytes q e.0)) as (λ b. is_eq (by_bytes q e.0) ≡ b
    → or_else (find by_bytes q es) (cond b (Some e.1) (map.get m q)) ≡ or_else (cond b (Some e.1) (find by_bytes q es)) (map.get m q)) [
      | true ↦ λ same. ap (λ o. or_else o (Some e.1)) (ap (λ n. find by_bytes n es) (same_bytes q e.0 same) ∙ absent e.0 es (IsDistinct-head _ _ _ apart))
      | false ↦ λ _. refl
    ] refl

or_else-None : {A : Type 0} (o : Option A) → or_else o None ≡ o
unfolding or_else
or_else-None None = refl
or_else-None (Some x) = refl

-- a map is its entries, set one after another in any order
pub with_entries-empty : (es : List (List ℕ × Entry)) → AreApart (keys_of es) → with_entries map.empty es ≡ map.from_entries es
with_entries-empty es apart =
    same_map nat_list_cmp_total by_bytes-exact _ _ (λ q.
    get-with_entries map.empty es q apart
    ∙ ap (or_else (find by_bytes q es)) (get-empty by_bytes q)
    ∙ or_else-None _
    ∙ sym (get-from_entries nat_list_cmp_total es q))
