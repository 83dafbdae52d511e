-- Chains of hashes: one more hash, and what is known of the names of a bucket where a chain ends.
use Rattle.std.proofs.Common.{◌≡◌, ◌≢◌, ℕ, suc, inl, inr, ◌+◌, ◌-◌, ◌<◌, ◌≤◌, ◌^◌, false, List, [], ◌∷◌, ◌++◌, length, map, get_or, set, take, replicate, slice_index, refl, sym, ap, ◌∙◌, subst, arith, length-append, length-set, length-take-le, true≢false, get_or-set_same, get_or-set_other}
use Rattle.std.proofs.lemmas.Bool.{cases_eq, cases_order}
use Rattle.std.proofs.lemmas.List.{get_or_append_left, get_or_push, get_or-replicate, get_or-map, length-replicate, length-map, get_or_default, take_more, map-append}
use Rattle.std.proofs.lemmas.Nat.{and_le_r}
use Rattle.mk_names.specs.Chains.{bucket, IsLast, AreChained}
use Rattle.mk_names.specs.Hashing.{hash_of}
use Rattle.std.specs.Str.{bytes_eq}
use Rattle.mk_names.specs.Names.{name_at, has_name}
use Rattle.mk_names.proofs.NameLemmas.{not_same, bytes_same}

pub chained_none : (n : ℕ) → n ≤ 2 ^ 31 → AreChained [] [] (replicate n 0)
chained_none n few = by (replicate n 0) (length-replicate n 0) (λ b below. get_or-replicate n b 0 0 below)
  where
    by : (heads : List ℕ) → length heads ≡ n → ((b : ℕ) → b < n → slice_index heads b ≡ 0) → AreChained [] [] heads
    by heads many zeros = record {
      long = refl;
      room = omega arith;
      few = omega (arith, few, many);
      last = λ b below.
          let z = zeros b (omega (arith, below, many)) in
          record { within = omega (arith, z); there = λ some. absurd (omega (arith, z, some)); others = λ i least less. absurd (omega (arith, less)) };
      before = λ i below. absurd (omega (arith, below));
    }

pub bucket_within : (n hash : ℕ) → 0 < n → bucket n hash < n
unfolding bucket
bucket_within n hash some = omega (arith, and_le_r hash (n - 1), some)

-- places among the first hashes stay where one more comes
last_more : (hashes : List ℕ) (hash n b count place : ℕ) → count ≤ length hashes → IsLast hashes n b count place → IsLast (hashes ++ hash ∷ []) n b count place
last_more hashes hash n b count place within last = record {
  within = last.within;
  there = λ some. ap (bucket n) (get_or_append_left hashes (hash ∷ []) 0 (place - 1) (omega (arith, last.within, within, some))) ∙ last.there some;
  others = λ i least less e. last.others i least less (sym (ap (bucket n) (get_or_append_left hashes (hash ∷ []) 0 i (omega (arith, less, within)))) ∙ e);
}

module _ (hashes befores heads : List ℕ) (hash : ℕ) (old : AreChained hashes befores heads) (below : bucket (length heads) hash < length heads) (room : length hashes < length heads) where
  abbrev n : ℕ
  n = length heads

  abbrev own : ℕ
  own = bucket n hash

  abbrev place : ℕ
  place = length hashes + 1

  abbrev longer : List ℕ
  longer = hashes ++ hash ∷ []

  here : slice_index longer (length hashes) ≡ hash
  here = get_or_push hashes hash 0 (length hashes) refl

  last_of_own : IsLast longer n own place place
  last_of_own =
      let same : place - 1 ≡ length hashes = omega arith in
      record {
        within = omega arith;
        there = λ some. ap (λ i. bucket n (slice_index longer i)) same ∙ ap (bucket n) here;
        others = λ i least less. absurd (omega (arith, least, less));
      }

  last_of_other : (b at : ℕ) → b ≢ own → IsLast hashes n b (length hashes) at → IsLast longer n b place at
  last_of_other b at other last =
      let more = last_more hashes hash n b (length hashes) at (omega arith) last in
      record {
        within = omega (arith, last.within);
        there = more.there;
        others = λ i least less. elim (cases_eq i (length hashes)) [
          | inl e ↦ λ same. other (sym same ∙ ap (λ j. bucket n (slice_index longer j)) e ∙ ap (bucket n) here)
          | inr apart ↦ more.others i least (omega (arith, less, apart))
        ];
      }

  pub chained_more : AreChained (hashes ++ hash ∷ []) (befores ++ slice_index heads (bucket (length heads) hash) ∷ []) (set heads (bucket (length heads) hash) (length hashes + 1))
  chained_more =
      let many : length (set heads own place) ≡ n = length-set heads own place in
      let one_more = length-append hashes (hash ∷ []) in
      let also = length-append befores (slice_index heads own ∷ []) in
      record {
        long = omega (arith, one_more, also, old.long);
        room = omega (arith, one_more, many, room);
        few = omega (arith, many, old.few);
        last = λ b less.
            subst (λ m. IsLast longer m b (length longer) (slice_index (set heads own place) b)) (sym many)
            (subst (λ k. IsLast longer n b k (slice_index (set heads own place) b)) (sym one_more) (new_last b (omega (arith, less, many))));
        before = λ i less.
            subst (λ m. IsLast longer m (bucket m (slice_index longer i)) i (slice_index (befores ++ slice_index heads own ∷ []) i)) (sym many)
            (new_before i (omega (arith, less, one_more)));
      }
    where
      new_last : (b : ℕ) → b < n → IsLast longer n b place (slice_index (set heads own place) b)
      new_last b less = elim (cases_eq b own) [
        | inl e ↦
            subst (λ c. IsLast longer n c place (slice_index (set heads own place) c)) (sym e)
            (subst (IsLast longer n own place) (sym (get_or-set_same heads own place 0 below)) last_of_own)
        | inr apart ↦ subst (IsLast longer n b place) (sym (get_or-set_other heads own b place 0 apart)) (last_of_other b (slice_index heads b) apart (old.last b less))
      ]

      new_before : (i : ℕ) → i < place → IsLast longer n (bucket n (slice_index longer i)) i (slice_index (befores ++ slice_index heads own ∷ []) i)
      new_before i less = elim (cases_eq i (length hashes)) [
        | inl e ↦
            subst (λ j. IsLast longer n (bucket n (slice_index longer j)) j (slice_index (befores ++ slice_index heads own ∷ []) j)) (sym e)
            (subst (λ h. IsLast longer n (bucket n h) (length hashes) (slice_index (befores ++ slice_index heads own ∷ []) (length hashes))) (sym here)
            (subst (IsLast longer n own (length hashes)) (sym (get_or_push befores (slice_index heads own) 0 (length hashes) old.long))
            (last_more hashes hash n own (length hashes) (slice_index heads own) (omega arith) (old.last own below))))
        | inr apart ↦
            let within : i < length hashes = omega (arith, less, apart) in
            subst (λ h. IsLast longer n (bucket n h) i (slice_index (befores ++ slice_index heads own ∷ []) i)) (sym (get_or_append_left hashes (hash ∷ []) 0 i within))
            (subst (IsLast longer n (bucket n (slice_index hashes i)) i) (sym (get_or_append_left befores (slice_index heads own ∷ []) 0 i (omega (arith, within, old.long))))
            (last_more hashes hash n (bucket n (slice_index hashes i)) i (slice_index befores i) (omega (arith, within)) (old.before i within)))
      ]

-- the first i hashes are chained, and the next one comes
pub chained_next : (hashes befores heads : List ℕ) (i : ℕ) (befores' heads' : List ℕ) (before : ℕ) → AreChained (take i hashes) befores heads → i < length hashes → length hashes < length heads
    → before ≡ slice_index heads (bucket (length heads) (get_or hashes i 0)) → befores' ≡ befores ++ before ∷ []
    → heads' ≡ set heads (bucket (length heads) (get_or hashes i 0)) (i + 1) → AreChained (take (i + 1) hashes) befores' heads'
chained_next hashes befores heads i befores' heads' before old within room was more put =
    let hash = get_or hashes i 0 in
    let own = bucket (length heads) hash in
    let front = take i hashes in
    let long : length front ≡ i = length-take-le i hashes (omega (arith, within)) in
    let chained = chained_more front befores heads hash old (bucket_within (length heads) hash (omega (arith, room))) (omega (arith, long, within, room)) in
    subst (λ l. AreChained l befores' heads') (sym (take_more hashes i 0 within))
    (subst (λ l. AreChained (front ++ hash ∷ []) l heads') (sym (more ∙ ap (λ k. befores ++ k ∷ []) was))
    (subst (λ l. AreChained (front ++ hash ∷ []) (befores ++ slice_index heads own ∷ []) l) (sym (put ∙ ap (λ k. set heads own (k + 1)) (sym long))) chained))

-- a name comes, and its hash
pub chained_push : (names : List (List ℕ)) (hashes befores heads : List ℕ) (name : List ℕ) (hash before : ℕ) (names' : List (List ℕ)) (hashes' befores' heads' : List ℕ)
    → hashes ≡ map hash_of names → AreChained hashes befores heads → length hashes < length heads → hash ≡ hash_of name
    → before ≡ slice_index heads (bucket (length heads) hash) → names' ≡ names ++ name ∷ [] → hashes' ≡ hashes ++ hash ∷ [] → befores' ≡ befores ++ before ∷ []
    → heads' ≡ set heads (bucket (length heads) hash) (length hashes + 1) → (hashes' ≡ map hash_of names') × AreChained hashes' befores' heads'
chained_push names hashes befores heads name hash before names' hashes' befores' heads' hashed old room own was named longer more put =
    let spot = bucket (length heads) hash in
    let chained = chained_more hashes befores heads hash old (bucket_within (length heads) hash (omega (arith, room))) room in (
      longer ∙ ap (λ l. l ++ hash ∷ []) hashed ∙ ap (λ h. map hash_of names ++ h ∷ []) own ∙ sym (map-append hash_of names (name ∷ [])) ∙ ap (map hash_of) (sym named),
      subst (λ l. AreChained l befores' heads') (sym longer)
          (subst (λ l. AreChained (hashes ++ hash ∷ []) l heads') (sym (more ∙ ap (λ k. befores ++ k ∷ []) was))
          (subst (λ l. AreChained (hashes ++ hash ∷ []) (befores ++ slice_index heads spot ∷ []) l) (sym put) chained)),
    )

-- ---- finding

-- what a search knows where it has come to a place, counted from 1: the names behind it are others, and the place lies in the bucket that is searched
pub record Seeks (names : List (List ℕ)) (hashes : List ℕ) (n : ℕ) (name : List ℕ) (at : ℕ) : Type 0 where
  pub within : at ≤ length names
  pub there : 0 < at → bucket n (slice_index hashes (at - 1)) ≡ bucket n (hash_of name)
  pub absent : (i : ℕ) → at ≤ i → i < length names → name_at names i ≢ name

-- a name that is sought lies in its bucket
own_bucket : (names : List (List ℕ)) (hashes : List ℕ) (n : ℕ) (name : List ℕ) (i : ℕ) → hashes ≡ map hash_of names → i < length names → name_at names i ≡ name
    → bucket n (slice_index hashes i) ≡ bucket n (hash_of name)
own_bucket names hashes n name i hashed below same =
    ap (λ l. bucket n (slice_index l i)) hashed ∙ ap (bucket n) (get_or-map hash_of names i [] 0 below) ∙ ap (λ w. bucket n (hash_of w)) same

pub seeks_first : (names : List (List ℕ)) (hashes befores heads : List ℕ) (name : List ℕ) → hashes ≡ map hash_of names → AreChained hashes befores heads
    → bucket (length heads) (hash_of name) < length heads → Seeks names hashes (length heads) name (slice_index heads (bucket (length heads) (hash_of name)))
seeks_first names hashes befores heads name hashed chained below =
    let last = chained.last (bucket (length heads) (hash_of name)) below in
    let many : length hashes ≡ length names = ap length hashed ∙ length-map names hash_of in
    record {
      within = omega (arith, last.within, many);
      there = last.there;
      absent = λ i least less same. last.others i least (omega (arith, less, many)) (own_bucket names hashes (length heads) name i hashed less same);
    }

pub seeks_before : (names : List (List ℕ)) (hashes befores heads : List ℕ) (name : List ℕ) (at number : ℕ) → hashes ≡ map hash_of names → AreChained hashes befores heads
    → Seeks names hashes (length heads) name at → at ≡ number + 1 → name_at names number ≢ name → Seeks names hashes (length heads) name (slice_index befores number)
seeks_before names hashes befores heads name at number hashed chained seeks next other =
    let many : length hashes ≡ length names = ap length hashed ∙ length-map names hash_of in
    let before = chained.before number (omega (arith, seeks.within, next, many)) in
    let same : at - 1 ≡ number = omega (arith, next) in
    let own : bucket (length heads) (slice_index hashes number) ≡ bucket (length heads) (hash_of name)
    = ap (λ i. bucket (length heads) (slice_index hashes i)) (sym same) ∙ seeks.there (omega (arith, next)) in
    record {
      within = omega (arith, before.within, seeks.within, next);
      there = λ some. before.there some ∙ own;
      absent = λ i least less is. elim (cases_order i number) [
        | inl e ↦ other (sym (ap (name_at names) e) ∙ is)
        | inr (inl below) ↦ before.others i least below (own_bucket names hashes (length heads) name i hashed less is ∙ sym own)
        | inr (inr above) ↦ seeks.absent i (omega (arith, next, above)) less is
      ];
    }

-- the same, as the search reads its places
pub seeks_start : (names : List (List ℕ)) (hashes befores heads : List ℕ) (name : List ℕ) (hash buckets spot place : ℕ) → hashes ≡ map hash_of names → AreChained hashes befores heads
    → hash ≡ hash_of name → buckets ≡ length heads → spot < buckets → spot ≡ bucket buckets hash → place ≡ get_or heads spot place → Seeks names hashes (length heads) name place
seeks_start names hashes befores heads name hash buckets spot place hashed chained own many within is read =
    let same : spot ≡ bucket (length heads) (hash_of name) = is ∙ ap (λ n. bucket n hash) many ∙ ap (bucket (length heads)) own in
    let below : bucket (length heads) (hash_of name) < length heads = omega (arith, within, many, same) in
    let at : place ≡ slice_index heads (bucket (length heads) (hash_of name))
    = read ∙ ap (λ b. get_or heads b place) same ∙ get_or_default heads (bucket (length heads) (hash_of name)) place 0 below in
    subst (Seeks names hashes (length heads) name) (sym at) (seeks_first names hashes befores heads name hashed chained below)

pub seeks_on : (names : List (List ℕ)) (hashes befores heads : List ℕ) (name : List ℕ) (place before : ℕ) → hashes ≡ map hash_of names → AreChained hashes befores heads
    → Seeks names hashes (length heads) name place → 0 < place → bytes_eq name (name_at names (place - 1)) ≡ false → before ≡ get_or befores (place - 1) before
    → Seeks names hashes (length heads) name before
seeks_on names hashes befores heads name place before hashed chained seeks some differs read =
    let many : length hashes ≡ length names = ap length hashed ∙ length-map names hash_of in
    let below : place - 1 < length befores = omega (arith, many, chained.long, seeks.within, some) in
    let other : name_at names (place - 1) ≢ name = λ same. true≢false (sym (bytes_same name (name_at names (place - 1)) (sym same)) ∙ differs) in
    subst (Seeks names hashes (length heads) name) (sym (read ∙ get_or_default befores (place - 1) before 0 below))
    (seeks_before names hashes befores heads name place (place - 1) hashed chained seeks (omega (arith, some)) other)

pub none_same : (names : List (List ℕ)) (name : List ℕ) → ((i : ℕ) → i < length names → name_at names i ≢ name) → has_name names name ≡ false
none_same [] name others = refl
none_same (x ∷ names) name others =
    rw (not_same name x (λ e. others 0 (omega arith) (sym e)), none_same names name (λ i below. others (suc i) (omega (arith, below)))) refl

-- a name with another hash is another
pub other_hash : (names : List (List ℕ)) (hashes : List ℕ) (name : List ℕ) (number found hash : ℕ) → hashes ≡ map hash_of names → number < length names
    → found ≡ get_or hashes number found → hash ≡ hash_of name → found ≢ hash → bytes_eq name (name_at names number) ≡ false
other_hash names hashes name number found hash hashed below read own other =
    let here : get_or hashes number found ≡ hash_of (name_at names number)
    = ap (λ l. get_or l number found) hashed ∙ get_or-map hash_of names number [] found below in
    not_same name (name_at names number) (λ same. other (read ∙ here ∙ ap hash_of (sym same) ∙ sym own))
