-- Chained hashes, each beside the place of the one before it.
use Rattle.std.proofs.Common.{◌≡◌, ◌≢◌, ℕ, ◌+◌, ◌-◌, ◌<◌, ◌≤◌, ◌^◌, false, List, [], ◌∷◌, ◌++◌, length, map, get_or, set, take, replicate, slice_index, refl, sym, ap, ◌∙◌, subst, arith, length-append}
use Rattle.std.proofs.lemmas.List.{get_or-map, length-map, map-append, map-set, set-get_or, take_all, take_more_set}
use Rattle.std.specs.Str.{bytes_eq}
use Rattle.mk_names.specs.Chains.{bucket, AreChained}
use Rattle.mk_names.specs.Hashing.{hash_of}
use Rattle.mk_names.specs.Links.{hashes_of, befores_of, AreLinked, AreFoundBy}
use Rattle.mk_names.specs.Names.{name_at}
use Rattle.mk_names.specs.declared.chains.Link.{Link}
use Rattle.mk_names.proofs.ChainLemmas.{Seeks, chained_none, chained_next, chained_push, seeks_on, other_hash}

pub none_linked : (old links : List Link) (heads : List ℕ) → heads ≡ replicate (length heads) 0 → length heads ≤ 2 ^ 31 → AreChained (take 0 (hashes_of old)) (take 0 (befores_of links)) heads
none_linked old links heads empty few = subst (AreChained [] []) (sym empty) (chained_none (length heads) few)

-- the first i hashes are chained, and the next one comes
module _ (old links : List Link) (heads : List ℕ) (i before : ℕ) (within : i < length links) (same : hashes_of links ≡ hashes_of old) (link : Link) (is : link ≡ record { hash = get_or (hashes_of links) i 0; before = before }) where
  pub same_still : hashes_of (set links i link) ≡ hashes_of old
  same_still =
      map-set (λ l. l.hash) links i link ∙ ap (λ l. set (hashes_of links) i l.hash) is ∙ set-get_or (hashes_of links) i 0 ∙ same

  pub linked_next : (heads' : List ℕ) → AreChained (take i (hashes_of old)) (take i (befores_of links)) heads → length links < length heads
      → before ≡ slice_index heads (bucket (length heads) (get_or (hashes_of links) i 0)) → heads' ≡ set heads (bucket (length heads) (get_or (hashes_of links) i 0)) (i + 1)
      → AreChained (take (i + 1) (hashes_of old)) (take (i + 1) (befores_of (set links i link))) heads'
  linked_next heads' so_far room was put =
      let many = length-map links (λ l. l.hash) in
      let long = length-map links (λ l. l.before) in
      let few = ap length same in
      let more : take (i + 1) (befores_of (set links i link)) ≡ take i (befores_of links) ++ before ∷ []
      = ap (take (i + 1)) (map-set (λ l. l.before) links i link ∙ ap (λ l. set (befores_of links) i l.before) is) ∙ take_more_set (befores_of links) i before (omega (arith, within, long)) in
      chained_next (hashes_of old) (take i (befores_of links)) heads i (take (i + 1) (befores_of (set links i link))) heads' before so_far (omega (arith, within, many, few)) (omega (arith, room, many, few))
      (was ∙ ap (λ l. slice_index heads (bucket (length heads) (get_or l i 0))) same) more (put ∙ ap (λ l. set heads (bucket (length heads) (get_or l i 0)) (i + 1)) same)

pub all_linked : (old links : List Link) (heads : List ℕ) (i : ℕ) → hashes_of links ≡ hashes_of old → length links ≤ i → AreChained (take i (hashes_of old)) (take i (befores_of links)) heads → AreLinked links heads
all_linked old links heads i same past so_far =
    let many = length-map links (λ l. l.hash) in
    let long = length-map links (λ l. l.before) in
    subst (λ l. AreChained l (befores_of links) heads) (take_all i (hashes_of links) (omega (arith, past, many)))
    (subst (λ l. AreChained (take i (hashes_of links)) l heads) (take_all i (befores_of links) (omega (arith, past, long)))
    (subst (λ l. AreChained (take i l) (take i (befores_of links)) heads) (sym same) so_far))

-- a name comes, and its link
pub linked_push : (names : List (List ℕ)) (links : List Link) (heads : List ℕ) (name : List ℕ) (link : Link) (names' : List (List ℕ)) (links' : List Link) (heads' : List ℕ)
    → hashes_of links ≡ map hash_of names → AreLinked links heads → length links < length heads → link.hash ≡ hash_of name
    → link.before ≡ slice_index heads (bucket (length heads) link.hash) → names' ≡ names ++ name ∷ [] → links' ≡ links ++ link ∷ []
    → heads' ≡ set heads (bucket (length heads) link.hash) (length links + 1) → AreFoundBy names' links' heads'
linked_push names links heads name link names' links' heads' hashed old room own was named longer put =
    let long = length-map links (λ l. l.hash) in
    let as_many : length links ≡ length names = sym long ∙ ap length hashed ∙ length-map names hash_of in
    let both = chained_push names (hashes_of links) (befores_of links) heads name link.hash link.before names' (hashes_of links') (befores_of links') heads' hashed old (omega (arith, room, long)) own was named
    (ap hashes_of longer ∙ map-append (λ l. l.hash) links (link ∷ [])) (ap befores_of longer ∙ map-append (λ l. l.before) links (link ∷ []))
    (put ∙ ap (λ k. set heads (bucket (length heads) link.hash) (k + 1)) (sym long)) in
    record {
      many = omega (arith, as_many, ap length longer, ap length named, length-append links (link ∷ []), length-append names (name ∷ []));
      hashed = both.0;
      chained = both.1;
    }

-- the search goes on to the place of a link
pub seeks_link : (names : List (List ℕ)) (links : List Link) (heads : List ℕ) (name : List ℕ) (place : ℕ) (link : Link) → AreFoundBy names links heads
    → Seeks names (hashes_of links) (length heads) name place → 0 < place → bytes_eq name (name_at names (place - 1)) ≡ false → link ≡ get_or links (place - 1) link
    → Seeks names (hashes_of links) (length heads) name link.before
seeks_link names links heads name place link found seeks some differs read =
    let within : place - 1 < length links = omega (arith, seeks.within, found.many, some) in
    let at : link.before ≡ get_or (befores_of links) (place - 1) link.before = ap (λ l. l.before) read ∙ sym (get_or-map (λ l. l.before) links (place - 1) link link.before within) in
    seeks_on names (hashes_of links) (befores_of links) heads name place link.before found.hashed found.chained seeks some differs at

pub other_link : (names : List (List ℕ)) (links : List Link) (heads : List ℕ) (name : List ℕ) (number : ℕ) (link : Link) (hash : ℕ) → AreFoundBy names links heads → number < length names
    → link ≡ get_or links number link → hash ≡ hash_of name → link.hash ≢ hash → bytes_eq name (name_at names number) ≡ false
other_link names links heads name number link hash found below read own other =
    let at : link.hash ≡ get_or (hashes_of links) number link.hash = ap (λ l. l.hash) read ∙ sym (get_or-map (λ l. l.hash) links number link link.hash (omega (arith, below, found.many))) in
    other_hash names (hashes_of links) name number link.hash hash found.hashed below at own other

-- no names are found by no links, over buckets that are empty
pub found_none : (names : List (List ℕ)) (links : List Link) (heads : List ℕ) → names ≡ [] → links ≡ [] → heads ≡ replicate (length heads) 0 → length heads ≤ 2 ^ 31 → AreFoundBy names links heads
found_none names links heads none unlinked empty few =
    rw (none, unlinked) (record {
      many = refl;
      hashed = refl;
      chained = subst (AreChained [] []) (sym empty) (chained_none (length heads) few);
    })
