-- A definition changes what one name has, and a map's entries say what each name has.
use Rattle.std.proofs.Common.{◌≡◌, ◌≢◌, ℕ, Bool, true, false, cond, List, [], ◌∷◌, map, Some, refl, sym, ap, ◌∙◌, nat_eq, bytes_eq}
use Rattle.std.proofs.lemmas.Bool.{false≢true}
use Rattle.std.specs.Option.{option_map_or}
use Rattle.std.specs.Map.{lookup, lookup_key, set_value}
use Rattle.std.specs.Cmp.Lexicographic.{pointwise}
use Rattle.std.proofs.lemmas.Slice.Eq.{bytes_eq-Decides}
use Rattle.indexmap.specs.IndexMap.{insert_entry}
use Rattle.mk_macros.specs.Ranks.{Ranks, no_ranks, ranks_at, redefined, with_change, Defined, with_definition, with_mark}
use Rattle.mk_profile.specs.declared.profile.Profile.{Profile}
use Rattle.mk_macros.specs.declared.definitions.Rank.{Rank}

-- the key has these bytes
abbrev pub is_named : {K : Type 0} → (K → List ℕ) → List ℕ → K → Bool
is_named bytes_of wanted k = pointwise nat_eq wanted (bytes_of k)

key_at : {K V : Type 0} (bytes_of : K → List ℕ) (name : List ℕ) (e : K × V) (es : List (K × V)) (k : K) (t : Bool) → is_named bytes_of name e.0 ≡ t →
    (lookup_key (is_named bytes_of name) es ≡ Some k → bytes_of k ≡ name) → lookup_key (is_named bytes_of name) (e ∷ es) ≡ Some k → bytes_of k ≡ name
key_at bytes_of name e es k true here ih found =
    let first : Some e.0 ≡ Some k = simp here at found in
    let is : e.0 ≡ k = cc in
    ap bytes_of (sym is) ∙ sym ((bytes_eq-Decides name (bytes_of e.0)).0 here)
key_at bytes_of name e es k false here ih found = ih (simp here at found)

-- the key that is found for a name has its bytes
pub key_named : {K V : Type 0} (bytes_of : K → List ℕ) (name : List ℕ) (es : List (K × V)) (k : K) → lookup_key (is_named bytes_of name) es ≡ Some k → bytes_of k ≡ name
key_named bytes_of name [] k found = absurd (cc found)
key_named bytes_of name (e ∷ es) k found = key_at bytes_of name e es k (is_named bytes_of name e.0) refl (key_named bytes_of name es k) found

other_key_at : {K : Type 0} (bytes_of : K → List ℕ) (n name : List ℕ) → n ≢ name → (k : K) → is_named bytes_of name k ≡ true →
    (t : Bool) → is_named bytes_of n k ≡ t → is_named bytes_of n k ≡ false
other_key_at bytes_of n name apart k found true e =
    absurd (apart ((bytes_eq-Decides n (bytes_of k)).0 e ∙ sym ((bytes_eq-Decides name (bytes_of k)).0 found)))
other_key_at bytes_of n name apart k found false e = e

other_key : {K : Type 0} (bytes_of : K → List ℕ) (n name : List ℕ) → n ≢ name → (k : K) → is_named bytes_of name k ≡ true → is_named bytes_of n k ≡ false
other_key bytes_of n name apart k found = other_key_at bytes_of n name apart k found (is_named bytes_of n k) refl

module _ {K V : Type 0} (bytes_of : K → List ℕ) (n name : List ℕ) (apart : n ≢ name) where
  set_at : (e : K × V) (es : List (K × V)) (w : V) (t : Bool) → is_named bytes_of name e.0 ≡ t →
      lookup (is_named bytes_of n) (set_value (is_named bytes_of name) es w) ≡ lookup (is_named bytes_of n) es →
      lookup (is_named bytes_of n) (set_value (is_named bytes_of name) (e ∷ es) w) ≡ lookup (is_named bytes_of n) (e ∷ es)
  set_at e es w true here ih = let there = other_key bytes_of n name apart e.0 here in simp (here, there) refl
  set_at e es w false here ih = simp (here, ih) refl

  -- a write of one name's value leaves the others
  pub lookup-set_value : (es : List (K × V)) (w : V) → lookup (is_named bytes_of n) (set_value (is_named bytes_of name) es w) ≡ lookup (is_named bytes_of n) es
  lookup-set_value [] w = refl
  lookup-set_value (e ∷ es) w = set_at e es w (is_named bytes_of name e.0) refl (lookup-set_value es w)

  insert_at : (e : K × V) (es : List (K × V)) (k : K) (v : V) → bytes_of k ≡ name → (t : Bool) → is_named bytes_of (bytes_of k) e.0 ≡ t →
      lookup (is_named bytes_of n) (insert_entry (λ x y. is_named bytes_of (bytes_of x) y) es k v) ≡ lookup (is_named bytes_of n) es →
      lookup (is_named bytes_of n) (insert_entry (λ x y. is_named bytes_of (bytes_of x) y) (e ∷ es) k v) ≡ lookup (is_named bytes_of n) (e ∷ es)
  insert_at e es k v is true here ih = let there = other_key bytes_of n name apart e.0 (ap (λ m. is_named bytes_of m e.0) (sym is) ∙ here) in simp (here, there) refl
  insert_at e es k v is false here ih = simp (here, ih) refl

  -- a new name leaves the others
  pub lookup-insert_entry : (es : List (K × V)) (k : K) (v : V) → bytes_of k ≡ name →
      lookup (is_named bytes_of n) (insert_entry (λ x y. is_named bytes_of (bytes_of x) y) es k v) ≡ lookup (is_named bytes_of n) es
  lookup-insert_entry [] k v is = let there = other_key bytes_of n name apart k ((bytes_eq-Decides name (bytes_of k)).1 (sym is)) in simp there refl
  lookup-insert_entry (e ∷ es) k v is = insert_at e es k v is (is_named bytes_of (bytes_of k) e.0) refl (lookup-insert_entry es k v is)

-- what names have, in a language
abbrev pub in_language : Profile → (List ℕ → Ranks) → Defined
in_language profile ranks = record { language = profile; ranks = ranks }

module _ {K D : Type 0} (bytes_of : K → List ℕ) (ranks : D → Ranks) where
  -- the entries of a map as contracts see them
  abbrev pub shown : List (K × D) → List (List ℕ × Ranks)
  shown es = map (λ e. (bytes_of e.0, ranks e.1)) es

  -- what the map has for a name
  abbrev pub found_at : List (K × D) → (name : List ℕ) → Ranks
  found_at es name = option_map_or ranks (lookup (is_named bytes_of name) es) no_ranks

  shown_at_entry : (e : K × D) (es : List (K × D)) (name : List ℕ) (t : Bool) → is_named bytes_of name e.0 ≡ t →
      ranks_at (shown es) name ≡ found_at es name → ranks_at (shown (e ∷ es)) name ≡ found_at (e ∷ es) name
  shown_at_entry e es name true here ih = simp here refl
  shown_at_entry e es name false here ih = simp here ih

  pub shown_at : (es : List (K × D)) (name : List ℕ) → ranks_at (shown es) name ≡ found_at es name
  shown_at [] name = refl
  shown_at (e ∷ es) name = shown_at_entry e es name (is_named bytes_of name e.0) refl (shown_at es name)

  module _ (old new : List (K × D)) (name : List ℕ) (others : (n : List ℕ) → n ≢ name → found_at new n ≡ found_at old n) where
    changed_at : (change : Ranks → Ranks) → found_at new name ≡ change (found_at old name) →
        (n : List ℕ) (t : Bool) → bytes_eq n name ≡ t → ranks_at (shown new) n ≡ cond t (change (ranks_at (shown old) name)) (ranks_at (shown old) n)
    changed_at change at n true e =
        let same : n ≡ name = (bytes_eq-Decides n name).0 e in
        rw (same, shown_at new name, shown_at old name) at
    changed_at change at n false e =
        rw (shown_at new n, shown_at old n) (others n (λ same. absurd (false≢true (sym e ∙ (bytes_eq-Decides n name).1 same))))

    -- a change of one name, for all names at once
    pub changes : (profile : Profile) (change : Ranks → Ranks) → found_at new name ≡ change (found_at old name) →
        in_language profile (ranks_at (shown new)) ≡ in_language profile (with_change (ranks_at (shown old)) name change)
    changes profile change at =
        let each : ranks_at (shown new) ≡ with_change (ranks_at (shown old)) name change = λ i n. changed_at change at n (bytes_eq n name) refl i in
        ap (in_language profile) each

    -- a definition
    pub defines : (profile : Profile) (rank : Rank) (text : List ℕ) (append : Bool) → found_at new name ≡ redefined profile (found_at old name) rank text append →
        in_language profile (ranks_at (shown new)) ≡ with_definition (in_language profile (ranks_at (shown old))) rank name text append
    defines profile rank text append at = changes profile (λ r. redefined profile r rank text append) at

    -- whether the makefile's text is fixed
    pub marks : (profile : Profile) (is_fixed : Bool) → found_at new name ≡ record (found_at old name) { is_fixed = is_fixed } →
        in_language profile (ranks_at (shown new)) ≡ with_mark (in_language profile (ranks_at (shown old))) name is_fixed
    marks profile is_fixed at = changes profile (λ r. record r { is_fixed = is_fixed }) at

    kept_at : found_at new name ≡ found_at old name → (n : List ℕ) (t : Bool) → bytes_eq n name ≡ t → ranks_at (shown new) n ≡ ranks_at (shown old) n
    kept_at at n true e = let same : n ≡ name = (bytes_eq-Decides n name).0 e in rw (same, shown_at new name, shown_at old name) at
    kept_at at n false e =
        rw (shown_at new n, shown_at old n) (others n (λ same. absurd (false≢true (sym e ∙ (bytes_eq-Decides n name).1 same))))

    -- nothing changed, for all names at once
    pub keeps : (profile : Profile) → found_at new name ≡ found_at old name → in_language profile (ranks_at (shown new)) ≡ in_language profile (ranks_at (shown old))
    keeps profile at =
        let each : ranks_at (shown new) ≡ ranks_at (shown old) = λ i n. kept_at at n (bytes_eq n name) refl i in
        ap (in_language profile) each
