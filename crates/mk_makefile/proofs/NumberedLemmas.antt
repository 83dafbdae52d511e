-- What is there of each name, by the names' numbers.
use Rattle.std.proofs.Common.{arith, length, set, ◌≡◌, ℕ, ◌<◌, ◌≤◌, Bool, true, false, cond, List, [], ◌∷◌, ◌++◌, Some, suc, zero, refl, sym, ap, ◌∙◌}
use Rattle.std.specs.Prelude.{slice_get}
use Rattle.std.specs.List.{IsDistinct}
use Rattle.std.specs.Str.{bytes_eq}
use Rattle.std.proofs.lemmas.List.{get_or_append_left}
use Rattle.std.proofs.lemmas.Map.Keys.{IsDistinct-tail, apart_from_distinct}
use Rattle.mk_names.specs.Names.{name_at, has_name, added}
use Rattle.mk_names.proofs.NameLemmas.{bytes_same, has_name_at, added_new}
use Rattle.mk_makefile.specs.Named.{Named, nothing_named, named_in}
use Rattle.mk_rule_lines.proofs.NameLemmas.{bytes_eq-same}

-- the first name isn't the one with a later number
other_first : (x : List ℕ) (names : List (List ℕ)) (k : ℕ) → IsDistinct bytes_eq (x ∷ names) → k < length names → bytes_eq (name_at names k) x ≡ false
other_first x names k d below = by (bytes_eq (name_at names k) x) refl
  where
    apart : bytes_eq x (name_at names k) ≡ false
    apart = apart_from_distinct bytes_eq (x ∷ names) 0 (suc k) [] d (omega arith) (omega arith)

    by : (b : Bool) → bytes_eq (name_at names k) x ≡ b → b ≡ false
    by true e = sym (bytes_same x (name_at names k) (sym (bytes_eq-same (name_at names k) x e))) ∙ apart
    by false e = refl

-- what stands at the number of a name is there of the name
pub named_at_number : (names : List (List ℕ)) (those : List Named) (k : ℕ) (this : Named) → IsDistinct bytes_eq names → k < length names → slice_get those k ≡ Some this
    → named_in names those (name_at names k) ≡ this
named_at_number [] those k this d below at = absurd (omega arith)
named_at_number (x ∷ names) [] k this d below at = cc
named_at_number (x ∷ names) (t ∷ those) zero this d below at =
    let same : bytes_eq x x ≡ true = bytes_same x x refl in simp same (let e : Some t ≡ Some this = at in cc)
named_at_number (x ∷ names) (t ∷ those) (suc k) this d below at =
    let apart = other_first x names k d (omega arith) in
    let rest = named_at_number names those k this (IsDistinct-tail bytes_eq x names d) (omega arith) at in
    simp apart rest

nowhere_at : (x : List ℕ) (names : List (List ℕ)) (t : Named) (those : List Named) (name : List ℕ) (b : Bool) → bytes_eq name x ≡ b → has_name (x ∷ names) name ≡ false
    → (has_name names name ≡ false → named_in names those name ≡ nothing_named) → named_in (x ∷ names) (t ∷ those) name ≡ nothing_named
nowhere_at x names t those name true e h rest = let bad : true ≡ false = rw e at h in cc
nowhere_at x names t those name false e h rest = simp e (rest (rw e at h))

-- nothing is there of a name without a number
pub named_nowhere : (names : List (List ℕ)) (those : List Named) (name : List ℕ) → has_name names name ≡ false → named_in names those name ≡ nothing_named
named_nowhere [] those name h = refl
named_nowhere (x ∷ names) [] name h = refl
named_nowhere (x ∷ names) (t ∷ those) name h = nowhere_at x names t those name (bytes_eq name x) refl h (named_nowhere names those name)

set_first : (x : List ℕ) (names : List (List ℕ)) (t : Named) (those : List Named) (this : Named) (n : List ℕ) (b : Bool) → bytes_eq n x ≡ b
    → named_in (x ∷ names) (this ∷ those) n ≡ cond (bytes_eq n x) this (named_in (x ∷ names) (t ∷ those) n)
set_first x names t those this n true e = simp e refl
set_first x names t those this n false e = simp e refl

set_later : (x : List ℕ) (names : List (List ℕ)) (t : Named) (those after : List Named) (name : List ℕ) (this : Named) (n : List ℕ) (b c : Bool) → bytes_eq n x ≡ b → bytes_eq n name ≡ c
    → bytes_eq name x ≡ false → named_in names after n ≡ cond (bytes_eq n name) this (named_in names those n)
    → named_in (x ∷ names) (t ∷ after) n ≡ cond (bytes_eq n name) this (named_in (x ∷ names) (t ∷ those) n)
set_later x names t those after name this n true true e f apart rest =
    let bad : true ≡ false = sym (ap (λ m. bytes_eq m x) (sym (bytes_eq-same n name f)) ∙ e) ∙ apart in cc
set_later x names t those after name this n true false e f apart rest = simp (e, f) refl
set_later x names t those after name this n false true e f apart rest = simp (e, f) (rest ∙ simp f refl)
set_later x names t those after name this n false false e f apart rest = simp (e, f) (rest ∙ simp f refl)

-- what is there of any name once what stands at the number of one is written
named-set : (names : List (List ℕ)) (those : List Named) (k : ℕ) (this : Named) (n : List ℕ) → IsDistinct bytes_eq names → k < length names → length names ≡ length those
    → named_in names (set those k this) n ≡ cond (bytes_eq n (name_at names k)) this (named_in names those n)
named-set [] those k this n d below long = absurd (omega arith)
named-set (x ∷ names) [] k this n d below long = absurd (omega arith)
named-set (x ∷ names) (t ∷ those) zero this n d below long = set_first x names t those this n (bytes_eq n x) refl
named-set (x ∷ names) (t ∷ those) (suc k) this n d below long =
    set_later x names t those (set those k this) (name_at names k) this n (bytes_eq n x) (bytes_eq n (name_at names k)) refl refl (other_first x names k d (omega arith))
    (named-set names those k this n (IsDistinct-tail bytes_eq x names d) (omega arith) (omega arith))

push_later : (x : List ℕ) (names more : List (List ℕ)) (t : Named) (those after : List Named) (name : List ℕ) (this : Named) (n : List ℕ) (u : Bool) → bytes_eq name x ≡ u
    → has_name (x ∷ names) name ≡ false
    → (has_name names name ≡ false → named_in more after n ≡ cond (bytes_eq n name) this (named_in names those n))
    → named_in (x ∷ more) (t ∷ after) n ≡ cond (bytes_eq n name) this (named_in (x ∷ names) (t ∷ those) n)
push_later x names more t those after name this n true g fresh rest = let bad : true ≡ false = rw g at fresh in cc
push_later x names more t those after name this n false g fresh rest = by (bytes_eq n x) (bytes_eq n name) refl refl (rest (rw g at fresh))
  where
    by : (b c : Bool) → bytes_eq n x ≡ b → bytes_eq n name ≡ c → named_in more after n ≡ cond (bytes_eq n name) this (named_in names those n)
        → named_in (x ∷ more) (t ∷ after) n ≡ cond (bytes_eq n name) this (named_in (x ∷ names) (t ∷ those) n)
    by true true e f h = let bad : true ≡ false = sym (ap (λ m. bytes_eq m x) (sym (bytes_eq-same n name f)) ∙ e) ∙ g in cc
    by true false e f h = simp (e, f) refl
    by false true e f h = simp (e, f) (h ∙ simp f refl)
    by false false e f h = simp (e, f) (h ∙ simp f refl)

-- what is there of any name once a new one has the next number
named-push : (names : List (List ℕ)) (those : List Named) (name : List ℕ) (this : Named) (n : List ℕ) → has_name names name ≡ false → length names ≡ length those
    → named_in (names ++ name ∷ []) (those ++ this ∷ []) n ≡ cond (bytes_eq n name) this (named_in names those n)
named-push [] [] name this n fresh long = refl
named-push [] (t ∷ those) name this n fresh long = absurd (omega arith)
named-push (x ∷ names) [] name this n fresh long = absurd (omega arith)
named-push (x ∷ names) (t ∷ those) name this n fresh long =
    push_later x names (names ++ name ∷ []) t those (those ++ this ∷ []) name this n (bytes_eq name x) refl fresh (λ h. named-push names those name this n h (omega arith))

-- a change of what is there of one name
changed_at : (found : List ℕ → Named) (change : Named → Named) (name : List ℕ) (this : Named) (n : List ℕ) → this ≡ change (found name) → (b : Bool) → bytes_eq n name ≡ b
    → cond (bytes_eq n name) this (found n) ≡ cond (bytes_eq n name) (change (found n)) (found n)
changed_at found change name this n is true e =
    let here : this ≡ change (found n) = is ∙ ap (λ m. change (found m)) (sym (bytes_eq-same n name e)) in simp e here
changed_at found change name this n is false e = simp e refl

module _ (names : List (List ℕ)) (those : List Named) (name : List ℕ) (change : Named → Named) (this : Named) (n : List ℕ)
    (is : this ≡ change (named_in names those name)) (long : length names ≡ length those) where
  changed : cond (bytes_eq n name) this (named_in names those n) ≡ cond (bytes_eq n name) (change (named_in names those n)) (named_in names those n)
  changed = changed_at (named_in names those) change name this n is (bytes_eq n name) refl

  -- what is there of a name is changed at its number
  pub changed-known : (k : ℕ) → IsDistinct bytes_eq names → k < length names → name_at names k ≡ name
      → named_in names (set those k this) n ≡ cond (bytes_eq n name) (change (named_in names those n)) (named_in names those n)
  changed-known k d below at = named-set names those k this n d below long ∙ ap (λ m. cond (bytes_eq n m) this (named_in names those n)) at ∙ changed

  -- what is there of a new name comes last
  pub changed-fresh : has_name names name ≡ false
      → named_in (names ++ name ∷ []) (those ++ this ∷ []) n ≡ cond (bytes_eq n name) (change (named_in names those n)) (named_in names those n)
  changed-fresh fresh = named-push names those name this n fresh long ∙ changed

-- a number that was there is one of a name that was there
pub known_number : (names new : List (List ℕ)) (name : List ℕ) (k : ℕ) → new ≡ added names name → name_at new k ≡ name → k < length names → (new ≡ names) × (name_at names k ≡ name)
known_number names new name k is at below = by (has_name names name) refl
  where
    by : (b : Bool) → has_name names name ≡ b → (new ≡ names) × (name_at names k ≡ name)
    by true e = let same : new ≡ names = is ∙ simp e refl in (same, ap (λ l. name_at l k) (sym same) ∙ at)
    by false e =
        let longer : new ≡ names ++ name ∷ [] = is ∙ added_new names name e in
        let there : name_at names k ≡ name = sym (get_or_append_left names (name ∷ []) [] k below) ∙ ap (λ l. name_at l k) (sym longer) ∙ at in
        let bad : true ≡ false = sym (has_name_at names k below) ∙ ap (has_name names) there ∙ e in cc

-- a number past them is that of a new name
pub fresh_number : (names new : List (List ℕ)) (name : List ℕ) (k : ℕ) → new ≡ added names name → k < length new → length names ≤ k
    → (new ≡ names ++ name ∷ []) × (has_name names name ≡ false)
fresh_number names new name k is below past = by (has_name names name) refl
  where
    by : (b : Bool) → has_name names name ≡ b → (new ≡ names ++ name ∷ []) × (has_name names name ≡ false)
    by true e =
        let same : new ≡ names = is ∙ simp e refl in
        let long : length new ≡ length names = ap length same in absurd (omega arith)
    by false e = (is ∙ added_new names name e, e)
