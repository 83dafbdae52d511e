-- Names that were listed before they are found.
use Rattle.std.proofs.Common.{◌≡◌, ℕ, ◌<◌, ◌≤◌, Bool, true, false, ◌||◌, cond, List, [], ◌∷◌, ◌++◌, length, length-append, None, inl, inr, ◌⊎◌, refl, sym, ap, subst, ◌∙◌, arith}
use Rattle.std.specs.Prelude.{Result, Ok, Err, OnErr}
use Rattle.std.specs.Str.{bytes_eq}
use Rattle.mk_names.specs.Names.{name_at, has_name, added, all_added}
use Rattle.mk_names.proofs.NameLemmas.{added_new, all_added-append, begins_added, begins_all_added, bytes_same, same_bytes, has_name_at, length_from_begins, name_at-begins, has_all_added}
use Rattle.dmk_files.specs.Stamps.{Known, names_of, known_stamp, told_of}
use Rattle.dmk_files.proofs.KnownLemmas.{Told, told_behind, told_longer, told_none, told_last}

or_true : (b : Bool) → (b || true) ≡ true
or_true true = refl
or_true false = refl

-- among no names there is none
pub no_names : (names : List (List ℕ)) (name : List ℕ) → length names ≡ 0 → has_name names name ≡ false
no_names [] name none = refl
no_names (x ∷ names) name none = absurd (omega arith)

-- ---- names that are found already

-- of names that are there none is added
known_added : (names more : List (List ℕ)) → ((n : List ℕ) → has_name more n ≡ true → has_name names n ≡ true) → all_added names more ≡ names
known_added names [] there = refl
known_added names (x ∷ more) there =
    let here : has_name names x ≡ true = there x (ap (λ b. b || has_name more x) (bytes_same x x refl)) in
    ap (λ b. all_added (cond b names (names ++ x ∷ [])) more) here
    ∙ known_added names more (λ n is. there n (ap (λ b. bytes_eq n x || b) is ∙ or_true (bytes_eq n x)))

-- the first ones once more
again : (names front : List (List ℕ)) → all_added (all_added names front) front ≡ all_added names front
again names front = known_added (all_added names front) front
    (λ n is. has_all_added names front n ∙ ap (λ b. has_name names n || b) is ∙ or_true (has_name names n))

-- where the first ones are found already, all come to the same
pub rest_alike : (names front rest : List (List ℕ)) → all_added (all_added names front) (front ++ rest) ≡ all_added names (front ++ rest)
rest_alike names front rest =
    all_added-append (all_added names front) front rest ∙ ap (λ l. all_added l rest) (again names front) ∙ sym (all_added-append names front rest)

-- the number of a name that is found is its number among all
pub among_all : (found listed : List (List ℕ)) (n : ℕ) → n < length found → (n < length (all_added found listed)) × (name_at (all_added found listed) n ≡ name_at found n)
among_all found listed n h =
    let begins = begins_all_added found listed in
    let longer = length_from_begins found (all_added found listed) begins in
    (omega arith, name_at-begins found (all_added found listed) n begins h)

-- ---- one name more

-- a name with one of the numbers isn't added
pub stays_at : (names : List (List ℕ)) (name : List ℕ) (n : ℕ) → n < length names → name_at (added names name) n ≡ name → added names name ≡ names
stays_at names name n h at = ap (λ b. cond b names (names ++ name ∷ [])) there
  where
    there : has_name names name ≡ true
    there = subst (λ (x : List ℕ). has_name names x ≡ true) (sym (name_at-begins names (added names name) n (begins_added names name) h) ∙ at) (has_name_at names n h)

-- one with a number past them is
pub grows_at : (names : List (List ℕ)) (name : List ℕ) (n : ℕ) → length names ≤ n → n < length (added names name) → added names name ≡ names ++ name ∷ []
grows_at names name n past within = by (has_name names name) within
  where
    by : (b : Bool) → n < length (cond b names (names ++ name ∷ [])) → cond b names (names ++ name ∷ []) ≡ names ++ name ∷ []
    by true h = absurd (omega arith)
    by false h = refl

-- one that is neither found nor listed comes last
pub listed_last : (found listed : List (List ℕ)) (name : List ℕ) → has_name found name ≡ false → has_name listed name ≡ false →
    all_added found (listed ++ name ∷ []) ≡ all_added found listed ++ name ∷ []
listed_last found listed name no_found no_listed =
    all_added-append found listed (name ∷ [])
    ∙ added_new (all_added found listed) name (has_all_added found listed name ∙ ap (λ b. b || has_name listed name) no_found ∙ no_listed)

-- nothing is told of it
pub told_new : (names : List (List ℕ)) (told : List Told) (x name : List ℕ) → length told ≡ length names → told_of (names ++ x ∷ []) (told ++ None ∷ []) name ≡ told_of names told name
told_new names told x name as_many = told_longer (names ++ x ∷ []) told name ∙ told_behind names told x name (omega arith)

pub as_many_new : (names : List (List ℕ)) (told : List Told) (x : List ℕ) (one : Told) → length told ≡ length names → length (told ++ one ∷ []) ≡ length (names ++ x ∷ [])
as_many_new names told x one as_many = let a = length-append told (one ∷ []) in let b = length-append names (x ∷ []) in omega arith

-- ---- what is known

-- nothing is known of a name that is neither found nor listed
pub nothing_known : (known : Known) (name : List ℕ) → has_name known.found name ≡ false → has_name known.listed name ≡ false → known_stamp known name ≡ None
nothing_known known name no_found no_listed =
    told_none (names_of known) known.told name (has_all_added known.found known.listed name ∙ ap (λ b. b || has_name known.listed name) no_found ∙ no_listed)

-- what is told of a name that is listed anew
pub listed_told : (found listed : List (List ℕ)) (told : List Told) (x : List ℕ) (one : Told) (name : List ℕ) → has_name found x ≡ false → has_name listed x ≡ false →
    length told ≡ length (all_added found listed) →
    told_of (all_added found (listed ++ x ∷ [])) (told ++ one ∷ []) name ≡ cond (bytes_eq name x) one (told_of (all_added found listed) told name)
listed_told found listed told x one name no_found no_listed as_many =
    ap (λ (l : List (List ℕ)). told_of l (told ++ one ∷ []) name) (listed_last found listed x no_found no_listed)
    ∙ told_last (all_added found listed) told x one name (has_all_added found listed x ∙ ap (λ b. b || has_name listed x) no_found ∙ no_listed) as_many

or_none : (b : Bool) → (b || false) ≡ true → b ≡ true
or_none true e = refl
or_none false e = e

either : (b c d : Bool) (P : Type 0) → (c ≡ true → (d ≡ true) ⊎ P) → (b || c) ≡ true → ((b || d) ≡ true) ⊎ P
either true c d P f e = inl refl
either false c d P f e = f e

-- a listed name is one of these, or the new one
pub listed_of : (listed : List (List ℕ)) (x name : List ℕ) → has_name (listed ++ x ∷ []) name ≡ true → (has_name listed name ≡ true) ⊎ (name ≡ x)
listed_of [] x name is = inr (same_bytes name x (or_none (bytes_eq name x) is))
listed_of (y ∷ listed) x name is =
    either (bytes_eq name y) (has_name (listed ++ x ∷ []) name) (has_name listed name) (name ≡ x) (listed_of listed x name) is

-- ---- results

pub not_true : (b : Bool) → (b ≡ true → ⊥) → b ≡ false
not_true true never = absurd (never refl)
not_true false never = refl

-- what holds in any case holds of an error
pub of_error : {T E : Type 0} (r : Result T E) (P : Type 0) → P → OnErr r P
of_error (Ok v) P holds = tt
of_error (Err e) P holds = holds
