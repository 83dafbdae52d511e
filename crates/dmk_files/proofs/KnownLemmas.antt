-- What was told of names that stand in a table.
use Rattle.std.proofs.Common.{◌≡◌, true≢false, ℕ, zero, suc, ◌<◌, ◌≤◌, Bool, true, false, ◌||◌, cond, List, [], ◌∷◌, ◌++◌, length, get_or, slice_set, Option, None, refl, sym, ap, ◌∙◌, arith}
use Rattle.std.specs.Prelude.{bytes_eq}
use Rattle.std.specs.List.{IsDistinct}
use Rattle.std.proofs.lemmas.Map.Keys.{IsDistinct-tail}
use Rattle.mk_names.specs.Names.{name_at, has_name}
use Rattle.mk_names.proofs.NameLemmas.{same_bytes, bytes_same, new_at}
use Rattle.dmk_files.specs.Stamps.{told_of}
use Rattle.mk_nodes.specs.declared.file_look.FileLook.{FileLook}

-- what is told of one name
abbrev pub Told : Type 0
Told = Option (Option FileLook)

first_of : (a b : Bool) → (a || b) ≡ false → a ≡ false
first_of true b e = e
first_of false b e = refl

second_of : (a b : Bool) → (a || b) ≡ false → b ≡ false
second_of true b e = absurd (true≢false e)
second_of false b e = e

-- the names behind the first have other bytes
other_first : (x : List ℕ) (names : List (List ℕ)) (n : ℕ) → IsDistinct bytes_eq (x ∷ names) → n < length names → bytes_eq (name_at names n) x ≡ false
other_first x names n once h = first_of (bytes_eq (name_at names n) x) _ (new_at (x ∷ names) (suc n) once (omega arith))

-- nothing is told of any name
told_nothing : (names : List (List ℕ)) (name : List ℕ) → told_of names [] name ≡ None
told_nothing [] name = refl
told_nothing (x ∷ names) name = refl

-- what is told at the number of a name
pub told_at : (names : List (List ℕ)) (told : List Told) (n : ℕ) → IsDistinct bytes_eq names → n < length names →
    told_of names told (name_at names n) ≡ get_or told n None
told_at [] told n once h = absurd (omega arith)
told_at (x ∷ names) [] n once h = refl
told_at (x ∷ names) (time ∷ told) zero once h = ap (λ b. cond b time (told_of names told x)) (bytes_same x x refl)
told_at (x ∷ names) (time ∷ told) (suc n) once h =
    ap (λ b. cond b time (told_of names told (name_at names n))) (other_first x names n once (omega arith))
    ∙ told_at names told n (IsDistinct-tail bytes_eq x names once) (omega arith)

-- nothing of other names
pub told_none : (names : List (List ℕ)) (told : List Told) (name : List ℕ) → has_name names name ≡ false → told_of names told name ≡ None
told_none [] told name absent = refl
told_none (x ∷ names) [] name absent = refl
told_none (x ∷ names) (time ∷ told) name absent =
    ap (λ b. cond b time (told_of names told name)) (first_of (bytes_eq name x) (has_name names name) absent)
    ∙ told_none names told name (second_of (bytes_eq name x) (has_name names name) absent)

-- nothing is told of a new name
pub told_behind : (names : List (List ℕ)) (told : List Told) (x name : List ℕ) → length told ≤ length names →
    told_of (names ++ x ∷ []) told name ≡ told_of names told name
told_behind [] [] x name within = refl
told_behind [] (time ∷ told) x name within = absurd (omega arith)
told_behind (y ∷ names) [] x name within = refl
told_behind (y ∷ names) (time ∷ told) x name within = ap (λ t. cond (bytes_eq name y) time t) (told_behind names told x name (omega arith))

nothing_either : (b : Bool) (t : Told) → t ≡ None → cond b None t ≡ None
nothing_either true t e = refl
nothing_either false t e = e

-- nothing more is told where the list gets longer
pub told_longer : (names : List (List ℕ)) (told : List Told) (name : List ℕ) → told_of names (told ++ None ∷ []) name ≡ told_of names told name
told_longer [] told name = refl
told_longer (x ∷ names) [] name = nothing_either (bytes_eq name x) (told_of names [] name) (told_nothing names name)
told_longer (x ∷ names) (time ∷ told) name = ap (λ t. cond (bytes_eq name x) time t) (told_longer names told name)

set_first : (b : Bool) (one before rest : Told) → cond b one rest ≡ cond b one (cond b before rest)
set_first true one before rest = refl
set_first false one before rest = refl

set_later : (x y name : List ℕ) (time one rest more : Told) → bytes_eq y x ≡ false → more ≡ cond (bytes_eq name y) one rest →
    (t u : Bool) → bytes_eq name x ≡ t → bytes_eq name y ≡ u → cond t time more ≡ cond u one (cond t time rest)
set_later x y name time one rest more apart ih true true e f =
    let same : bytes_eq y x ≡ true = bytes_same y x (sym (same_bytes name y f) ∙ same_bytes name x e) in absurd (true≢false (sym same ∙ apart))
set_later x y name time one rest more apart ih true false e f = refl
set_later x y name time one rest more apart ih false true e f = ih ∙ ap (λ b. cond b one rest) f
set_later x y name time one rest more apart ih false false e f = ih ∙ ap (λ b. cond b one rest) f

-- what is told of the name with a number is written over
pub told_set : (names : List (List ℕ)) (told : List Told) (k : ℕ) (one : Told) (name : List ℕ) → IsDistinct bytes_eq names → k < length names → k < length told →
    told_of names (slice_set told k one) name ≡ cond (bytes_eq name (name_at names k)) one (told_of names told name)
told_set [] told k one name once h g = absurd (omega arith)
told_set (x ∷ names) [] k one name once h g = absurd (omega arith)
told_set (x ∷ names) (time ∷ told) zero one name once h g = set_first (bytes_eq name x) one time (told_of names told name)
told_set (x ∷ names) (time ∷ told) (suc k) one name once h g =
    set_later x (name_at names k) name time one (told_of names told name) (told_of names (slice_set told k one) name) (other_first x names k once (omega arith))
    (told_set names told k one name (IsDistinct-tail bytes_eq x names once) (omega arith) (omega arith)) (bytes_eq name x) (bytes_eq name (name_at names k)) refl refl

-- what is told of a new name stands last
pub told_last : (names : List (List ℕ)) (told : List Told) (x : List ℕ) (one : Told) (name : List ℕ) → has_name names x ≡ false → length told ≡ length names →
    told_of (names ++ x ∷ []) (told ++ one ∷ []) name ≡ cond (bytes_eq name x) one (told_of names told name)
told_last [] [] x one name absent as_many = refl
told_last [] (time ∷ told) x one name absent as_many = absurd (omega arith)
told_last (y ∷ names) [] x one name absent as_many = absurd (omega arith)
told_last (y ∷ names) (time ∷ told) x one name absent as_many =
    set_later y x name time one (told_of names told name) (told_of (names ++ x ∷ []) (told ++ one ∷ []) name) (first_of (bytes_eq x y) (has_name names x) absent)
    (told_last names told x one name (second_of (bytes_eq x y) (has_name names x) absent) (omega arith)) (bytes_eq name y) (bytes_eq name x) refl refl
