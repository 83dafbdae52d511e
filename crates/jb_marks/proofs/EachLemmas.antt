-- Two lists, place by place, of which the second grows.
use Rattle.std.proofs.Common.{◌≡◌, ℕ, zero, suc, List, [], ◌∷◌, ◌++◌, length, take, drop, refl, sym, subst, ap}
use Rattle.std.specs.Prelude.{IsSomeAnd, slice_get}
use Rattle.std.proofs.lemmas.List.{append_assoc, append-nil}
use Rattle.jb_marks.specs.Each.{EachWith}

-- whatever comes for what is left, behind what there is it is that of all
abbrev pub IsSoFar : {A B : Type 0} → (P : A → B → Type 0) → (all left : List A) → (has : List B) → Type 0
IsSoFar P all left has = (rest : List _) → EachWith P left rest → EachWith P all (has ++ rest)

pub so_far-more : {A B : Type 0} (P : A → B → Type 0) (all left : List A) (has : List B) (a : A) (b : B) → IsSoFar P all (a ∷ left) has → P a b
    → IsSoFar P all left (has ++ b ∷ [])
so_far-more P all left has a b h p = λ rest each. subst (EachWith P all) (sym (append_assoc has (b ∷ []) rest)) (h (b ∷ rest) (p, each))

pub so_far-all : {A B : Type 0} (P : A → B → Type 0) (all : List A) (has : List B) → IsSoFar P all [] has → EachWith P all has
so_far-all P all has h = subst (EachWith P all) (append-nil has) (h [] tt)

-- ---- what holds of two lists, place by place

pub each_length : {A B : Type 0} (P : A → B → Type 0) (as' : List A) (bs : List B) → EachWith P as' bs → length as' ≡ length bs
each_length P [] [] each = refl
each_length P [] (b ∷ bs) each = absurd each
each_length P (a ∷ as') [] each = absurd each
each_length P (a ∷ as') (b ∷ bs) each = ap suc (each_length P as' bs each.1)

pub each_map : {A B : Type 0} (P Q : A → B → Type 0) → ((a : A) (b : B) → P a b → Q a b) → (as' : List A) (bs : List B) → EachWith P as' bs → EachWith Q as' bs
each_map P Q on [] [] each = tt
each_map P Q on [] (b ∷ bs) each = absurd each
each_map P Q on (a ∷ as') [] each = absurd each
each_map P Q on (a ∷ as') (b ∷ bs) each = (on a b each.0, each_map P Q on as' bs each.1)

pub each_append : {A B : Type 0} (P : A → B → Type 0) (as' cs : List A) (bs ds : List B) → EachWith P as' bs → EachWith P cs ds → EachWith P (as' ++ cs) (bs ++ ds)
each_append P [] cs [] ds each others = others
each_append P [] cs (b ∷ bs) ds each others = absurd each
each_append P (a ∷ as') cs [] ds each others = absurd each
each_append P (a ∷ as') cs (b ∷ bs) ds each others = (each.0, each_append P as' cs bs ds each.1 others)

-- what one of the second list is that of
pub each_at : {A B : Type 0} (P : A → B → Type 0) (Q : B → Type 0) (as' : List A) (bs : List B) (i : ℕ) → EachWith P as' bs → IsSomeAnd (slice_get bs i) Q
    → (a : A) × (b : B) × P a b × Q b
each_at P Q [] [] i each some = absurd some
each_at P Q [] (b ∷ bs) i each some = absurd each
each_at P Q (a ∷ as') [] i each some = absurd each
each_at P Q (a ∷ as') (b ∷ bs) zero each some = (a, b, each.0, some)
each_at P Q (a ∷ as') (b ∷ bs) (suc i) each some = each_at P Q as' bs i each.1 some

drop-append_left : {A : Type 0} (as' bs : List A) → drop (length as') (as' ++ bs) ≡ bs
drop-append_left [] bs = refl
drop-append_left (a ∷ as') bs = drop-append_left as' bs

-- what stands behind the first ones
pub behind_first : {A : Type 0} (n : ℕ) (as' bs : List A) → n ≡ length as' → drop n (as' ++ bs) ≡ bs
behind_first n as' bs e = rw e (drop-append_left as' bs)

pub first_ones : {A : Type 0} (as' bs : List A) → take (length as') (as' ++ bs) ≡ as'
first_ones [] bs = refl
first_ones (a ∷ as') bs = ap (λ xs. a ∷ xs) (first_ones as' bs)
