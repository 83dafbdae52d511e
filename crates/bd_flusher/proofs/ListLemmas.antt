-- Elements by their places, and facts of all elements of a list.
use Rattle.std.proofs.Common.{◌≡◌, ◌⊎◌, ℕ, zero, suc, ◌<◌, ◌≤◌, List, [], ◌∷◌, ◌++◌, length, take, get_or, slice_get, Option, Some, None, IfSome, Contains, refl, sym, ap, subst, inl, inr, ⊎_elim, arith}
use Rattle.std.specs.List.{AllByRecursion}

pub none_is : {X : Type 0} (x : X) → None ≡ Some x → ⊥
none_is x e = cc

pub some_is : {X : Type 0} (x y : X) → Some x ≡ Some y → x ≡ y
some_is x y e = cc

some_none : {X : Type 0} (x : X) → Some x ≡ None → ⊥
some_none x e = cc

-- ---- all elements

pub all_map : {X : Type 0} (P Q : X → Type 0) → ((x : X) → P x → Q x) → (xs : List X) → AllByRecursion P xs → AllByRecursion Q xs
all_map P Q f [] all = tt
all_map P Q f (x ∷ xs) all = (f x all.0, all_map P Q f xs all.1)

pub all_both : {X : Type 0} (P : X → Type 0) (xs ys : List X) → AllByRecursion P xs → AllByRecursion P ys → AllByRecursion P (xs ++ ys)
all_both P [] ys front back = back
all_both P (x ∷ xs) ys front back = (front.0, all_both P xs ys front.1 back)

at_place : {X : Type 0} (P : X → Type 0) (xs : List X) (x : X) (k : ℕ) → AllByRecursion P xs → k < length xs → get_or xs k x ≡ x → P x
at_place P [] x k all below is = absurd (omega (arith, below))
at_place P (y ∷ ys) x zero all below is = subst P is all.0
at_place P (y ∷ ys) x (suc k) all below is = at_place P ys x k all.1 (omega (arith, below)) is

pub all_at : {X : Type 0} (P : X → Type 0) (xs : List X) (x : X) → AllByRecursion P xs → Contains xs x → P x
all_at P xs x all c = at_place P xs x c.0 all c.1 c.2

pub contains_more : {X : Type 0} (y : X) (xs : List X) (x : X) → Contains xs x → Contains (y ∷ xs) x
contains_more y xs x c = (suc c.0, omega (arith, c.1), c.2)

pub contains_first : {X : Type 0} (x : X) (xs : List X) → Contains (x ∷ xs) x
contains_first x xs = (zero, omega arith, refl)

-- ---- places

pub at-push : {X : Type 0} (xs : List X) (y : X) (k : ℕ) (x : X) → slice_get xs k ≡ Some x → slice_get (xs ++ y ∷ []) k ≡ Some x
at-push [] y k x e = absurd (none_is x e)
at-push (z ∷ zs) y zero x e = e
at-push (z ∷ zs) y (suc k) x e = at-push zs y k x e

pub at-push_last : {X : Type 0} (xs : List X) (y : X) → slice_get (xs ++ y ∷ []) (length xs) ≡ Some y
at-push_last [] y = refl
at-push_last (z ∷ zs) y = at-push_last zs y

pub at-push_cases : {X : Type 0} (xs : List X) (y : X) (k : ℕ) (x : X) → slice_get (xs ++ y ∷ []) k ≡ Some x → (slice_get xs k ≡ Some x) ⊎ ((k ≡ length xs) × (x ≡ y))
at-push_cases [] y zero x e = inr (refl, sym (some_is y x e))
at-push_cases [] y (suc k) x e = absurd (none_is x e)
at-push_cases (z ∷ zs) y zero x e = inl e
at-push_cases (z ∷ zs) y (suc k) x e = ⊎_elim (λ old. inl old) (λ new. inr (ap suc new.0, new.1)) (at-push_cases zs y k x e)

pub at-take : {X : Type 0} (xs : List X) (n k : ℕ) (x : X) → k < n → slice_get xs k ≡ Some x → slice_get (take n xs) k ≡ Some x
at-take [] n k x lt e = absurd (none_is x e)
at-take (z ∷ zs) zero k x lt e = absurd (omega (arith, lt))
at-take (z ∷ zs) (suc n) zero x lt e = e
at-take (z ∷ zs) (suc n) (suc k) x lt e = at-take zs n k x (omega (arith, lt)) e

pub at-take_back : {X : Type 0} (xs : List X) (n k : ℕ) (x : X) → slice_get (take n xs) k ≡ Some x → (k < n) × (slice_get xs k ≡ Some x)
at-take_back [] zero k x e = absurd (none_is x e)
at-take_back [] (suc n) k x e = absurd (none_is x e)
at-take_back (z ∷ zs) zero k x e = absurd (none_is x e)
at-take_back (z ∷ zs) (suc n) zero x e = (omega arith, e)
at-take_back (z ∷ zs) (suc n) (suc k) x e = let h = at-take_back zs n k x e in (omega (arith, h.0), h.1)

-- ---- fronts

pub take-front : {X : Type 0} (xs ys : List X) (n : ℕ) → n ≤ length xs → take n (xs ++ ys) ≡ take n xs
take-front [] ys zero le = refl
take-front [] ys (suc n) le = absurd (omega (arith, le))
take-front (z ∷ zs) ys zero le = refl
take-front (z ∷ zs) ys (suc n) le = ap (λ t. z ∷ t) (take-front zs ys n (omega (arith, le)))

pub take-whole : {X : Type 0} (xs : List X) → take (length xs) xs ≡ xs
take-whole [] = refl
take-whole (x ∷ xs) = ap (λ t. x ∷ t) (take-whole xs)

-- ---- what may be there

pub if_none : {X : Type 0} (P : X → Type 0) (o : Option X) → o ≡ None → IfSome o P
if_none P None e = tt
if_none P (Some x) e = absurd (some_none x e)

pub if_map : {X : Type 0} (P Q : X → Type 0) → ((x : X) → P x → Q x) → (o : Option X) → IfSome o P → IfSome o Q
if_map P Q f None h = tt
if_map P Q f (Some x) h = f x h
