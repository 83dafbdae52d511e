-- Names that fit, element by element.
use Rattle.std.proofs.Common.{◌≡◌, ℕ, Bool, true, false, ◌||◌, ◌&&◌, List, [], ◌∷◌, drop, refl, sym, ◌∙◌, inl, inr, ◌⊎◌}
use Rattle.mk_wildcards.specs.Fits.{some_end, fits}
use Rattle.mk_wildcards.specs.Places.{takes, is_run, has_failed, left, Later}
use Rattle.mk_wildcards.specs.declared.element.Element.{Element}
use Rattle.mk_wildcards.specs.declared.element.Element.TheVariants.{Byte, AnyByte, AnyRun, OneOf}
use Rattle.mk_wildcards.specs.declared.fits.Place.{Place}
use Rattle.mk_wildcards.specs.declared.fits.Place.TheVariants.{Ends, Fails, Run}

or_right : (s t : Bool) → t ≡ true → (s || t) ≡ true
or_right true t h = refl
or_right false t h = h

or_left : (s t : Bool) → s ≡ true → (s || t) ≡ true
or_left true t h = refl
or_left false t h = absurd (cc h)

or_either : (s t : Bool) → (s || t) ≡ true → (s ≡ true) ⊎ (t ≡ true)
or_either true t h = inl refl
or_either false t h = inr h

and_right : (s t : Bool) → (s && t) ≡ true → t ≡ true
and_right true t h = h
and_right false t h = absurd (cc h)

-- Ends of names

module _ (passes : List ℕ → Bool) where
  whole_end : (xs : List ℕ) → passes xs ≡ true → some_end passes xs ≡ true
  whole_end [] h = h
  whole_end (b ∷ bs) h = or_left (passes (b ∷ bs)) (some_end passes bs) h

  later_end : (xs : List ℕ) → some_end passes (drop 1 xs) ≡ true → some_end passes xs ≡ true
  later_end [] h = h
  later_end (b ∷ bs) h = or_right (passes (b ∷ bs)) (some_end passes bs) h

  end_of_end : (xs : List ℕ) → some_end (some_end passes) xs ≡ true → some_end passes xs ≡ true
  end_of_end [] h = h
  end_of_end (b ∷ bs) h = at (end_of_end bs) (or_either (some_end passes (b ∷ bs)) (some_end (some_end passes) bs) h)
    where
      at : (some_end (some_end passes) bs ≡ true → some_end passes bs ≡ true) → (some_end passes (b ∷ bs) ≡ true) ⊎ (some_end (some_end passes) bs ≡ true) → some_end passes (b ∷ bs) ≡ true
      at more (inl here) = here
      at more (inr there) = or_right (passes (b ∷ bs)) (some_end passes bs) (more there)

-- An element that is no `*`

pub single_step : (e : Element) (more : List Element) (b : ℕ) (bs : List ℕ) → is_run e ≡ false → fits (e ∷ more) (b ∷ bs) ≡ (takes e b && fits more bs)
single_step (Byte c) more b bs h = refl
single_step AnyByte more b bs h = refl
single_step (OneOf found) more b bs h = refl
single_step AnyRun more b bs h = absurd (cc h)

pub single_none : (e : Element) (more : List Element) → is_run e ≡ false → fits (e ∷ more) [] ≡ false
single_none (Byte c) more h = refl
single_none AnyByte more h = refl
single_none (OneOf found) more h = refl
single_none AnyRun more h = absurd (cc h)

pub single_later : (e : Element) (more : List Element) (xs : List ℕ) → is_run e ≡ false → some_end (fits (e ∷ more)) xs ≡ true → some_end (fits more) (drop 1 xs) ≡ true
single_later e more [] h t = absurd (cc (sym (single_none e more h) ∙ t))
single_later e more (c ∷ cs) h t = at (single_later e more cs h) (or_either (fits (e ∷ more) (c ∷ cs)) (some_end (fits (e ∷ more)) cs) t)
  where
    at : (some_end (fits (e ∷ more)) cs ≡ true → some_end (fits more) (drop 1 cs) ≡ true) → (fits (e ∷ more) (c ∷ cs) ≡ true) ⊎ (some_end (fits (e ∷ more)) cs ≡ true) → some_end (fits more) cs ≡ true
    at rest (inl here) = whole_end (fits more) cs (and_right (takes e c) (fits more cs) (sym (single_step e more c cs h) ∙ here))
    at rest (inr there) = later_end (fits more) cs (rest there)

-- A `*`

pub run_later : (e : Element) (more : List Element) (xs : List ℕ) → is_run e ≡ true → some_end (fits (e ∷ more)) (drop 1 xs) ≡ true → some_end (fits more) xs ≡ true
run_later (Byte c) more xs h t = absurd (cc h)
run_later AnyByte more xs h t = absurd (cc h)
run_later (OneOf found) more xs h t = absurd (cc h)
run_later AnyRun more xs h t = later_end (fits more) xs (end_of_end (fits more) (drop 1 xs) t)

-- Places

absorbed : (l f t : Bool) → l ≡ f → (t ≡ true → l ≡ true) → l ≡ (f || t)
absorbed l true t e h = e
absorbed l false true e h = h refl
absorbed l false false e h = e

pub first_is : (s : Place) (elements : List Element) (b : ℕ) (bs : List ℕ) → left s ≡ fits elements (b ∷ bs) → Later s elements (b ∷ bs) → has_failed s ≡ false →
    left s ≡ some_end (fits elements) (b ∷ bs)
first_is Ends elements b bs e later h = sym (or_left (fits elements (b ∷ bs)) (some_end (fits elements) bs) (sym e))
first_is Fails elements b bs e later h = absurd (cc h)
first_is (Run more rest) elements b bs e later h = absorbed (left (Run more rest)) (fits elements (b ∷ bs)) (some_end (fits elements) bs) e later
