-- Calls of the device, one for each of the moments that they pass, as steps.
use Rattle.std.proofs.Common.{◌≡◌, ℕ, zero, suc, ◌+◌, ◌<◌, ◌≤◌, Bool, false, List, [], ◌∷◌, ◌++◌, length, take, None, Some, slice_get, refl, sym, ap, subst, ◌∙◌, arith}
use Rattle.std.specs.List.{AllByRecursion}
use Rattle.st_disk.specs.Crash.{Sides}
use Rattle.st_disk.specs.Moments.{Moments, now}
use Rattle.bd_steps.specs.World.{World}
use Rattle.bd_steps.specs.Event.{Event, MayHappen, after}
use Rattle.bd_steps.specs.Run.{IsRun, after_all}
use Rattle.bd_steps.specs.Steps.{AreCalls}

-- ---- steps after steps

pub run_append : (w : World) (xs ys : List Event) → IsRun w xs → IsRun (after_all w xs) ys → IsRun w (xs ++ ys)
run_append w [] ys first second = second
run_append w (x ∷ xs) ys first second = (first.0, first.1, run_append _ xs ys first.2 second)

pub after_all-append : (w : World) (xs ys : List Event) → after_all w (xs ++ ys) ≡ after_all (after_all w xs) ys
after_all-append w [] ys = refl
after_all-append w (x ∷ xs) ys = after_all-append _ xs ys

-- all of the first, and then some of the others
pub take_past : {X : Type 0} (xs ys : List X) (k n : ℕ) → k ≡ length xs + n → take k (xs ++ ys) ≡ xs ++ take n ys
take_past [] ys k n is = let e : k ≡ n = omega (arith, is) in ap (λ (i : ℕ). take i ys) e
take_past (x ∷ xs) ys zero n is = absurd (omega (arith, is))
take_past (x ∷ xs) ys (suc k) n is = ap (λ l. x ∷ l) (take_past xs ys k n (omega (arith, is)))

-- ---- the calls

-- what a power cut may leave is this, and no call has failed
abbrev pub calm : World → Sides → World
calm w sides = record w { sides = sides; dead = false }

-- what a power cut may leave after the calls of n moments
abbrev pub sides_after : Sides → (ℕ → Sides) → ℕ → ℕ → Sides
sides_after sides at from zero = sides
sides_after sides at from (suc n) = sides_after (at from) at (suc from) n

pub sides_last : (sides : Sides) (at : ℕ → Sides) (from n : ℕ) → sides_after sides at from (suc n) ≡ at (from + n)
sides_last sides at from zero = let e : from ≡ from + 0 = omega arith in ap at e
sides_last sides at from (suc n) = let e : suc from + n ≡ from + suc n = omega arith in sides_last (at from) at (suc from) n ∙ ap at e

-- one for each of n moments
abbrev pub calls : (Sides → Bool → Event) → (ℕ → Sides) → ℕ → ℕ → List Event
calls call at from zero = []
calls call at from (suc n) = call (at from) false ∷ calls call at (suc from) n

module _ (call : Sides → Bool → Event) (leaves : (w : World) (sides : Sides) → after w (call sides false) ≡ calm w sides) where
  pub calls_run : (w : World) (sides : Sides) (at : ℕ → Sides) (from n : ℕ) → w.left ≡ None
      → ((before : Sides) (k : ℕ) → from ≤ k → k < from + n → MayHappen (calm w before) (call (at k) false)) → IsRun (calm w sides) (calls call at from n)
  calls_run w sides at from zero running may = tt
  calls_run w sides at from (suc n) running may = (
    running,
    may sides from (omega arith) (omega arith),
    subst (λ (v : World). IsRun v (calls call at (suc from) n)) (sym (leaves (calm w sides) (at from)))
        (calls_run w (at from) at (suc from) n running (λ before k le lt. may before k (omega (arith, le)) (omega (arith, lt)))),
  )

  -- they change nothing but what a power cut may leave
  pub calls_leave : (w : World) (sides : Sides) (at : ℕ → Sides) (from n : ℕ) → after_all (calm w sides) (calls call at from n) ≡ calm w (sides_after sides at from n)
  calls_leave w sides at from zero = refl
  calls_leave w sides at from (suc n) =
      ap (λ (v : World). after_all v (calls call at (suc from) n)) (leaves (calm w sides) (at from)) ∙ calls_leave w (at from) at (suc from) n

  -- after some of them
  pub sides_of_some : (w : World) (sides : Sides) (at : ℕ → Sides) (from n j : ℕ) (tail : List Event) → j ≤ n → (after_all (calm w sides) (take j (calls call at from n ++ tail))).sides ≡ sides_after sides at from j
  sides_of_some w sides at from n zero tail le = refl
  sides_of_some w sides at from zero (suc j) tail le = absurd (omega (arith, le))
  sides_of_some w sides at from (suc n) (suc j) tail le =
      ap (λ (v : World). (after_all v (take j (calls call at (suc from) n ++ tail))).sides) (leaves (calm w sides) (at from))
      ∙ sides_of_some w (at from) at (suc from) n j tail (omega (arith, le))

pub calls_own : (P : Event → Type 0) (call : Sides → Bool → Event) → ((sides : Sides) → P (call sides false)) → (at : ℕ → Sides) (from n : ℕ) → AllByRecursion P (calls call at from n)
calls_own P call each at from zero = tt
calls_own P call each at from (suc n) = (each (at from), calls_own P call each at (suc from) n)

-- ---- their places

pub calls_count : (call : Sides → Bool → Event) (at : ℕ → Sides) (from n : ℕ) → length (calls call at from n) ≡ n
calls_count call at from zero = refl
calls_count call at from (suc n) = ap suc (calls_count call at (suc from) n)

calls_at : (call : Sides → Bool → Event) (at : ℕ → Sides) (from n place : ℕ) → place < n → slice_get (calls call at from n) place ≡ Some (call (at (from + place)) false)
calls_at call at from zero place lt = absurd (omega (arith, lt))
calls_at call at from (suc n) zero lt = let e : from ≡ from + 0 = omega arith in ap (λ k. Some (call (at k) false)) e
calls_at call at from (suc n) (suc place) lt =
    let e : suc from + place ≡ from + suc place = omega arith in
    calls_at call at (suc from) n place (omega (arith, lt)) ∙ ap (λ k. Some (call (at k) false)) e

-- they are those between the moments, where those are kept
pub are_calls : (call : Sides → Bool → Event) (old new : Moments) (at : ℕ → Sides) (n : ℕ) → old.newest + n ≡ new.newest → ((k : ℕ) → k ≤ new.newest → at k ≡ new.at k)
    → AreCalls call old new (calls call at (suc old.newest) n)
are_calls call old new at n more same = record {
  each_one = let long = calls_count call at (suc old.newest) n in omega (arith, more, long);
  in_order = λ place lt.
      let long = calls_count call at (suc old.newest) n in
      let within : place < n = omega (arith, lt, long) in
      let e : suc old.newest + place ≡ old.newest + 1 + place = omega arith in
      calls_at call at (suc old.newest) n place within ∙ ap (λ s. Some (call s false)) (ap at e ∙ same (old.newest + 1 + place) (omega (arith, within, more)));
}

-- ---- the sides at a moment

-- after the calls of some of the moments that went by
pub moment_after : (old : Moments) (at : ℕ → Sides) (sides : Sides) (j k : ℕ) → now old ≡ sides → k ≡ old.newest + j → at old.newest ≡ now old → sides_after sides at (suc old.newest) j ≡ at k
moment_after old at sides zero k here is kept =
    let e : k ≡ old.newest = omega (arith, is) in
    sym (ap at e ∙ kept ∙ here)
moment_after old at sides (suc j) k here is kept =
    let e : suc old.newest + j ≡ k = omega (arith, is) in
    sides_last sides at (suc old.newest) j ∙ ap at e
