-- What follows from the definition of a crash image.
use Rattle.std.specs.Prelude.{◌≡◌, ℕ, ◌+◌, ◌<◌, ◌≤◌, List, [], ◌∷◌, ◌++◌, refl}
use Rattle.std.proofs.Common.{inl, inr, subst, arith}
use Rattle.std.proofs.lemmas.List.{ext_get_or}
use Rattle.st_disk.specs.declared.which.Which.{Which}
use Rattle.st_disk.specs.declared.which.Which.TheVariants.{A, B}
use Rattle.st_disk.specs.Crash.{UnsyncedWrites, IsWritten, IsCrashImage, settled, Sides, writes_of, with_writes, other, EachPair, SideHas}

-- after a successful sync these bytes are a crash image, and the only one
pub settled_image : (bytes : List ℕ) → IsCrashImage (settled bytes) bytes
settled_image bytes = record { no_shorter = omega arith; no_longer = omega arith; kept = λ place below uncut unwritten. refl }

pub only_image : {bytes image : List ℕ} → IsCrashImage (settled bytes) image → image ≡ bytes
only_image {bytes} {image} is = ext_get_or 0 image bytes (omega (arith, is.no_shorter, is.no_longer))
    (λ place below. is.kept place (omega (arith, below, is.no_longer)) (omega (arith, below, is.no_longer)) (λ none. none))

-- a place in one range more
pub IsWritten-push : (ranges : List (ℕ × ℕ)) (at n place : ℕ) → IsWritten ranges place → IsWritten (ranges ++ (at, n) ∷ []) place
IsWritten-push [] at n place none = absurd none
IsWritten-push (range ∷ ranges) at n place (inl here) = inl here
IsWritten-push (range ∷ ranges) at n place (inr there) = inr (IsWritten-push ranges at n place there)

pub IsWritten-push_last : (ranges : List (ℕ × ℕ)) (at n place : ℕ) → at ≤ place → place < at + n → IsWritten (ranges ++ (at, n) ∷ []) place
IsWritten-push_last [] at n place from below = inl (from, below)
IsWritten-push_last (range ∷ ranges) at n place from below = inr (IsWritten-push_last ranges at n place from below)

-- a side's writes after a change of that side or of the other one
pub writes_of-with_same : (side : Which) (writes : UnsyncedWrites) (sides : Sides) → writes_of side (with_writes side writes sides) ≡ writes
writes_of-with_same A writes sides = refl
writes_of-with_same B writes sides = refl

pub writes_of-with_other : (side : Which) (writes : UnsyncedWrites) (sides : Sides) → writes_of (other side) (with_writes side writes sides) ≡ writes_of (other side) sides
writes_of-with_other A writes sides = refl
writes_of-with_other B writes sides = refl

-- what has P has Q
pub side_map : {side : Which} {away : UnsyncedWrites} {P Q : List ℕ → Type 0} (sides : Sides) → ((bytes : List ℕ) → P bytes → Q bytes) → SideHas side away P sides → SideHas side away Q sides
side_map {side} {away} {P} {Q} sides implies has = record { away_same = has.away_same; each = λ bytes is. implies bytes (has.each bytes is) }

-- one side's images have P, the other's have Q: so each pair has both
pub pair_has_a : {away : UnsyncedWrites} {P Q : List ℕ → Type 0} (sides : Sides) → SideHas A away P sides → ((bytes : List ℕ) → IsCrashImage away bytes → Q bytes)
    → EachPair (λ a b. P a × Q b) sides
pair_has_a sides has rest a b is_a is_b = (has.each a is_a, rest b (subst (λ w. IsCrashImage w b) has.away_same is_b))

pub pair_has_b : {away : UnsyncedWrites} {P Q : List ℕ → Type 0} (sides : Sides) → SideHas B away P sides → ((bytes : List ℕ) → IsCrashImage away bytes → Q bytes)
    → EachPair (λ a b. Q a × P b) sides
pair_has_b sides has rest a b is_a is_b = (rest a (subst (λ w. IsCrashImage w a) has.away_same is_a), has.each b is_b)
