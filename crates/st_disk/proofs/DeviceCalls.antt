-- What one call of an honest disk does to what holds of each crash image of a side: the premises are the clauses of
-- `Disk`, word for word, so a layer above proves a statement about a run of calls by one step a call.
use Rattle.std.specs.Prelude.{◌≡◌, ℕ, ◌+◌, ◌≤◌, List, length, take, drop, refl}
use Rattle.std.proofs.Common.{sym, ◌∙◌, ap, subst}
use Rattle.st_disk.specs.declared.which.Which.{Which}
use Rattle.st_disk.specs.declared.which.Which.TheVariants.{A, B}
use Rattle.st_disk.specs.Crash.{UnsyncedWrites, IsCrashImage, settled, written_at, cut_to, Sides, writes_of, with_writes, other, SideHas}
use Rattle.st_disk.specs.Moments.{Moments, now, after_write, after_cut, after_sync, Passes, MayPass, Throughout}
use Rattle.st_disk.proofs.CrashLaws.{only_image, writes_of-with_same, writes_of-with_other}
use Rattle.st_disk.proofs.MomentLaws.{goes_on, started, at_end}
use Rattle.st_disk.proofs.TornLaws.{torn_front, torn_back, torn_length}

-- a changed side has P, the other one is as at the start
pub stage : {side : Which} {away : UnsyncedWrites} {P : List ℕ → Type 0} (writes : UnsyncedWrites) (sides : Sides) → writes_of (other side) sides ≡ away → ((bytes : List ℕ) → IsCrashImage writes bytes → P bytes)
    → SideHas side away P (with_writes side writes sides)
stage {side = A} writes sides away each = record { away_same = away; each = each }
stage {side = B} writes sides away each = record { away_same = away; each = each }

-- before the first call
pub at_first : {side : Which} {P : List ℕ → Type 0} (moments : Moments) → ((bytes : List ℕ) → IsCrashImage (writes_of side (now moments)) bytes → P bytes)
    → Throughout moments moments (SideHas side (writes_of (other side) (now moments)) P)
at_first moments each = started moments (record { away_same = refl; each = each })

module _ {side : Which} {away : UnsyncedWrites} {P : List ℕ → Type 0} {start old new : Moments} (so_far : Throughout start old (SideHas side away P)) where
  -- a write more, whatever it answered
  pub writes_on : (at n : ℕ) → MayPass (after_write side at n old) old new → ((bytes : List ℕ) → IsCrashImage (written_at at n (writes_of side (now old))) bytes → P bytes)
      → Throughout start new (SideHas side away P)
  writes_on at n may each = goes_on so_far may (stage (written_at at n (writes_of side (now old))) (now old) (at_end so_far).away_same each)

  -- a cut more, whatever it answered
  pub cuts_on : (len : ℕ) → MayPass (after_cut side len old) old new → ((bytes : List ℕ) → IsCrashImage (cut_to len (writes_of side (now old))) bytes → P bytes)
      → Throughout start new (SideHas side away P)
  cuts_on len may each = goes_on so_far may (stage (cut_to len (writes_of side (now old))) (now old) (at_end so_far).away_same each)

  -- a sync more, whatever it answered: what reads give is an image before it, so no more has to be shown
  pub syncs_on : (seen : List ℕ) → MayPass (after_sync side seen old) old new → IsCrashImage (writes_of side (now old)) seen → Throughout start new (SideHas side away P)
  syncs_on seen may image = goes_on so_far may (stage (settled seen) (now old) (at_end so_far).away_same
      (λ bytes is. subst P (sym (only_image is)) ((at_end so_far).each seen image)))

-- the side after a call that succeeded, and the other one
module _ (side : Which) {old new : Moments} where
  pub side_written : (at n : ℕ) → Passes (after_write side at n old) old new → writes_of side (now new) ≡ written_at at n (writes_of side (now old))
  side_written at n passes = ap (writes_of side) passes.here ∙ writes_of-with_same side (written_at at n (writes_of side (now old))) (now old)

  pub other_written : (at n : ℕ) → Passes (after_write side at n old) old new → writes_of (other side) (now new) ≡ writes_of (other side) (now old)
  other_written at n passes = ap (writes_of (other side)) passes.here ∙ writes_of-with_other side (written_at at n (writes_of side (now old))) (now old)

  pub side_cut : (len : ℕ) → Passes (after_cut side len old) old new → writes_of side (now new) ≡ cut_to len (writes_of side (now old))
  side_cut len passes = ap (writes_of side) passes.here ∙ writes_of-with_same side (cut_to len (writes_of side (now old))) (now old)

  pub other_cut : (len : ℕ) → Passes (after_cut side len old) old new → writes_of (other side) (now new) ≡ writes_of (other side) (now old)
  other_cut len passes = ap (writes_of (other side)) passes.here ∙ writes_of-with_other side (cut_to len (writes_of side (now old))) (now old)

  pub side_synced : (seen : List ℕ) → Passes (after_sync side seen old) old new → writes_of side (now new) ≡ settled seen
  side_synced seen passes = ap (writes_of side) passes.here ∙ writes_of-with_same side (settled seen) (now old)

  pub other_synced : (seen : List ℕ) → Passes (after_sync side seen old) old new → writes_of (other side) (now new) ≡ writes_of (other side) (now old)
  other_synced seen passes = ap (writes_of (other side)) passes.here ∙ writes_of-with_other side (settled seen) (now old)

-- a settled side has one image, which reads give
pub settled_seen : {writes : UnsyncedWrites} {bytes seen : List ℕ} → writes ≡ settled bytes → IsCrashImage writes seen → seen ≡ bytes
settled_seen {seen = seen} is image = only_image (subst (λ (w : UnsyncedWrites). IsCrashImage w seen) is image)

-- after one write to a settled side each image has what stood in front of it
pub written_behind : {writes : UnsyncedWrites} {old : List ℕ} (at n : ℕ) → writes ≡ settled old → at ≤ length old → (bytes : List ℕ) → IsCrashImage (written_at at n writes) bytes → take at bytes ≡ take at old
written_behind {old = old} at n is within bytes image = torn_front old at n (subst (λ (w : UnsyncedWrites). IsCrashImage (written_at at n w) bytes) is image) within

-- and one within the old bytes keeps the length and what stands behind it
pub written_within : {writes : UnsyncedWrites} {old : List ℕ} (at n : ℕ) → writes ≡ settled old → at + n ≤ length old → (bytes : List ℕ) → IsCrashImage (written_at at n writes) bytes
    → (length bytes ≡ length old) × (drop (at + n) bytes ≡ drop (at + n) old)
written_within {old = old} at n is within bytes image =
    let torn = subst (λ (w : UnsyncedWrites). IsCrashImage (written_at at n w) bytes) is image in
    (torn_length old at n torn within, torn_back old at n torn within)
