-- What a disk in memory holds is a crash image of each side.
use Rattle.std.specs.Prelude.{◌≡◌, ℕ, List, length, refl}
use Rattle.std.proofs.Common.{sym, ap, subst, arith}
use Rattle.std.proofs.lemmas.List.{take_all}
use Rattle.st_disk.specs.declared.which.Which.{Which}
use Rattle.st_disk.specs.declared.which.Which.TheVariants.{A, B}
use Rattle.st_memory.specs.declared.call.Call.{Call}
use Rattle.st_memory.specs.declared.mem_side.MemSide.{MemSide}
use Rattle.st_disk.specs.Crash.{UnsyncedWrites, IsCrashImage, Sides, writes_of}
use Rattle.st_disk.specs.Moments.{now}
use Rattle.st_memory.specs.Memory.{MadeCall, MemorySides, side_of, blank, replay, made, sides_of, moments_of, IsReplayed}
use Rattle.st_disk.specs.Which.{pick}

pub writes_of-sides_of : (side : Which) (both : MemorySides) → writes_of side (sides_of both) ≡ (side_of side both).writes
writes_of-sides_of A both = refl
writes_of-sides_of B both = refl

pub now-moments_of : (calls : List MadeCall) → now (moments_of calls) ≡ sides_of (replay blank calls)
now-moments_of calls = ap (λ (l : List MadeCall). sides_of (replay blank l)) (take_all (length calls) calls (omega arith))

-- what the sides hold is a crash image
pub held_is_image : {calls : List Call} {written : List ℕ} {held : Which → MemSide} → IsReplayed calls written held → (side : Which) → IsCrashImage (writes_of side (now (moments_of (made calls written)))) (held side).bytes.items
held_is_image {calls} {written} {held} replayed side =
    subst (λ (s : Sides). IsCrashImage (writes_of side s) (held side).bytes.items) (sym (now-moments_of (made calls written)))
    (subst (λ (w : UnsyncedWrites). IsCrashImage w (held side).bytes.items) (sym (writes_of-sides_of side (replay blank (made calls written))))
    (subst (IsCrashImage _) (replayed.holds side).same (replayed.holds side).image))

pub memory_image : {calls : List Call} {written : List ℕ} {a b : MemSide} → IsReplayed calls written (pick a b) → (side : Which)
    → IsCrashImage (writes_of side (now (moments_of (made calls written)))) (pick a.bytes.items b.bytes.items side)
memory_image replayed A = held_is_image replayed A
memory_image replayed B = held_is_image replayed B
