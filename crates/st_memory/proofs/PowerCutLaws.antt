-- What a power cut leaves is a crash image.
use Rattle.std.specs.Prelude.{◌≡◌, ℕ, ◌+◌, ◌<◌, ◌≤◌, min, false, List, [], ◌∷◌, ◌++◌, length, take, slice_index, refl}
use Rattle.std.proofs.Common.{inl, inr, sym, ◌∙◌, ap, subst, arith, length-take}
use Rattle.std.proofs.lemmas.Bool.{cases_lt}
use Rattle.std.proofs.lemmas.Bool.Decides.{nat_tests}
use Rattle.std.proofs.lemmas.List.{take_min, drop_all, append-nil, get_or-take}
use Rattle.st_disk.specs.declared.which.Which.{Which}
use Rattle.st_disk.specs.declared.which.Which.TheVariants.{A, B}
use Rattle.st_disk.specs.Crash.{UnsyncedWrites, IsWritten, IsCrashImage, Sides, settled, writes_of, with_writes, overwritten}
use Rattle.st_disk.specs.Moments.{now}
use Rattle.st_memory.specs.Memory.{MadeCall, write, cut, sync, MemorySides, blank, side_of, after_call, replay, moments_of}
use Rattle.st_memory.proofs.MemoryLaws.{memory_writes}
use Rattle.st_memory.specs.PowerCut.{is_written, cut_byte, IsCut, IsPowerCut, MayHaveLength, Contents, contents_of, contents_after, replay_contents}

pub contents_of-after_call : (side : Which) (call : MadeCall) (both : MemorySides) → contents_of (side_of side (after_call call both)) ≡ contents_after side call (contents_of (side_of side both))
contents_of-after_call A (write A at bytes) both = refl
contents_of-after_call A (write B at bytes) both = refl
contents_of-after_call B (write A at bytes) both = refl
contents_of-after_call B (write B at bytes) both = refl
contents_of-after_call A (cut A len) both = refl
contents_of-after_call A (cut B len) both = refl
contents_of-after_call B (cut A len) both = refl
contents_of-after_call B (cut B len) both = refl
contents_of-after_call A (sync A) both = refl
contents_of-after_call A (sync B) both = refl
contents_of-after_call B (sync A) both = refl
contents_of-after_call B (sync B) both = refl

pub contents_of-replay : (side : Which) (both : MemorySides) (calls : List MadeCall) → contents_of (side_of side (replay both calls)) ≡ replay_contents side (contents_of (side_of side both)) calls
contents_of-replay side both [] = refl
contents_of-replay side both (call ∷ calls) =
    contents_of-replay side (after_call call both) calls
    ∙ ap (λ (c : Contents). replay_contents side c calls) (contents_of-after_call side call both)

unwritten : (ranges : List (ℕ × ℕ)) (place : ℕ) → (IsWritten ranges place → ⊥) → is_written ranges place ≡ false
unwritten [] place not = refl
unwritten (range ∷ ranges) place not =
    let rest = unwritten ranges place (λ there. not (inr there)) in
    let outside : range.0 ≤ place → place < range.0 + range.1 → ⊥ = λ from below. not (inl (from, below)) in
    elim (cases_lt place range.0) [
      | inl before ↦ grind (arith, nat_tests)
      | inr from ↦ elim (cases_lt place (range.0 + range.1)) [
        | inl below ↦ absurd (outside from below)
        | inr behind ↦ grind (arith, nat_tests)
      ]
    ]

pub image_of_cut : (writes : UnsyncedWrites) (fill : List ℕ) (len : ℕ) (bytes : List ℕ) → writes.least ≤ len → len ≤ writes.greatest → IsCut (take writes.least writes.synced) writes.ranges fill len bytes → IsCrashImage writes bytes
image_of_cut writes fill len bytes low high is = record {
  no_shorter = omega (arith, is.long);
  no_longer = omega (arith, is.long);
  kept = λ place below uncut not_written.
      let closed = unwritten writes.ranges place not_written in
      is.each place (omega (arith, low, uncut))
      ∙ stays (take writes.least writes.synced) place (omega (arith, below, uncut, length-take writes.least writes.synced)) closed
      ∙ get_or-take writes.least writes.synced place 0 uncut;
}
  where
    stays : (kept : List ℕ) (place : ℕ) → place < length kept → is_written writes.ranges place ≡ false → cut_byte kept writes.ranges fill place ≡ slice_index kept place
    stays kept place below closed = grind (arith, nat_tests)

-- both sides after a write and a sync of each
pub settled_both : (start one two three four : Sides) (a b : List ℕ) (wrote_a wrote_b : UnsyncedWrites) → one ≡ with_writes A wrote_a start → two ≡ with_writes A (settled a) one → three ≡ with_writes B wrote_b two → four ≡ with_writes B (settled b) three
    → four ≡ record { a = settled a; b = settled b }
settled_both start one two three four a b wrote_a wrote_b first second third fourth =
    fourth ∙ ap (with_writes B (settled b)) (third ∙ ap (with_writes B wrote_b) (second ∙ ap (with_writes A (settled a)) first))

-- a write to an empty side
pub overwritten-nil : (bytes : List ℕ) → overwritten [] 0 bytes ≡ bytes
overwritten-nil bytes = ap (λ (l : List ℕ). bytes ++ l) (drop_all (0 + length bytes) [] (omega arith)) ∙ append-nil bytes

-- the cut of a side, made from what its calls leave
pub power_cut_of : (calls : List MadeCall) (side : Which) (contents : Contents) (kept synced : List ℕ) (ranges : List (ℕ × ℕ)) (least : ℕ) (fill : List ℕ) (len : ℕ) (bytes : List ℕ) → contents ≡ contents_of (side_of side (replay blank calls))
    → kept ≡ take (min least (length synced)) synced → synced ≡ contents.synced → ranges ≡ contents.ranges → least ≡ (writes_of side (now (moments_of calls))).least → MayHaveLength (writes_of side (now (moments_of calls))) len
    → IsCut kept ranges fill len bytes → IsPowerCut (writes_of side (now (moments_of calls))) fill len bytes
power_cut_of calls side contents kept synced ranges least fill len bytes is is_kept is_synced is_ranges is_least may cut_is =
    let writes = writes_of side (now (moments_of calls)) in
    let same = memory_writes calls side in
    let synced_same : synced ≡ writes.synced = is_synced ∙ ap (λ (c : Contents). c.synced) is ∙ sym (ap (λ (w : UnsyncedWrites). w.synced) same) in
    let ranges_same : ranges ≡ writes.ranges = is_ranges ∙ ap (λ (c : Contents). c.ranges) is ∙ sym (ap (λ (w : UnsyncedWrites). w.ranges) same) in
    let kept_same : kept ≡ take writes.least writes.synced = is_kept ∙ take_min least synced ∙ (λ i. take (is_least i) (synced_same i)) in
    let whole : IsCut (take writes.least writes.synced) writes.ranges fill len bytes =
    subst (λ (l : List ℕ). IsCut l writes.ranges fill len bytes) kept_same (subst (λ (l : List (ℕ × ℕ)). IsCut kept l fill len bytes) ranges_same cut_is) in
    record { cut = whole; image = image_of_cut writes fill len bytes may.no_shorter may.no_longer whole }
