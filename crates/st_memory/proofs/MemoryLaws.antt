-- What one call more adds to a disk in memory.
use Rattle.std.specs.Prelude.{◌≡◌, ℕ, ◌+◌, ◌<◌, ◌≤◌, min, max, List, [], ◌∷◌, ◌++◌, length, take, drop, slice_index, refl}
use Rattle.std.proofs.Common.{inl, inr, sym, ◌∙◌, ap, subst, arith, length-append, length-take, length-drop}
use Rattle.std.proofs.lemmas.Bool.{cases_lt}
use Rattle.std.proofs.lemmas.List.{take_all, take-append-le, drop-append-le, append-nil, get_or-take, length_push}
use Rattle.st_disk.specs.declared.which.Which.{Which}
use Rattle.st_disk.specs.declared.which.Which.TheVariants.{A, B}
use Rattle.st_memory.specs.declared.call.Call.{Call}
use Rattle.st_memory.specs.declared.call.Call.TheVariants.{Write, Cut, Sync}
use Rattle.st_memory.specs.declared.mem_side.MemSide.{MemSide}
use Rattle.st_disk.specs.Crash.{UnsyncedWrites, IsWritten, settled, written_at, cut_to, Sides, writes_of, with_writes, other, overwritten}
use Rattle.st_memory.proofs.OverwrittenLaws.{length-overwritten, overwritten_before, overwritten_behind}
use Rattle.st_disk.proofs.CrashLaws.{settled_image, IsWritten-push, IsWritten-push_last}
use Rattle.st_disk.specs.Moments.{now, after_write, after_cut, after_sync, Passes}
use Rattle.st_memory.specs.MemoryImage.{writes_of-sides_of, now-moments_of}
use Rattle.st_memory.specs.Memory.{MadeCall, write, cut, sync, MemorySide, MemorySides, side_of, with_side, blank, side_written, side_cut, side_synced, after_call, replay, size_of, made_call, made, bytes_written, sides_of, moments_of, HoldsImage, IsReplayed}
use Rattle.st_disk.specs.Which.{pick}

pub replay-push : (both : MemorySides) (calls : List MadeCall) (call : MadeCall) → replay both (calls ++ call ∷ []) ≡ after_call call (replay both calls)
replay-push both [] call = refl
replay-push both (first ∷ calls) call = replay-push (after_call first both) calls call

pub bytes_written-push : (calls : List Call) (call : Call) → bytes_written (calls ++ call ∷ []) ≡ bytes_written calls + size_of call
bytes_written-push [] call = omega arith
bytes_written-push (first ∷ calls) call = omega (arith, bytes_written-push calls call)

-- the bytes of one call more stand behind the others
pub made-push : (calls : List Call) (written : List ℕ) (call : Call) (bytes : List ℕ) → bytes_written calls ≡ length written → length bytes ≡ size_of call
    → made (calls ++ call ∷ []) (written ++ bytes) ≡ made calls written ++ made_call call bytes ∷ []
made-push [] [] call bytes complete fits = ap (λ (l : List ℕ). made_call call l ∷ []) (take_all (size_of call) bytes (omega (arith, fits)))
made-push [] (w ∷ written) call bytes complete fits = absurd (omega (arith, complete))
made-push (first ∷ calls) written call bytes complete fits =
    let n = size_of first in
    let within : size_of first ≤ length written = omega (arith, complete) in
    let rest : bytes_written calls ≡ length (drop (size_of first) written) = omega (arith, complete, length-drop (size_of first) written) in
    ap (λ (l : List ℕ). made_call first l ∷ made (calls ++ call ∷ []) (drop (size_of first) (written ++ bytes))) (take-append-le (size_of first) written bytes within)
    ∙ ap (λ (l : List ℕ). made_call first (take (size_of first) written) ∷ made (calls ++ call ∷ []) l) (drop-append-le (size_of first) written bytes within)
    ∙ ap (λ (l : List MadeCall). made_call first (take (size_of first) written) ∷ l) (made-push calls (drop (size_of first) written) call bytes rest fits)

made-push_bare : (calls : List Call) (written : List ℕ) (call : Call) → bytes_written calls ≡ length written → size_of call ≡ 0
    → made (calls ++ call ∷ []) written ≡ made calls written ++ made_call call [] ∷ []
made-push_bare calls written call complete bare =
    ap (λ (l : List ℕ). made (calls ++ call ∷ []) l) (sym (append-nil written)) ∙ made-push calls written call [] complete (sym bare)

-- the new sides hold what a call of each kind leaves
pub record WritesHeld (at : ℕ) (bytes : List ℕ) (old new : MemSide) : Type 0 where
  pub bytes_are : new.bytes.items ≡ overwritten old.bytes.items at bytes
  pub least_is : new.least ≡ old.least
  pub greatest_is : new.greatest ≡ max old.greatest (at + length bytes)

pub record CutsHeld (len : ℕ) (old new : MemSide) : Type 0 where
  pub bytes_are : new.bytes.items ≡ take len old.bytes.items
  pub least_is : new.least ≡ min old.least len
  pub greatest_is : new.greatest ≡ old.greatest

pub record SyncsHeld (old new : MemSide) : Type 0 where
  pub bytes_are : new.bytes.items ≡ old.bytes.items
  pub least_is : new.least ≡ length old.bytes.items
  pub greatest_is : new.greatest ≡ length old.bytes.items

holds_written : (side : MemorySide) (held new : MemSide) (at : ℕ) (bytes : List ℕ) → HoldsImage side held → at ≤ length held.bytes.items → WritesHeld at bytes held new
    → HoldsImage (side_written at bytes side) new
holds_written side held new at bytes holds within writes = record {
  same = ap (λ (l : List ℕ). overwritten l at bytes) holds.same ∙ sym writes.bytes_are;
  least = holds.least ∙ sym writes.least_is;
  greatest = ap (λ (n : ℕ). max n (at + length bytes)) holds.greatest ∙ sym writes.greatest_is;
  image = record { no_shorter = omega (arith, long, holds.image.no_shorter); no_longer = omega (arith, long, holds.image.no_longer); kept = unchanged };
}
  where
    fits : at ≤ length side.bytes
    fits = omega (arith, within, ap length holds.same)

    long : length (overwritten side.bytes at bytes) ≡ max (length side.bytes) (at + length bytes)
    long = length-overwritten side.bytes at bytes fits

    unchanged : (place : ℕ) → place < length side.writes.synced → place < side.writes.least → (IsWritten (side.writes.ranges ++ (at, length bytes) ∷ []) place → ⊥)
        → slice_index (overwritten side.bytes at bytes) place ≡ slice_index side.writes.synced place
    unchanged place below uncut unwritten = elim (cases_lt place at) [
      | inl before ↦
          overwritten_before side.bytes at bytes fits place before
          ∙ holds.image.kept place below uncut (λ was. unwritten (IsWritten-push side.writes.ranges at (length bytes) place was))
      | inr from ↦ elim (cases_lt place (at + length bytes)) [
        | inl within_it ↦ absurd (unwritten (IsWritten-push_last side.writes.ranges at (length bytes) place from within_it))
        | inr behind ↦
            overwritten_behind side.bytes at bytes fits place behind
            ∙ holds.image.kept place below uncut (λ was. unwritten (IsWritten-push side.writes.ranges at (length bytes) place was))
      ]
    ]

holds_cut : (side : MemorySide) (held new : MemSide) (len : ℕ) → HoldsImage side held → len ≤ length held.bytes.items → CutsHeld len held new → HoldsImage (side_cut len side) new
holds_cut side held new len holds within cuts = record {
  same = ap (λ (l : List ℕ). take len l) holds.same ∙ sym cuts.bytes_are;
  least = ap (λ (n : ℕ). min n len) holds.least ∙ sym cuts.least_is;
  greatest = holds.greatest ∙ sym cuts.greatest_is;
  image = record {
    no_shorter = omega (arith, long, holds.image.no_shorter, within, ap length holds.same);
    no_longer = omega (arith, long, holds.image.no_longer);
    kept = λ place below uncut unwritten. get_or-take len side.bytes place 0 (omega (arith, uncut)) ∙ holds.image.kept place below (omega (arith, uncut)) unwritten;
  };
}
  where
    long : length (take len side.bytes) ≡ min len (length side.bytes)
    long = length-take len side.bytes

holds_synced : (side : MemorySide) (held new : MemSide) → HoldsImage side held → SyncsHeld held new → HoldsImage (side_synced side) new
holds_synced side held new holds syncs = record {
  same = holds.same ∙ sym syncs.bytes_are;
  least = ap length holds.same ∙ sym syncs.least_is;
  greatest = ap length holds.same ∙ sym syncs.greatest_is;
  image = settled_image side.bytes;
}

-- one call more: its side is changed, the other one stays
both_hold : (side : Which) (new : MemorySide) (both : MemorySides) (held changed : Which → MemSide) → ((w : Which) → HoldsImage (side_of w both) (held w)) → HoldsImage new (changed side)
    → changed (other side) ≡ held (other side) → (w : Which) → HoldsImage (side_of w (with_side side new both)) (changed w)
both_hold A new both held changed holds here there A = here
both_hold A new both held changed holds here there B = subst (HoldsImage both.b) (sym there) (holds B)
both_hold B new both held changed holds here there A = subst (HoldsImage both.a) (sym there) (holds A)
both_hold B new both held changed holds here there B = here

module _ (calls new_calls : List Call) (written : List ℕ) (held changed : Which → MemSide) (side : Which) (replayed : IsReplayed calls written held) (there : changed (other side) ≡ held (other side)) where
  holds_changed : (new_written : List ℕ) (call : MadeCall) (new : MemorySide) → made new_calls new_written ≡ made calls written ++ call ∷ [] → after_call call (replay blank (made calls written)) ≡ with_side side new (replay blank (made calls written))
      → HoldsImage new (changed side) → (w : Which) → HoldsImage (side_of w (replay blank (made new_calls new_written))) (changed w)
  holds_changed new_written call new one_more is here w =
      subst (λ (m : MemorySides). HoldsImage (side_of w m) (changed w))
      (sym (ap (replay blank) one_more ∙ replay-push blank (made calls written) call ∙ is))
      (both_hold side new (replay blank (made calls written)) held changed replayed.holds here there w)

  pub replayed-write : (new_written : List ℕ) (at : ℕ) (bytes : List ℕ) → new_calls ≡ calls ++ Write side at (length bytes) ∷ [] → new_written ≡ written ++ bytes → at ≤ length (held side).bytes.items
      → WritesHeld at bytes (held side) (changed side) → IsReplayed new_calls new_written changed
  replayed-write new_written at bytes more_calls more_written within here = record {
    complete = omega (arith, replayed.complete, ap bytes_written more_calls, ap length more_written, bytes_written-push calls (Write side at (length bytes)), length-append written bytes);
    holds = holds_changed new_written (write side at bytes) _
        ((λ i. made (more_calls i) (more_written i)) ∙ made-push calls written (Write side at (length bytes)) bytes replayed.complete refl) refl
        (holds_written (side_of side (replay blank (made calls written))) (held side) (changed side) at bytes (replayed.holds side) within here);
  }

  pub replayed-cut : (len : ℕ) → new_calls ≡ calls ++ Cut side len ∷ [] → len ≤ length (held side).bytes.items → CutsHeld len (held side) (changed side) → IsReplayed new_calls written changed
  replayed-cut len more_calls within here = record {
    complete = omega (arith, replayed.complete, ap bytes_written more_calls, bytes_written-push calls (Cut side len));
    holds = holds_changed written (cut side len) _
        ((λ i. made (more_calls i) written) ∙ made-push_bare calls written (Cut side len) replayed.complete refl) refl
        (holds_cut (side_of side (replay blank (made calls written))) (held side) (changed side) len (replayed.holds side) within here);
  }

  pub replayed-sync : new_calls ≡ calls ++ Sync side ∷ [] → SyncsHeld (held side) (changed side) → IsReplayed new_calls written changed
  replayed-sync more_calls here = record {
    complete = omega (arith, replayed.complete, ap bytes_written more_calls, bytes_written-push calls (Sync side));
    holds = holds_changed written (sync side) _
        ((λ i. made (more_calls i) written) ∙ made-push_bare calls written (Sync side) replayed.complete refl) refl
        (holds_synced (side_of side (replay blank (made calls written))) (held side) (changed side) (replayed.holds side) here);
  }

-- and one moment more
sides_of-with_side : (side : Which) (new : MemorySide) (both : MemorySides) → sides_of (with_side side new both) ≡ with_writes side new.writes (sides_of both)
sides_of-with_side A new both = refl
sides_of-with_side B new both = refl

passes : (calls : List MadeCall) (call : MadeCall) (sides : Sides) → sides_of (after_call call (replay blank calls)) ≡ sides → Passes sides (moments_of calls) (moments_of (calls ++ call ∷ []))
passes calls call sides is = record {
  next = length_push calls call;
  here = now-moments_of (calls ++ call ∷ []) ∙ ap sides_of (replay-push blank calls call) ∙ is;
  kept = λ k le. ap (λ (l : List MadeCall). sides_of (replay blank l)) (take-append-le k calls (call ∷ []) le);
}

module _ (calls : List MadeCall) (side : Which) where
  pub passes_write : (at : ℕ) (bytes : List ℕ) → Passes (after_write side at (length bytes) (moments_of calls)) (moments_of calls) (moments_of (calls ++ write side at bytes ∷ []))
  passes_write at bytes = passes calls (write side at bytes) _
      (sides_of-with_side side _ (replay blank calls)
      ∙ ap (λ (w : UnsyncedWrites). with_writes side (written_at at (length bytes) w) (sides_of (replay blank calls))) (sym (writes_of-sides_of side (replay blank calls)))
      ∙ ap (λ (s : Sides). with_writes side (written_at at (length bytes) (writes_of side s)) s) (sym (now-moments_of calls)))

  pub passes_cut : (len : ℕ) → Passes (after_cut side len (moments_of calls)) (moments_of calls) (moments_of (calls ++ cut side len ∷ []))
  passes_cut len = passes calls (cut side len) _
      (sides_of-with_side side _ (replay blank calls)
      ∙ ap (λ (w : UnsyncedWrites). with_writes side (cut_to len w) (sides_of (replay blank calls))) (sym (writes_of-sides_of side (replay blank calls)))
      ∙ ap (λ (s : Sides). with_writes side (cut_to len (writes_of side s)) s) (sym (now-moments_of calls)))

  pub passes_sync : (bytes : List ℕ) → (side_of side (replay blank calls)).bytes ≡ bytes → Passes (after_sync side bytes (moments_of calls)) (moments_of calls) (moments_of (calls ++ sync side ∷ []))
  passes_sync bytes is = passes calls (sync side) _
      (sides_of-with_side side _ (replay blank calls)
      ∙ ap (λ (l : List ℕ). with_writes side (settled l) (sides_of (replay blank calls))) is
      ∙ ap (λ (s : Sides). with_writes side (settled bytes) s) (sym (now-moments_of calls)))

pub passes_from_write : (calls new_calls : List Call) (written new_written : List ℕ) (side : Which) (at : ℕ) (bytes : List ℕ) → bytes_written calls ≡ length written → new_calls ≡ calls ++ Write side at (length bytes) ∷ []
    → new_written ≡ written ++ bytes → Passes (after_write side at (length bytes) (moments_of (made calls written))) (moments_of (made calls written)) (moments_of (made new_calls new_written))
passes_from_write calls new_calls written new_written side at bytes complete more_calls more_written =
    subst (λ (l : List MadeCall). Passes (after_write side at (length bytes) (moments_of (made calls written))) (moments_of (made calls written)) (moments_of l))
    (sym ((λ i. made (more_calls i) (more_written i)) ∙ made-push calls written (Write side at (length bytes)) bytes complete refl))
    (passes_write (made calls written) side at bytes)

pub passes_from_cut : (calls new_calls : List Call) (written : List ℕ) (side : Which) (len : ℕ) → bytes_written calls ≡ length written → new_calls ≡ calls ++ Cut side len ∷ []
    → Passes (after_cut side len (moments_of (made calls written))) (moments_of (made calls written)) (moments_of (made new_calls written))
passes_from_cut calls new_calls written side len complete more_calls =
    subst (λ (l : List MadeCall). Passes (after_cut side len (moments_of (made calls written))) (moments_of (made calls written)) (moments_of l))
    (sym ((λ i. made (more_calls i) written) ∙ made-push_bare calls written (Cut side len) complete refl))
    (passes_cut (made calls written) side len)

pub passes_from_sync : (calls new_calls : List Call) (written : List ℕ) (a b : MemSide) (side : Which) → IsReplayed calls written (pick a b) → new_calls ≡ calls ++ Sync side ∷ []
    → Passes (after_sync side (pick a.bytes.items b.bytes.items side) (moments_of (made calls written))) (moments_of (made calls written)) (moments_of (made new_calls written))
passes_from_sync calls new_calls written a b side replayed more_calls =
    subst (λ (l : List MadeCall). Passes (after_sync side (pick a.bytes.items b.bytes.items side) (moments_of (made calls written))) (moments_of (made calls written)) (moments_of l))
    (sym ((λ i. made (more_calls i) written) ∙ made-push_bare calls written (Sync side) replayed.complete refl))
    (passes_sync (made calls written) side (pick a.bytes.items b.bytes.items side) (same_bytes side))
  where
    same_bytes : (w : Which) → (side_of w (replay blank (made calls written))).bytes ≡ pick a.bytes.items b.bytes.items w
    same_bytes A = (replayed.holds A).same
    same_bytes B = (replayed.holds B).same

-- the unsynced writes of this moment, by the calls
pub memory_writes : (calls : List MadeCall) (side : Which) → writes_of side (now (moments_of calls)) ≡ (side_of side (replay blank calls)).writes
memory_writes calls side = ap (writes_of side) (now-moments_of calls) ∙ writes_of-sides_of side (replay blank calls)

pub memory_least : {calls : List Call} {written : List ℕ} {a b : MemSide} → IsReplayed calls written (pick a b) → (side : Which) → (pick a b side).least ≡ (writes_of side (now (moments_of (made calls written)))).least
memory_least {calls} {written} replayed side = sym (ap (λ (w : UnsyncedWrites). w.least) (memory_writes (made calls written) side) ∙ (replayed.holds side).least)

pub memory_greatest : {calls : List Call} {written : List ℕ} {a b : MemSide} → IsReplayed calls written (pick a b) → (side : Which) → (pick a b side).greatest ≡ (writes_of side (now (moments_of (made calls written)))).greatest
memory_greatest {calls} {written} replayed side = sym (ap (λ (w : UnsyncedWrites). w.greatest) (memory_writes (made calls written) side) ∙ (replayed.holds side).greatest)
