-- The fields of a text: what is read was written so, and what is written is read again.
use Rattle.std.proofs.Common.{◌≡◌, ℕ, zero, suc, ◌^◌, ◌<◌, ◌≤◌, false, ltb, List, [], ◌∷◌, ◌++◌, length, take, drop, Result, Ok, refl, sym, ap, subst, ◌∙◌, arith}
use Rattle.std.specs.Prelude.{ℤ, Option, Some, None, FitsSigned}
use Rattle.std.specs.Int.{Width, w64, byte_len, from_le_bytes, to_le_bytes, cast_signed, cast_unsigned}
use Rattle.std.proofs.lemmas.Bool.{ltb-false, le-ltb}
use Rattle.std.proofs.lemmas.Int.{to_z-of_z, of_z-to_z}
use Rattle.std.proofs.lemmas.List.{take_at, drop_at, take-append-drop, length-append, length-take}
use Rattle.std.proofs.lemmas.Nat.{le_bytes_8, from_le_bytes-to_le_bytes_8}
use borrow.Author.Gap.{read_sfits}
use mir.ValLaws.{of_z_fits}
use Rattle.st_records.specs.declared.fault.DecodeFault.{DecodeFault}
use Rattle.st_records.specs.declared.fault.DecodeFault.TheVariants.{Short}
use Rattle.st_records.specs.Encoding.{number, string, FitsString}
use Rattle.st_records.specs.Reading.{then_at, uint_at, number_at, string_at}
use Rattle.st_records.proofs.Fields.{IsBytes, IsBytes-take, IsBytes-drop, guard_ok, ok_is, Takes, Reads, then_reads, made_takes, made_again, number_reads, string_reads}
use Rattle.st_marks.specs.declared.mark.Stamp.{Stamp}
use Rattle.st_marks.specs.declared.mark.Mark.{Mark}
use Rattle.st_marks.specs.declared.mark.Mark.TheVariants as mark
use Rattle.st_marks.specs.Encoding.{time_fields, stamp_fields, mark_fields, source_fields, FitsStamp, FitsMark, FitsSource}
use Rattle.st_marks.specs.Reading.{source_at, time_at, stamp_at, mark_at}

-- ---- numbers of eight bytes

-- what is known of numbers of a width: a variable, for at a width that is written out they compute
record IsNumber (w : Width) (limit : ℕ) : Type 0 where
  len : (n : ℕ) → length (to_le_bytes w n) ≡ byte_len w
  back : (bytes : List ℕ) → length bytes ≡ byte_len w → IsBytes bytes → to_le_bytes w (from_le_bytes w bytes) ≡ bytes
  again : (n : ℕ) → n < limit → from_le_bytes w (to_le_bytes w n) ≡ n
  below : (bytes : List ℕ) → IsBytes bytes → from_le_bytes w bytes < limit

number64 : IsNumber w64 (2 ^ 64)
number64 = record {
  len = λ n. refl;
  back = λ bytes len fits. le_bytes_8 bytes _ len fits refl;
  again = λ n lt. from_le_bytes-to_le_bytes_8 n lt;
  below = λ bytes fits. omega (arith, fits 0, fits 1, fits 2, fits 3, fits 4, fits 5, fits 6, fits 7);
}

uint_takes : (w : Width) (limit : ℕ) (is : IsNumber w limit) (bytes : List ℕ) (x : ℕ × List ℕ) → IsBytes bytes → uint_at w bytes ≡ Ok x → Takes bytes (to_le_bytes w x.0) x.1 × (x.0 < limit)
uint_takes w limit is bytes x fits e =
    let read : ℕ × List ℕ = (from_le_bytes w (take (byte_len w) bytes), drop (byte_len w) bytes) in
    let g = guard_ok (ltb (length bytes) (byte_len w)) Short read x e in
    let long : byte_len w ≤ length bytes = ltb-false _ _ g.0 in
    let front = is.back (take (byte_len w) bytes) (omega (arith, length-take (byte_len w) bytes)) (IsBytes-take (byte_len w) bytes fits) in
    let taken : Takes bytes (to_le_bytes w read.0) read.1 = record { parts = rw front (sym (take-append-drop (byte_len w) bytes)); rest_fits = IsBytes-drop (byte_len w) bytes fits } in
    subst (λ (y : ℕ × List ℕ). Takes bytes (to_le_bytes w y.0) y.1 × (y.0 < limit)) g.1 (taken, is.below (take (byte_len w) bytes) (IsBytes-take (byte_len w) bytes fits))

uint_again : (w : Width) (limit : ℕ) (is : IsNumber w limit) (n : ℕ) (rest : List ℕ) → n < limit → uint_at w (to_le_bytes w n ++ rest) ≡ Ok (n, rest)
uint_again w limit is n rest lt =
    let len = is.len n in
    let long : ltb (length (to_le_bytes w n ++ rest)) (byte_len w) ≡ false = le-ltb _ _ (omega (arith, length-append (to_le_bytes w n) rest)) in
    rw (long, take_at (to_le_bytes w n) rest (byte_len w) len, drop_at (to_le_bytes w n) rest (byte_len w) len, is.again n lt) refl

wide_reads : Reads (to_le_bytes w64) (λ n. n < 2 ^ 64) (uint_at w64)
wide_reads = record { takes = uint_takes w64 (2 ^ 64) number64; again = uint_again w64 (2 ^ 64) number64 }

-- ---- times and stamps

abbrev answered : {A : Type 0} → A → Result A DecodeFault
answered x = Ok x

time_takes : (bytes : List ℕ) (x : ℤ × List ℕ) → IsBytes bytes → time_at bytes ≡ Ok x → Takes bytes (time_fields x.0) x.1 × FitsSigned w64 x.0
time_takes bytes x fits e =
    let (n, is, took, lt) = made_takes (to_le_bytes w64) (λ n. n < 2 ^ 64) (uint_at w64) (cast_signed w64) wide_reads bytes x fits e in
    let same : n ≡ cast_unsigned w64 x.0 = sym (ap (cast_unsigned w64) is ∙ of_z-to_z w64 n lt) in
    (subst (λ (k : ℕ). Takes bytes (to_le_bytes w64 k) x.1) same took, subst (λ (z : ℤ). FitsSigned w64 z) (sym is) (read_sfits w64 n))

time_again : (time : ℤ) (rest : List ℕ) → FitsSigned w64 time → time_at (time_fields time ++ rest) ≡ Ok (time, rest)
time_again time rest fits =
    made_again (to_le_bytes w64) (λ n. n < 2 ^ 64) (uint_at w64) (cast_signed w64) wide_reads (cast_unsigned w64 time) rest (of_z_fits w64 time fits).fits
    ∙ ap (λ (z : ℤ). answered (z, rest)) (to_z-of_z w64 time fits)

time_reads : Reads time_fields (λ time. FitsSigned w64 time) time_at
time_reads = record { takes = time_takes; again = time_again }

pair_reads : Reads {A = ℤ × ℕ} (λ x. time_fields x.0 ++ number x.1) (λ x. FitsSigned w64 x.0 × (x.1 < 2 ^ 32)) (then_at time_at number_at)
pair_reads = then_reads time_fields (λ time. FitsSigned w64 time) time_at number (λ n. n < 2 ^ 32) number_at time_reads number_reads

abbrev stamp_from : ℤ × ℕ → Stamp
stamp_from x = record { time = x.0; size = x.1 }

stamp_again : (s : Stamp) (rest : List ℕ) → FitsStamp s → stamp_at (stamp_fields s ++ rest) ≡ Ok (s, rest)
unfolding stamp_at
stamp_again s rest fits =
    made_again (λ x. time_fields x.0 ++ number x.1) (λ x. FitsSigned w64 x.0 × (x.1 < 2 ^ 32)) (then_at time_at number_at) stamp_from pair_reads (s.time, s.size) rest fits

stamp_takes : (bytes : List ℕ) (x : Stamp × List ℕ) → IsBytes bytes → stamp_at bytes ≡ Ok x → Takes bytes (stamp_fields x.0) x.1 × FitsStamp x.0
unfolding stamp_at
stamp_takes bytes x fits e =
    let (y, is, took, fit) = made_takes (λ x. time_fields x.0 ++ number x.1) (λ x. FitsSigned w64 x.0 × (x.1 < 2 ^ 32)) (then_at time_at number_at) stamp_from pair_reads bytes x fits e in
    subst (λ (s : Stamp). Takes bytes (stamp_fields s) x.1 × FitsStamp s) (sym is) (took, fit)

stamp_reads : Reads stamp_fields FitsStamp stamp_at
stamp_reads = record { takes = stamp_takes; again = stamp_again }

-- ---- marks and the source

-- a byte in front of what was taken
byte_then : (b : ℕ) (bytes text rest : List ℕ) → Takes bytes text rest → Takes (b ∷ bytes) (b ∷ text) rest
byte_then b bytes text rest took = record { parts = ap (λ (t : List ℕ). b ∷ t) took.parts; rest_fits = took.rest_fits }

-- a byte alone
byte_alone : (b : ℕ) (bytes : List ℕ) → IsBytes (b ∷ bytes) → Takes (b ∷ bytes) (b ∷ []) bytes
byte_alone b bytes fits = record { parts = refl; rest_fits = λ i. fits (suc i) }

mark_again : (m : Mark) (rest : List ℕ) → FitsMark m → mark_at (mark_fields m ++ rest) ≡ Ok (m, rest)
unfolding mark_at
mark_again mark.Unknown rest fits = refl
mark_again mark.NoFile rest fits = refl
mark_again mark.Other rest fits = refl
mark_again (mark.File s) rest fits = made_again stamp_fields FitsStamp stamp_at mark.File stamp_reads s rest fits
mark_again (mark.Own s) rest fits = made_again stamp_fields FitsStamp stamp_at mark.Own stamp_reads s rest fits

mark_takes : (bytes : List ℕ) (x : Mark × List ℕ) → IsBytes bytes → mark_at bytes ≡ Ok x → Takes bytes (mark_fields x.0) x.1 × FitsMark x.0
unfolding mark_at
mark_takes [] x fits e = absurd cc
mark_takes (zero ∷ rest) x fits e = subst (λ (y : Mark × List ℕ). Takes (0 ∷ rest) (mark_fields y.0) y.1 × FitsMark y.0) (ok_is (mark.Unknown, rest) x e) (byte_alone 0 rest fits, tt)
mark_takes (suc zero ∷ rest) x fits e = subst (λ (y : Mark × List ℕ). Takes (1 ∷ rest) (mark_fields y.0) y.1 × FitsMark y.0) (ok_is (mark.NoFile, rest) x e) (byte_alone 1 rest fits, tt)
mark_takes (suc (suc zero) ∷ rest) x fits e = subst (λ (y : Mark × List ℕ). Takes (2 ∷ rest) (mark_fields y.0) y.1 × FitsMark y.0) (ok_is (mark.Other, rest) x e) (byte_alone 2 rest fits, tt)
mark_takes (suc (suc (suc zero)) ∷ rest) x fits e =
    let (s, is, took, fit) = made_takes stamp_fields FitsStamp stamp_at mark.File stamp_reads rest x (λ i. fits (suc i)) e in
    subst (λ (m : Mark). Takes (3 ∷ rest) (mark_fields m) x.1 × FitsMark m) (sym is) (byte_then 3 rest (stamp_fields s) x.1 took, fit)
mark_takes (suc (suc (suc (suc zero))) ∷ rest) x fits e =
    let (s, is, took, fit) = made_takes stamp_fields FitsStamp stamp_at mark.Own stamp_reads rest x (λ i. fits (suc i)) e in
    subst (λ (m : Mark). Takes (4 ∷ rest) (mark_fields m) x.1 × FitsMark m) (sym is) (byte_then 4 rest (stamp_fields s) x.1 took, fit)
mark_takes (suc (suc (suc (suc (suc b)))) ∷ rest) x fits e = absurd cc

pub mark_reads : Reads mark_fields FitsMark mark_at
mark_reads = record { takes = mark_takes; again = mark_again }

source_again : (source : Option (List ℕ)) (rest : List ℕ) → FitsSource source → source_at (source_fields source ++ rest) ≡ Ok (source, rest)
unfolding source_at
source_again None rest fits = refl
source_again (Some name) rest fits = made_again string FitsString string_at Some string_reads name rest fits

source_takes : (bytes : List ℕ) (x : Option (List ℕ) × List ℕ) → IsBytes bytes → source_at bytes ≡ Ok x → Takes bytes (source_fields x.0) x.1 × FitsSource x.0
unfolding source_at
source_takes [] x fits e = absurd cc
source_takes (zero ∷ rest) x fits e = subst (λ (y : Option (List ℕ) × List ℕ). Takes (0 ∷ rest) (source_fields y.0) y.1 × FitsSource y.0) (ok_is (None, rest) x e) (byte_alone 0 rest fits, tt)
source_takes (suc zero ∷ rest) x fits e =
    let (name, is, took, fit) = made_takes string FitsString string_at Some string_reads rest x (λ i. fits (suc i)) e in
    subst (λ (s : Option (List ℕ)). Takes (1 ∷ rest) (source_fields s) x.1 × FitsSource s) (sym is) (byte_then 1 rest (string name) x.1 took, fit)
source_takes (suc (suc b) ∷ rest) x fits e = absurd cc

pub source_reads : Reads source_fields FitsSource source_at
source_reads = record { takes = source_takes; again = source_again }
