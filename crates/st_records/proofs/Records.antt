-- A record that is read was written so, and a record that is written is read again.
use Rattle.std.proofs.Common.{◌≡◌, ℕ, zero, suc, ◌^◌, ◌<◌, ◌≤◌, ltb, eqb, List, [], ◌∷◌, ◌++◌, Option, Some, None, Result, Ok, refl, ap, subst, arith}
use Rattle.std.proofs.lemmas.Bool.{ltb-true, lt-ltb, eqb-true, eq-eqb}
use Rattle.st_records.specs.declared.version.Form.{Form}
use Rattle.st_records.specs.declared.version.Form.TheVariants as forms
use Rattle.st_records.specs.declared.limits.RecordFault.{RecordFault}
use Rattle.st_records.specs.declared.fault.DecodeFault.{DecodeFault}
use Rattle.st_records.specs.declared.record.Phase.{Phase}
use Rattle.st_records.specs.declared.record.Phase.TheVariants as phases
use Rattle.st_records.specs.declared.record.Explicit.{Explicit}
use Rattle.st_records.specs.declared.record.Explicit.TheVariants.{Unknown, Known, Marked}
use Rattle.st_records.specs.declared.record.Entry.{Entry}
use Rattle.st_records.specs.declared.record.Record.{Record}
use Rattle.st_records.specs.declared.record.Record.TheVariants as records
use Rattle.st_records.specs.Parts.{phase_status, status_of}
use Rattle.st_records.specs.Encoding.{number, string, strings, phase_fields, done_explicit_in, kept_explicit_in, entry_fields_in, encoding_in, FitsString, FitsStrings, FitsPhase, FitsDoneExplicit, FitsKeptExplicit, FitsEntry, FitsRecord}
use Rattle.st_records.specs.Limits.{SaysExplicitIn, IsGoodIn}
use Rattle.st_records.specs.Tests.{fault_of}
use Rattle.st_records.specs.Reading.{Reader, then_at, number_at, string_at, strings_at, status_at, no_status_at, phase_at, done_explicit_at, kept_explicit_at, lists_at, entry_at, record_at, judged, good_at}
use Rattle.st_records.proofs.Fields.{IsBytes, IsBytes-rest, bind_ok, ok_is, Takes, Reads, then_reads, made_takes, made_again, tested_reads, number_reads, string_reads, strings_reads}
use Rattle.st_records.proofs.TestLemmas.{within_in, none_from}
use Rattle.st_records.proofs.Good.{fits_in}

-- ---- phases

status_reads : Reads number (λ n. n ≤ 256) status_at
unfolding status_at
status_reads = tested_reads number (λ n. n < 2 ^ 32) number_at (λ n. ltb n 257) (λ n. n ≤ 256) (λ n fits passed. omega (arith, ltb-true n 257 passed)) (λ n fits. (omega arith, lt-ltb n 257 (omega arith))) number_reads

no_status_reads : Reads number (λ n. n ≡ 0) no_status_at
unfolding no_status_at
no_status_reads = tested_reads number (λ n. n < 2 ^ 32) number_at (λ n. eqb n 0) (λ n. n ≡ 0) (λ n fits passed. eqb-true n 0 passed) (λ n fits. (omega arith, eq-eqb n 0 fits)) number_reads

-- a byte before what was read
Takes-byte : (b : ℕ) (bytes text rest : List ℕ) → Takes bytes text rest → Takes (b ∷ bytes) (b ∷ text) rest
Takes-byte b bytes text rest t = record { parts = ap (λ (x : List ℕ). b ∷ x) t.parts; rest_fits = t.rest_fits }

phase_takes : (bytes : List ℕ) (x : Phase × List ℕ) → IsBytes bytes → phase_at bytes ≡ Ok x → Takes bytes (phase_fields x.0) x.1 × FitsPhase x.0
unfolding phase_at
phase_takes [] x fits e = absurd cc
phase_takes (zero ∷ bytes) x fits e = absurd cc
phase_takes (suc zero ∷ bytes) x fits e =
    let p = made_takes number (λ n. n ≡ 0) no_status_at (λ _. phases.Begun) no_status_reads bytes x (IsBytes-rest 1 bytes fits) e in
    let t : Takes (1 ∷ bytes) (1 ∷ number 0) x.1 = subst (λ (n : ℕ). Takes (1 ∷ bytes) (1 ∷ number n) x.1) p.3 (Takes-byte 1 bytes (number p.0) x.1 p.2) in
    rw p.1 (t, tt)
phase_takes (suc (suc zero) ∷ bytes) x fits e =
    let p = made_takes number (λ n. n ≡ 0) no_status_at (λ _. phases.Done) no_status_reads bytes x (IsBytes-rest 2 bytes fits) e in
    let t : Takes (2 ∷ bytes) (2 ∷ number 0) x.1 = subst (λ (n : ℕ). Takes (2 ∷ bytes) (2 ∷ number n) x.1) p.3 (Takes-byte 2 bytes (number p.0) x.1 p.2) in
    rw p.1 (t, tt)
phase_takes (suc (suc (suc zero)) ∷ bytes) x fits e =
    let p = made_takes number (λ n. n ≤ 256) status_at phases.Failed status_reads bytes x (IsBytes-rest 3 bytes fits) e in
    let t = Takes-byte 3 bytes (number p.0) x.1 p.2 in
    rw p.1 (t, p.3)
phase_takes (suc (suc (suc (suc b))) ∷ bytes) x fits e = absurd cc

phase_again : (p : Phase) (rest : List ℕ) → FitsPhase p → phase_at (phase_fields p ++ rest) ≡ Ok (p, rest)
unfolding phase_at
phase_again phases.Begun rest fits = made_again number (λ n. n ≡ 0) no_status_at (λ _. phases.Begun) no_status_reads 0 rest refl
phase_again phases.Done rest fits = made_again number (λ n. n ≡ 0) no_status_at (λ _. phases.Done) no_status_reads 0 rest refl
phase_again (phases.Failed status) rest fits = made_again number (λ n. n ≤ 256) status_at phases.Failed status_reads status rest fits

pub phase_reads : Reads phase_fields FitsPhase phase_at
phase_reads = record { takes = phase_takes; again = phase_again }

-- ---- explicit names

abbrev explicit_read : Explicit × List ℕ → Result (Explicit × List ℕ) DecodeFault
explicit_read x = Ok x

-- nothing was read of them
none_taken : (bytes : List ℕ) (x : Explicit × List ℕ) → IsBytes bytes → explicit_read (Unknown, bytes) ≡ explicit_read x → Takes bytes [] x.1 × (x.0 ≡ Unknown)
none_taken bytes x fits e =
    subst (λ (y : Explicit × List ℕ). Takes bytes [] y.1 × (y.0 ≡ Unknown)) (ok_is (Unknown, bytes) x e) (record { parts = refl; rest_fits = fits }, refl)

-- names and marks, as they are read
abbrev marked_of : List (List ℕ) × List ℕ → Explicit
marked_of x = Marked x.0 x.1

abbrev names_and_marks : List (List ℕ) × List ℕ → List ℕ
names_and_marks x = strings x.0 ++ string x.1

abbrev FitsBoth : List (List ℕ) × List ℕ → Type 0
FitsBoth x = FitsStrings x.0 × FitsString x.1

marked_reads : Reads names_and_marks FitsBoth (then_at strings_at string_at)
marked_reads = then_reads strings FitsStrings strings_at string FitsString string_at strings_reads string_reads

done_explicit_takes : (form : Form) (bytes : List ℕ) (x : Explicit × List ℕ) → IsBytes bytes → done_explicit_at form bytes ≡ Ok x → Takes bytes (done_explicit_in form x.0) x.1 × FitsDoneExplicit form x.0
unfolding done_explicit_at
done_explicit_takes forms.Old bytes x fits e = none_taken bytes x fits e
done_explicit_takes forms.Plain bytes x fits e =
    let p = made_takes strings FitsStrings strings_at Known strings_reads bytes x fits e in
    rw p.1 (p.2, (tt, p.3))
done_explicit_takes forms.Marked [] x fits e = absurd cc
done_explicit_takes forms.Marked (zero ∷ rest) x fits e = absurd cc
done_explicit_takes forms.Marked (suc zero ∷ rest) x fits e = absurd cc
done_explicit_takes forms.Marked (suc (suc zero) ∷ rest) x fits e =
    let p = made_takes names_and_marks FitsBoth (then_at strings_at string_at) marked_of marked_reads rest x (IsBytes-rest 2 rest fits) e in
    rw p.1 (Takes-byte 2 rest (names_and_marks p.0) x.1 p.2, (tt, p.3))
done_explicit_takes forms.Marked (suc (suc (suc b)) ∷ rest) x fits e = absurd cc

done_explicit_again : (form : Form) (e : Explicit) (rest : List ℕ) → FitsDoneExplicit form e → done_explicit_at form (done_explicit_in form e ++ rest) ≡ Ok (e, rest)
unfolding done_explicit_at
done_explicit_again forms.Old e rest fits = rw fits refl
done_explicit_again forms.Plain Unknown rest fits = absurd fits.0
done_explicit_again forms.Plain (Known names) rest fits = made_again strings FitsStrings strings_at Known strings_reads names rest fits.1
done_explicit_again forms.Plain (Marked names marks) rest fits = absurd fits.0
done_explicit_again forms.Marked Unknown rest fits = absurd fits.0
done_explicit_again forms.Marked (Known names) rest fits = absurd fits.0
done_explicit_again forms.Marked (Marked names marks) rest fits =
    made_again names_and_marks FitsBoth (then_at strings_at string_at) marked_of marked_reads (names, marks) rest fits.1

done_explicit_reads : (form : Form) → Reads (done_explicit_in form) (FitsDoneExplicit form) (done_explicit_at form)
done_explicit_reads form = record { takes = done_explicit_takes form; again = done_explicit_again form }

unknown_taken : (rest : List ℕ) (x : Explicit × List ℕ) → IsBytes (0 ∷ rest) → explicit_read (Unknown, rest) ≡ explicit_read x → Takes (0 ∷ rest) (0 ∷ []) x.1 × (x.0 ≡ Unknown)
unknown_taken rest x fits e =
    subst (λ (y : Explicit × List ℕ). Takes (0 ∷ rest) (0 ∷ []) y.1 × (y.0 ≡ Unknown)) (ok_is (Unknown, rest) x e)
    (record { parts = refl; rest_fits = IsBytes-rest 0 rest fits }, refl)

no_names : FitsStrings []
no_names = (omega arith, tt)

no_marks : FitsString []
no_marks = omega arith

kept_explicit_takes : (form : Form) (bytes : List ℕ) (x : Explicit × List ℕ) → IsBytes bytes → kept_explicit_at form bytes ≡ Ok x → Takes bytes (kept_explicit_in form x.0) x.1 × FitsKeptExplicit form x.0
unfolding kept_explicit_at
kept_explicit_takes forms.Old bytes x fits e = none_taken bytes x fits e
kept_explicit_takes forms.Plain [] x fits e = absurd cc
kept_explicit_takes forms.Plain (zero ∷ rest) x fits e =
    let t = unknown_taken rest x fits e in
    rw t.1 (t.0, (tt, no_names))
kept_explicit_takes forms.Plain (suc zero ∷ rest) x fits e =
    let p = made_takes strings FitsStrings strings_at Known strings_reads rest x (IsBytes-rest 1 rest fits) e in
    rw p.1 (Takes-byte 1 rest (strings p.0) x.1 p.2, (tt, p.3))
kept_explicit_takes forms.Plain (suc (suc b) ∷ rest) x fits e = absurd cc
kept_explicit_takes forms.Marked [] x fits e = absurd cc
kept_explicit_takes forms.Marked (zero ∷ rest) x fits e =
    let t = unknown_taken rest x fits e in
    rw t.1 (t.0, (no_names, no_marks))
kept_explicit_takes forms.Marked (suc zero ∷ rest) x fits e =
    let p = made_takes strings FitsStrings strings_at Known strings_reads rest x (IsBytes-rest 1 rest fits) e in
    rw p.1 (Takes-byte 1 rest (strings p.0) x.1 p.2, (p.3, no_marks))
kept_explicit_takes forms.Marked (suc (suc zero) ∷ rest) x fits e =
    let p = made_takes names_and_marks FitsBoth (then_at strings_at string_at) marked_of marked_reads rest x (IsBytes-rest 2 rest fits) e in
    rw p.1 (Takes-byte 2 rest (names_and_marks p.0) x.1 p.2, p.3)
kept_explicit_takes forms.Marked (suc (suc (suc b)) ∷ rest) x fits e = absurd cc

kept_explicit_again : (form : Form) (e : Explicit) (rest : List ℕ) → FitsKeptExplicit form e → kept_explicit_at form (kept_explicit_in form e ++ rest) ≡ Ok (e, rest)
unfolding kept_explicit_at
kept_explicit_again forms.Old e rest fits = rw fits refl
kept_explicit_again forms.Plain Unknown rest fits = refl
kept_explicit_again forms.Plain (Known names) rest fits = made_again strings FitsStrings strings_at Known strings_reads names rest fits.1
kept_explicit_again forms.Plain (Marked names marks) rest fits = absurd fits.0
kept_explicit_again forms.Marked Unknown rest fits = refl
kept_explicit_again forms.Marked (Known names) rest fits = made_again strings FitsStrings strings_at Known strings_reads names rest fits.0
kept_explicit_again forms.Marked (Marked names marks) rest fits =
    made_again names_and_marks FitsBoth (then_at strings_at string_at) marked_of marked_reads (names, marks) rest fits

kept_explicit_reads : (form : Form) → Reads (kept_explicit_in form) (FitsKeptExplicit form) (kept_explicit_at form)
kept_explicit_reads form = record { takes = kept_explicit_takes form; again = kept_explicit_again form }

-- ---- entries and records

abbrev Lists : Type 0
Lists = List (List ℕ) × (List (List ℕ) × Explicit)

abbrev lists : (Explicit → List ℕ) → Lists → List ℕ
lists last x = strings x.0 ++ (strings x.1.0 ++ last x.1.1)

abbrev FitsLists : (Explicit → Type 0) → Lists → Type 0
FitsLists Fits x = FitsStrings x.0 × (FitsStrings x.1.0 × Fits x.1.1)

lists_reads : (s : Explicit → List ℕ) (F : Explicit → Type 0) (last : Reader Explicit) → Reads s F last → Reads (lists s) (FitsLists F) (lists_at last)
lists_reads s F last reads =
    then_reads strings FitsStrings strings_at (λ x. strings x.0 ++ s x.1) (λ x. FitsStrings x.0 × F x.1) (then_at strings_at last) strings_reads
    (then_reads strings FitsStrings strings_at s F last strings_reads reads)

abbrev entry_of : Phase × Lists → Entry
entry_of x = record { phase = x.0; commands = x.1.0; hidden = x.1.1.0; explicit = x.1.1.1 }

abbrev entry_lists : Form → Lists → List ℕ
entry_lists form = lists (kept_explicit_in form)

abbrev FitsEntryLists : Form → Lists → Type 0
FitsEntryLists form = FitsLists (FitsKeptExplicit form)

abbrev entry_lists_at : Form → Reader Lists
entry_lists_at form = lists_at (kept_explicit_at form)

abbrev parts : Form → Phase × Lists → List ℕ
parts form x = phase_fields x.0 ++ entry_lists form x.1

abbrev FitsParts : Form → Phase × Lists → Type 0
FitsParts form x = FitsPhase x.0 × FitsEntryLists form x.1

parts_reads : (form : Form) → Reads (parts form) (FitsParts form) (then_at phase_at (entry_lists_at form))
parts_reads form =
    then_reads phase_fields FitsPhase phase_at (entry_lists form) (FitsEntryLists form) (entry_lists_at form) phase_reads
    (lists_reads (kept_explicit_in form) (FitsKeptExplicit form) (kept_explicit_at form) (kept_explicit_reads form))

entry_takes : (form : Form) (bytes : List ℕ) (x : Entry × List ℕ) → IsBytes bytes → entry_at form bytes ≡ Ok x → Takes bytes (entry_fields_in form x.0) x.1 × FitsEntry form x.0
unfolding entry_at
entry_takes form bytes x fits e =
    let p = made_takes (parts form) (FitsParts form) (then_at phase_at (entry_lists_at form)) entry_of (parts_reads form) bytes x fits e in
    rw p.1 (p.2, p.3)

entry_again : (form : Form) (e : Entry) (rest : List ℕ) → FitsEntry form e → entry_at form (entry_fields_in form e ++ rest) ≡ Ok (e, rest)
unfolding entry_at
entry_again form e rest fits =
    made_again (parts form) (FitsParts form) (then_at phase_at (entry_lists_at form)) entry_of (parts_reads form) (e.phase, (e.commands, (e.hidden, e.explicit))) rest fits

entry_reads : (form : Form) → Reads (entry_fields_in form) (FitsEntry form) (entry_at form)
entry_reads form = record { takes = entry_takes form; again = entry_again form }

abbrev done_fields : Form → List ℕ × Lists → List ℕ
done_fields form x = string x.0 ++ lists (done_explicit_in form) x.1

abbrev FitsDone : Form → List ℕ × Lists → Type 0
FitsDone form x = FitsString x.0 × FitsLists (FitsDoneExplicit form) x.1

abbrev done_at : Form → Reader (List ℕ × Lists)
done_at form = then_at string_at (lists_at (done_explicit_at form))

done_reads : (form : Form) → Reads (done_fields form) (FitsDone form) (done_at form)
done_reads form =
    then_reads string FitsString string_at (lists (done_explicit_in form)) (FitsLists (FitsDoneExplicit form)) (lists_at (done_explicit_at form)) string_reads
    (lists_reads (done_explicit_in form) (FitsDoneExplicit form) (done_explicit_at form) (done_explicit_reads form))

abbrev failed_fields : List ℕ × ℕ → List ℕ
failed_fields x = string x.0 ++ number x.1

abbrev FitsFailed : List ℕ × ℕ → Type 0
FitsFailed x = FitsString x.0 × (x.1 ≤ 256)

failed_reads : Reads failed_fields FitsFailed (then_at string_at status_at)
failed_reads = then_reads string FitsString string_at number (λ n. n ≤ 256) status_at string_reads status_reads

abbrev kept_fields : Form → List ℕ × Entry → List ℕ
kept_fields form x = string x.0 ++ entry_fields_in form x.1

abbrev FitsKept : Form → List ℕ × Entry → Type 0
FitsKept form x = FitsString x.0 × FitsEntry form x.1

kept_reads : (form : Form) → Reads (kept_fields form) (FitsKept form) (then_at string_at (entry_at form))
kept_reads form = then_reads string FitsString string_at (entry_fields_in form) (FitsEntry form) (entry_at form) string_reads (entry_reads form)

abbrev done_of : List ℕ × Lists → Record
done_of x = records.Done x.0 x.1.0 x.1.1.0 x.1.1.1

abbrev failed_of : List ℕ × ℕ → Record
failed_of x = records.Failed x.0 x.1

abbrev kept_of : List ℕ × Entry → Record
kept_of x = records.Kept x.0 x.1

record_takes : (form : Form) (bytes : List ℕ) (x : Record × List ℕ) → IsBytes bytes → record_at form bytes ≡ Ok x → Takes bytes (encoding_in form x.0) x.1 × FitsRecord form x.0
unfolding record_at
record_takes form [] x fits e = absurd cc
record_takes form (zero ∷ bytes) x fits e = absurd cc
record_takes form (suc zero ∷ bytes) x fits e =
    let p = made_takes string FitsString string_at records.Begun string_reads bytes x (IsBytes-rest 1 bytes fits) e in
    rw p.1 (Takes-byte 1 bytes (string p.0) x.1 p.2, p.3)
record_takes form (suc (suc zero) ∷ bytes) x fits e =
    let p = made_takes (done_fields form) (FitsDone form) (done_at form) done_of (done_reads form) bytes x (IsBytes-rest 2 bytes fits) e in
    rw p.1 (Takes-byte 2 bytes (done_fields form p.0) x.1 p.2, p.3)
record_takes form (suc (suc (suc zero)) ∷ bytes) x fits e =
    let p = made_takes failed_fields FitsFailed (then_at string_at status_at) failed_of failed_reads bytes x (IsBytes-rest 3 bytes fits) e in
    rw p.1 (Takes-byte 3 bytes (failed_fields p.0) x.1 p.2, p.3)
record_takes form (suc (suc (suc (suc zero))) ∷ bytes) x fits e =
    let p = made_takes (kept_fields form) (FitsKept form) (then_at string_at (entry_at form)) kept_of (kept_reads form) bytes x (IsBytes-rest 4 bytes fits) e in
    rw p.1 (Takes-byte 4 bytes (kept_fields form p.0) x.1 p.2, p.3)
record_takes form (suc (suc (suc (suc (suc b)))) ∷ bytes) x fits e = absurd cc

record_again : (form : Form) (r : Record) (rest : List ℕ) → FitsRecord form r → record_at form (encoding_in form r ++ rest) ≡ Ok (r, rest)
unfolding record_at
record_again form (records.Begun target) rest fits = made_again string FitsString string_at records.Begun string_reads target rest fits
record_again form (records.Done target commands hidden explicit) rest fits =
    made_again (done_fields form) (FitsDone form) (done_at form) done_of (done_reads form) (target, (commands, (hidden, explicit))) rest fits
record_again form (records.Failed target status) rest fits =
    made_again failed_fields FitsFailed (then_at string_at status_at) failed_of failed_reads (target, status) rest fits
record_again form (records.Kept target known) rest fits =
    made_again (kept_fields form) (FitsKept form) (then_at string_at (entry_at form)) kept_of (kept_reads form) (target, known) rest fits

pub record_reads : (form : Form) → Reads (encoding_in form) (FitsRecord form) (record_at form)
record_reads form = record { takes = record_takes form; again = record_again form }

-- ---- good records

judged_ok : (f : Option RecordFault) (x y : Record × List ℕ) → judged f x ≡ Ok y → (f ≡ None) × (x ≡ y)
judged_ok None x y e = (refl, cc)
judged_ok (Some fault) x y e = absurd cc

status_fits : (p : Phase) → FitsPhase p → phase_status p ≤ 256
status_fits phases.Begun h = omega arith
status_fits phases.Done h = omega arith
status_fits (phases.Failed status) h = h

-- the status of a record whose fields can be written
status_of_fits : (form : Form) (r : Record) → FitsRecord form r → status_of r ≤ 256
status_of_fits form (records.Begun target) h = omega arith
status_of_fits form (records.Done target commands hidden explicit) h = omega arith
status_of_fits form (records.Failed target status) h = h.1
status_of_fits form (records.Kept target known) h = status_fits known.phase h.1.0

-- what it says of its explicit names
says_from_fits : (form : Form) (r : Record) → FitsRecord form r → SaysExplicitIn form r
says_from_fits forms.Old (records.Begun target) h = refl
says_from_fits forms.Old (records.Done target commands hidden explicit) h = h.1.1.1
says_from_fits forms.Old (records.Failed target status) h = refl
says_from_fits forms.Old (records.Kept target known) h = h.1.1.1.1
says_from_fits forms.Plain (records.Begun target) h = tt
says_from_fits forms.Plain (records.Done target commands hidden explicit) h = h.1.1.1.0
says_from_fits forms.Plain (records.Failed target status) h = tt
says_from_fits forms.Plain (records.Kept target known) h = h.1.1.1.1.0
says_from_fits forms.Marked (records.Begun target) h = tt
says_from_fits forms.Marked (records.Done target commands hidden explicit) h = h.1.1.1.0
says_from_fits forms.Marked (records.Failed target status) h = tt
says_from_fits forms.Marked (records.Kept target known) h = tt

good_takes : (form : Form) (bytes : List ℕ) (x : Record × List ℕ) → IsBytes bytes → good_at form bytes ≡ Ok x → Takes bytes (encoding_in form x.0) x.1 × IsGoodIn form x.0
unfolding good_at
good_takes form bytes x fits e =
    let p = bind_ok (record_at form bytes) (λ x. judged (fault_of form x.0) x) x e in
    let t = record_takes form bytes p.0 fits p.1 in
    let j = judged_ok (fault_of form p.0.0) p.0 x p.2 in
    let good : IsGoodIn form p.0.0 = record { within = within_in form p.0.0 j.0; status = status_of_fits form p.0.0 t.1; explicit = says_from_fits form p.0.0 t.1 } in
    subst (λ (y : Record × List ℕ). Takes bytes (encoding_in form y.0) y.1 × IsGoodIn form y.0) j.1 (t.0, good)

good_again : (form : Form) (r : Record) (rest : List ℕ) → IsGoodIn form r → good_at form (encoding_in form r ++ rest) ≡ Ok (r, rest)
unfolding good_at
good_again form r rest good = rw (record_again form r rest (fits_in form r good), none_from form r good.within) refl

pub good_reads : (form : Form) → Reads (encoding_in form) (IsGoodIn form) (good_at form)
good_reads form = record { takes = good_takes form; again = good_again form }
