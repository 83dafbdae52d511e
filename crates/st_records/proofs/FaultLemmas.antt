-- The fault that reading a record meets, and the one that its bytes have.
use Rattle.std.proofs.Common.{take, drop, length, ◌≡◌, ◌-◌, ◌<◌, ◌≤◌, arith, ℕ, zero, suc, ◌⊎◌, List, [], ◌∷◌, Option, Some, None, Result, Ok, Err, IsOk, refl, sym, ap, ◌∙◌, inl, inr}
use Rattle.std.specs.List.{All}
use Rattle.std.proofs.lemmas.Bool.{cases_lt}
use Rattle.std.proofs.lemmas.List.{get_or_past}
use Rattle.st_records.specs.declared.version.Form.{Form}
use Rattle.st_records.specs.declared.version.Form.TheVariants as forms
use Rattle.st_records.specs.declared.limits.RecordFault.{RecordFault}
use Rattle.st_records.specs.declared.fault.DecodeFault.{DecodeFault}
use Rattle.st_records.specs.declared.fault.DecodeFault.TheVariants.{OutOfMemory, Short, BadKind, Check}
use Rattle.st_records.specs.declared.record.Phase.{Phase}
use Rattle.st_records.specs.declared.record.Phase.TheVariants as phases
use Rattle.st_records.specs.declared.record.Explicit.{Explicit}
use Rattle.st_records.specs.declared.record.Entry.{Entry}
use Rattle.st_records.specs.declared.record.Record.{Record}
use Rattle.st_records.specs.declared.record.Record.TheVariants as records
use Rattle.st_records.specs.Encoding.{string, phase_fields, FitsString, FitsPhase}
use Rattle.st_records.specs.Limits.{EncodesIn}
use Rattle.st_records.specs.Tests.{fault_of}
use Rattle.st_records.specs.Reading.{Reader, Fails, target_at, then_at, made_at, string_at, status_at, no_status_at, phase_at, done_explicit_at, kept_explicit_at, lists_at, entry_at, record_at, judged, good_at}
use Rattle.st_records.specs.Faults.{After, InPair, EndsInNumber, EndsInString, EndsInPhase, EndsInDoneExplicit, EndsInKeptExplicit, EndsInLists, EndsInEntry, EndsInRecord, HasUnlistedStatus, HasNeedlessStatus, HasUnlistedPhase, HasUnlistedMarked, HasUnlistedKnown, AfterLists, HasUnlistedDone, HasUnlistedEntry, HasUnlisted, HasFaultIn, HasWholeTarget}
use Rattle.st_records.proofs.Fields.{IsBytes, IsBytes-rest, string_reads}
use Rattle.st_records.proofs.TestLemmas.{first_from, some_from}
use Rattle.st_records.proofs.Decoding.{is_read, read_is}
use Rattle.st_records.proofs.Records.{phase_reads, record_reads}
use Rattle.st_records.proofs.Stops.{Stops, Never, Either, bind_err, bind_at_ok, bind_at_err, ok_is_not_err, joined_stops, made_stops, restated, second_alone, status_stops, no_status_stops, string_stops, lists_stops, unnamed_stops, named_stops, done_marked_stops, kept_explicit_stops}

-- ---- phases and entries

begun_stops : Stops EndsInNumber HasNeedlessStatus (made_at (λ _. phases.Begun) no_status_at)
begun_stops = made_stops (λ _. phases.Begun) no_status_at EndsInNumber HasNeedlessStatus no_status_stops

done_stops : Stops EndsInNumber HasNeedlessStatus (made_at (λ _. phases.Done) no_status_at)
done_stops = made_stops (λ _. phases.Done) no_status_at EndsInNumber HasNeedlessStatus no_status_stops

failed_stops : Stops EndsInNumber HasUnlistedStatus (made_at phases.Failed status_at)
failed_stops = made_stops phases.Failed status_at EndsInNumber HasUnlistedStatus status_stops

phase_short : (bytes : List ℕ) → IsBytes bytes → phase_at bytes ≡ Err Short → EndsInPhase bytes
unfolding phase_at
phase_short [] fits e = tt
phase_short (zero ∷ rest) fits e = absurd cc
phase_short (suc zero ∷ rest) fits e = (begun_stops).short rest (IsBytes-rest 1 rest fits) e
phase_short (suc (suc zero) ∷ rest) fits e = (done_stops).short rest (IsBytes-rest 2 rest fits) e
phase_short (suc (suc (suc zero)) ∷ rest) fits e = (failed_stops).short rest (IsBytes-rest 3 rest fits) e
phase_short (suc (suc (suc (suc b))) ∷ rest) fits e = absurd cc

phase_unlisted : (bytes : List ℕ) → IsBytes bytes → phase_at bytes ≡ Err BadKind → HasUnlistedPhase bytes
unfolding phase_at
phase_unlisted [] fits e = absurd cc
phase_unlisted (zero ∷ rest) fits e = tt
phase_unlisted (suc zero ∷ rest) fits e = (begun_stops).unlisted rest (IsBytes-rest 1 rest fits) e
phase_unlisted (suc (suc zero) ∷ rest) fits e = (done_stops).unlisted rest (IsBytes-rest 2 rest fits) e
phase_unlisted (suc (suc (suc zero)) ∷ rest) fits e = (failed_stops).unlisted rest (IsBytes-rest 3 rest fits) e
phase_unlisted (suc (suc (suc (suc b))) ∷ rest) fits e = tt

phase_only : (bytes : List ℕ) (d : DecodeFault) → phase_at bytes ≡ Err d → (d ≡ Short) ⊎ (d ≡ BadKind)
unfolding phase_at
phase_only [] d e = inl cc
phase_only (zero ∷ rest) d e = inr cc
phase_only (suc zero ∷ rest) d e = (begun_stops).only rest d e
phase_only (suc (suc zero) ∷ rest) d e = (done_stops).only rest d e
phase_only (suc (suc (suc zero)) ∷ rest) d e = (failed_stops).only rest d e
phase_only (suc (suc (suc (suc b))) ∷ rest) d e = inr cc

phase_short_again : (bytes : List ℕ) → EndsInPhase bytes → phase_at bytes ≡ Err Short
unfolding phase_at
phase_short_again [] h = refl
phase_short_again (zero ∷ rest) h = absurd h
phase_short_again (suc zero ∷ rest) h = (begun_stops).short_again rest h
phase_short_again (suc (suc zero) ∷ rest) h = (done_stops).short_again rest h
phase_short_again (suc (suc (suc zero)) ∷ rest) h = (failed_stops).short_again rest h
phase_short_again (suc (suc (suc (suc b))) ∷ rest) h = absurd h

phase_unlisted_again : (bytes : List ℕ) → HasUnlistedPhase bytes → phase_at bytes ≡ Err BadKind
unfolding phase_at
phase_unlisted_again [] h = absurd h
phase_unlisted_again (zero ∷ rest) h = refl
phase_unlisted_again (suc zero ∷ rest) h = (begun_stops).unlisted_again rest h
phase_unlisted_again (suc (suc zero) ∷ rest) h = (done_stops).unlisted_again rest h
phase_unlisted_again (suc (suc (suc zero)) ∷ rest) h = (failed_stops).unlisted_again rest h
phase_unlisted_again (suc (suc (suc (suc b))) ∷ rest) h = refl

phase_stops : Stops EndsInPhase HasUnlistedPhase phase_at
phase_stops = record { short = phase_short; unlisted = phase_unlisted; only = phase_only; short_again = phase_short_again; unlisted_again = phase_unlisted_again }

abbrev entry_lists_at : Form → Reader (List (List ℕ) × (List (List ℕ) × Explicit))
entry_lists_at form = lists_at (kept_explicit_at form)

parts_stops : (form : Form) → Stops (EndsInEntry form) (HasUnlistedEntry form) (then_at phase_at (entry_lists_at form))
parts_stops form =
    joined_stops (λ x y. (x, y)) phase_fields FitsPhase phase_at (entry_lists_at form) EndsInPhase HasUnlistedPhase (EndsInLists (EndsInKeptExplicit form)) (AfterLists (HasUnlistedKnown form)) phase_reads phase_stops
    (lists_stops (kept_explicit_at form) (EndsInKeptExplicit form) (HasUnlistedKnown form) (kept_explicit_stops form))

abbrev entry_of : Phase × (List (List ℕ) × (List (List ℕ) × Explicit)) → Entry
entry_of x = record { phase = x.0; commands = x.1.0; hidden = x.1.1.0; explicit = x.1.1.1 }

entry_stops : (form : Form) → Stops (EndsInEntry form) (HasUnlistedEntry form) (entry_at form)
unfolding entry_at
entry_stops form = made_stops entry_of (then_at phase_at (entry_lists_at form)) (EndsInEntry form) (HasUnlistedEntry form) (parts_stops form)

-- ---- records

begun_record_stops : Stops EndsInString Never (made_at records.Begun string_at)
begun_record_stops = made_stops records.Begun string_at EndsInString Never string_stops

abbrev EndsInDone : Form → List ℕ → Type 0
EndsInDone form bytes = InPair EndsInString string FitsString (EndsInLists (EndsInDoneExplicit form)) bytes

abbrev done_at : Form → Reader (List ℕ × (List (List ℕ) × (List (List ℕ) × Explicit)))
done_at form = then_at string_at (lists_at (done_explicit_at form))

abbrev done_of : List ℕ × (List (List ℕ) × (List (List ℕ) × Explicit)) → Record
done_of x = records.Done x.0 x.1.0 x.1.1.0 x.1.1.1

none_of_lists : (bytes : List ℕ) → Either Never string FitsString (AfterLists Never) bytes → ⊥
none_of_lists bytes (inl h) = h
none_of_lists bytes (inr h) = h.holds.holds.holds

-- where its last field has no other faults than these two
done_fields_stop : (form : Form) (U : List ℕ → Type 0) → Stops (EndsInDoneExplicit form) U (done_explicit_at form) → Stops (EndsInDone form) (Either Never string FitsString (AfterLists U)) (done_at form)
done_fields_stop form U last =
    joined_stops (λ x y. (x, y)) string FitsString string_at (lists_at (done_explicit_at form)) EndsInString Never (EndsInLists (EndsInDoneExplicit form)) (AfterLists U) string_reads string_stops
    (lists_stops (done_explicit_at form) (EndsInDoneExplicit form) U last)

done_record_stops : (form : Form) → Stops (EndsInDone form) (HasUnlistedDone form) (made_at done_of (done_at form))
done_record_stops forms.Old =
    made_stops done_of (done_at forms.Old) (EndsInDone forms.Old) Never
    (restated (done_at forms.Old) (EndsInDone forms.Old) (Either Never string FitsString (AfterLists Never)) Never none_of_lists (λ bytes h. absurd h)
    (done_fields_stop forms.Old Never unnamed_stops))
done_record_stops forms.Plain =
    made_stops done_of (done_at forms.Plain) (EndsInDone forms.Plain) Never
    (restated (done_at forms.Plain) (EndsInDone forms.Plain) (Either Never string FitsString (AfterLists Never)) Never none_of_lists (λ bytes h. absurd h)
    (done_fields_stop forms.Plain Never named_stops))
done_record_stops forms.Marked =
    made_stops done_of (done_at forms.Marked) (EndsInDone forms.Marked) (HasUnlistedDone forms.Marked)
    (restated (done_at forms.Marked) (EndsInDone forms.Marked) (Either Never string FitsString (AfterLists HasUnlistedMarked)) (HasUnlistedDone forms.Marked)
    (second_alone string FitsString (AfterLists HasUnlistedMarked)) (λ bytes h. inr h)
    (done_fields_stop forms.Marked HasUnlistedMarked done_marked_stops))

abbrev EndsInFailed : List ℕ → Type 0
EndsInFailed bytes = InPair EndsInString string FitsString EndsInNumber bytes

abbrev HasUnlistedFailed : List ℕ → Type 0
HasUnlistedFailed bytes = After string FitsString (λ _. HasUnlistedStatus) bytes

failed_record_stops : Stops EndsInFailed HasUnlistedFailed (made_at (λ x. records.Failed x.0 x.1) (then_at string_at status_at))
failed_record_stops =
    made_stops (λ x. records.Failed x.0 x.1) (then_at string_at status_at) EndsInFailed HasUnlistedFailed
    (restated (then_at string_at status_at) EndsInFailed (Either Never string FitsString HasUnlistedStatus) HasUnlistedFailed (second_alone string FitsString HasUnlistedStatus) (λ bytes h. inr h)
    (joined_stops (λ x y. (x, y)) string FitsString string_at status_at EndsInString Never EndsInNumber HasUnlistedStatus string_reads string_stops status_stops))

abbrev EndsInKept : Form → List ℕ → Type 0
EndsInKept form bytes = InPair EndsInString string FitsString (EndsInEntry form) bytes

abbrev HasUnlistedKept : Form → List ℕ → Type 0
HasUnlistedKept form bytes = After string FitsString (λ _. HasUnlistedEntry form) bytes

abbrev kept_of : List ℕ × Entry → Record
kept_of x = records.Kept x.0 x.1

kept_record_stops : (form : Form) → Stops (EndsInKept form) (HasUnlistedKept form) (made_at kept_of (then_at string_at (entry_at form)))
kept_record_stops form =
    made_stops kept_of (then_at string_at (entry_at form)) (EndsInKept form) (HasUnlistedKept form)
    (restated (then_at string_at (entry_at form)) (EndsInKept form) (Either Never string FitsString (HasUnlistedEntry form)) (HasUnlistedKept form) (second_alone string FitsString (HasUnlistedEntry form)) (λ bytes h. inr h)
    (joined_stops (λ x y. (x, y)) string FitsString string_at (entry_at form) EndsInString Never (EndsInEntry form) (HasUnlistedEntry form) string_reads string_stops (entry_stops form)))

record_short : (form : Form) (bytes : List ℕ) → IsBytes bytes → record_at form bytes ≡ Err Short → EndsInRecord form bytes
unfolding record_at
record_short form [] fits e = tt
record_short form (zero ∷ rest) fits e = absurd cc
record_short form (suc zero ∷ rest) fits e = (begun_record_stops).short rest (IsBytes-rest 1 rest fits) e
record_short form (suc (suc zero) ∷ rest) fits e = (done_record_stops form).short rest (IsBytes-rest 2 rest fits) e
record_short form (suc (suc (suc zero)) ∷ rest) fits e = (failed_record_stops).short rest (IsBytes-rest 3 rest fits) e
record_short form (suc (suc (suc (suc zero))) ∷ rest) fits e = (kept_record_stops form).short rest (IsBytes-rest 4 rest fits) e
record_short form (suc (suc (suc (suc (suc b)))) ∷ rest) fits e = absurd cc

record_unlisted : (form : Form) (bytes : List ℕ) → IsBytes bytes → record_at form bytes ≡ Err BadKind → HasUnlisted form bytes
unfolding record_at
record_unlisted form [] fits e = absurd cc
record_unlisted form (zero ∷ rest) fits e = tt
record_unlisted form (suc zero ∷ rest) fits e = (begun_record_stops).unlisted rest (IsBytes-rest 1 rest fits) e
record_unlisted form (suc (suc zero) ∷ rest) fits e = (done_record_stops form).unlisted rest (IsBytes-rest 2 rest fits) e
record_unlisted form (suc (suc (suc zero)) ∷ rest) fits e = (failed_record_stops).unlisted rest (IsBytes-rest 3 rest fits) e
record_unlisted form (suc (suc (suc (suc zero))) ∷ rest) fits e = (kept_record_stops form).unlisted rest (IsBytes-rest 4 rest fits) e
record_unlisted form (suc (suc (suc (suc (suc b)))) ∷ rest) fits e = tt

record_only : (form : Form) (bytes : List ℕ) (d : DecodeFault) → record_at form bytes ≡ Err d → (d ≡ Short) ⊎ (d ≡ BadKind)
unfolding record_at
record_only form [] d e = inl cc
record_only form (zero ∷ rest) d e = inr cc
record_only form (suc zero ∷ rest) d e = (begun_record_stops).only rest d e
record_only form (suc (suc zero) ∷ rest) d e = (done_record_stops form).only rest d e
record_only form (suc (suc (suc zero)) ∷ rest) d e = (failed_record_stops).only rest d e
record_only form (suc (suc (suc (suc zero))) ∷ rest) d e = (kept_record_stops form).only rest d e
record_only form (suc (suc (suc (suc (suc b)))) ∷ rest) d e = inr cc

record_short_again : (form : Form) (bytes : List ℕ) → EndsInRecord form bytes → record_at form bytes ≡ Err Short
unfolding record_at
record_short_again form [] h = refl
record_short_again form (zero ∷ rest) h = absurd h
record_short_again form (suc zero ∷ rest) h = (begun_record_stops).short_again rest h
record_short_again form (suc (suc zero) ∷ rest) h = (done_record_stops form).short_again rest h
record_short_again form (suc (suc (suc zero)) ∷ rest) h = (failed_record_stops).short_again rest h
record_short_again form (suc (suc (suc (suc zero))) ∷ rest) h = (kept_record_stops form).short_again rest h
record_short_again form (suc (suc (suc (suc (suc b)))) ∷ rest) h = absurd h

record_unlisted_again : (form : Form) (bytes : List ℕ) → HasUnlisted form bytes → record_at form bytes ≡ Err BadKind
unfolding record_at
record_unlisted_again form [] h = absurd h
record_unlisted_again form (zero ∷ rest) h = refl
record_unlisted_again form (suc zero ∷ rest) h = (begun_record_stops).unlisted_again rest h
record_unlisted_again form (suc (suc zero) ∷ rest) h = (done_record_stops form).unlisted_again rest h
record_unlisted_again form (suc (suc (suc zero)) ∷ rest) h = (failed_record_stops).unlisted_again rest h
record_unlisted_again form (suc (suc (suc (suc zero))) ∷ rest) h = (kept_record_stops form).unlisted_again rest h
record_unlisted_again form (suc (suc (suc (suc (suc b)))) ∷ rest) h = refl

-- ---- good records

abbrev record_failed : DecodeFault → Result (Record × List ℕ) DecodeFault
record_failed d = Err d

record_err : (d e : DecodeFault) → record_failed e ≡ record_failed d → d ≡ e
record_err d e h = cc

abbrev pair_failing : DecodeFault → Result (Record × ℕ) DecodeFault
pair_failing d = Err d

pair_failed : (d e : DecodeFault) → record_failed d ≡ record_failed e → pair_failing d ≡ pair_failing e
pair_failed d e h = ap pair_failing (record_err d e (sym h))

abbrev failing : {A : Type 0} → DecodeFault → Result A DecodeFault
failing d = Err d

same_err : {A : Type 0} (d e : DecodeFault) → failing {A = A} d ≡ failing {A = A} e → d ≡ e
same_err d e h = cc

-- a fault of one call is that of another
pub err_again : {A B : Type 0} (d e : DecodeFault) → failing {A = A} d ≡ failing {A = A} e → failing {A = B} d ≡ failing {A = B} e
err_again {A} {B} d e h = ap (failing {A = B}) (same_err d e h)

memory_is_no_check : (g : RecordFault) → OutOfMemory ≡ Check g → ⊥
memory_is_no_check g e = cc

judged_err : (f : Option RecordFault) (x : Record × List ℕ) (d : DecodeFault) → judged f x ≡ Err d → (g : RecordFault) × (f ≡ Some g) × (d ≡ Check g)
judged_err None x d e = absurd cc
judged_err (Some g) x d e = (g, refl, record_err d (Check g) e)

judged_again : (f : Option RecordFault) (x : Record × List ℕ) (g : RecordFault) → f ≡ Some g → judged f x ≡ Err (Check g)
judged_again f x g e = rw e refl

check_is_not_short : (g : RecordFault) → Short ≡ Check g → ⊥
check_is_not_short g e = cc

check_is_not_bad : (g : RecordFault) → BadKind ≡ Check g → ⊥
check_is_not_bad g e = cc

one_fault : (f g : RecordFault) → Check f ≡ Check g → f ≡ g
one_fault f g e = cc

abbrev check_of : Form → Record × List ℕ → Result (Record × List ℕ) DecodeFault
check_of form x = judged (fault_of form x.0) x

-- the fault that reading meets is in the bytes
fault_is : (form : Form) (bytes : List ℕ) (d : DecodeFault) → IsBytes bytes → good_at form bytes ≡ Err d → HasFaultIn form d bytes
unfolding good_at
fault_is form bytes OutOfMemory fits e =
    elim (bind_err (record_at form bytes) (check_of form) OutOfMemory e) [
      | inl p ↦ elim (record_only form bytes OutOfMemory p) [ inl h ↦ absurd cc | inr h ↦ absurd cc ]
      | inr p ↦ (let j = judged_err (fault_of form p.0.0) p.0 OutOfMemory p.2 in absurd (memory_is_no_check j.0 j.2))
    ]
fault_is form bytes Short fits e =
    elim (bind_err (record_at form bytes) (check_of form) Short e) [
      | inl p ↦ record_short form bytes fits p
      | inr p ↦ (let j = judged_err (fault_of form p.0.0) p.0 Short p.2 in absurd (check_is_not_short j.0 j.2))
    ]
fault_is form bytes BadKind fits e =
    elim (bind_err (record_at form bytes) (check_of form) BadKind e) [
      | inl p ↦ record_unlisted form bytes fits p
      | inr p ↦ (let j = judged_err (fault_of form p.0.0) p.0 BadKind p.2 in absurd (check_is_not_bad j.0 j.2))
    ]
fault_is form bytes (Check g) fits e =
    elim (bind_err (record_at form bytes) (check_of form) (Check g) e) [
      | inl p ↦ elim (record_only form bytes (Check g) p) [ inl h ↦ absurd (check_is_not_short g (sym h)) | inr h ↦ absurd (check_is_not_bad g (sym h)) ]
      | inr p ↦
          let j = judged_err (fault_of form p.0.0) p.0 (Check g) p.2 in
          let t = (record_reads form).takes bytes p.0 fits p.1 in
          let same : fault_of form p.0.0 ≡ Some g = j.1 ∙ ap (λ (h : RecordFault). Some h) (one_fault j.0 g (sym j.2)) in
          record { value = p.0.0; rest = p.0.1; fits = t.1; bytes_are = t.0.parts; holds = first_from form p.0.0 g same }
    ]

-- a fault that is in the bytes is met
is_fault : (form : Form) (bytes : List ℕ) (d : DecodeFault) → HasFaultIn form d bytes → good_at form bytes ≡ Err d
unfolding good_at
is_fault form bytes OutOfMemory h = absurd h
is_fault form bytes Short h = bind_at_err (record_at form bytes) (check_of form) Short (record_short_again form bytes h)
is_fault form bytes BadKind h = bind_at_err (record_at form bytes) (check_of form) BadKind (record_unlisted_again form bytes h)
is_fault form bytes (Check g) h =
    bind_at_ok (record_at form bytes) (check_of form) (h.value, h.rest) (ap (record_at form) h.bytes_are ∙ (record_reads form).again h.value h.rest h.fits)
    ∙ judged_again (fault_of form h.value) (h.value, h.rest) g (some_from form h.value g h.holds)

-- a call that failed as reading does, or for want of memory
pub cause_is : (form : Form) (bytes : List ℕ) (d : DecodeFault) → IsBytes bytes → Fails d (good_at form bytes) → (d ≡ OutOfMemory) ⊎ HasFaultIn form d bytes
cause_is form bytes OutOfMemory fits h = inl refl
cause_is form bytes Short fits h = inr (fault_is form bytes Short fits h)
cause_is form bytes BadKind fits h = inr (fault_is form bytes BadKind fits h)
cause_is form bytes (Check g) fits h = inr (fault_is form bytes (Check g) fits h)

-- where the bytes have a fault, the call fails so, or for want of memory
pub fails_so : (form : Form) (bytes : List ℕ) (d e : DecodeFault) → HasFaultIn form d bytes → Fails e (good_at form bytes) → Fails {Y = Record × ℕ} e (Err d)
fails_so form bytes d OutOfMemory h failing = tt
fails_so form bytes d Short h failing = pair_failed d Short (sym (is_fault form bytes d h) ∙ failing)
fails_so form bytes d BadKind h failing = pair_failed d BadKind (sym (is_fault form bytes d h) ∙ failing)
fails_so form bytes d (Check g) h failing = pair_failed d (Check g) (sym (is_fault form bytes d h) ∙ failing)

pub never_reads : (form : Form) (bytes : List ℕ) (d : DecodeFault) (x : Record × List ℕ) → HasFaultIn form d bytes → good_at form bytes ≡ Ok x → ⊥
never_reads form bytes d x h e = ok_is_not_err (good_at form bytes) x d e (is_fault form bytes d h)

-- bytes have one fault at most
pub one_fault_lem : (form : Form) (bytes : List ℕ) (f g : DecodeFault) → HasFaultIn form f bytes → HasFaultIn form g bytes → f ≡ g
one_fault_lem form bytes f g h k = record_err f g (sym (is_fault form bytes g k) ∙ is_fault form bytes f h)

-- and none where a good record stands at their front
pub no_fault_lem : (form : Form) (bytes : List ℕ) (f : DecodeFault) (r : Record) (n : ℕ) → HasFaultIn form f bytes → EncodesIn form r (take n bytes) → ⊥
no_fault_lem form bytes f r n h stands = never_reads form bytes f (r, drop n bytes) h (is_read form bytes r n stands)

-- what some bytes answer
abbrev pub Answer : Form → List ℕ → Type 0
Answer form bytes = ((r : Record) × (n : ℕ) × (n ≤ length bytes) × EncodesIn form r (take n bytes)) ⊎ ((f : DecodeFault) × HasFaultIn form f bytes)

answer_from : (form : Form) (bytes : List ℕ) → IsBytes bytes → (read : Result (Record × List ℕ) DecodeFault) → good_at form bytes ≡ read → Answer form bytes
answer_from form bytes fits (Ok x) e =
    let is = read_is form bytes x.1 x.0 fits e in
    inl (x.0, length bytes - length x.1, is.within, is.front)
answer_from form bytes fits (Err f) e = inr (f, fault_is form bytes f fits e)

all_bytes : (bytes : List ℕ) → All (λ byte. byte < 256) bytes → IsBytes bytes
all_bytes bytes h i =
    elim (cases_lt i (length bytes)) [
      | inl lt ↦ h i 0 lt
      | inr le ↦ rw (get_or_past bytes i 0 le) (omega arith)
    ]

pub answer_lem : (form : Form) (bytes : List ℕ) → All (λ byte. byte < 256) bytes → Answer form bytes
answer_lem form bytes h = answer_from form bytes (all_bytes bytes h) (good_at form bytes) refl

-- ---- where memory may run out

ok_value : {A : Type 0} (r : Result A DecodeFault) → IsOk r → (x : A) × (r ≡ Ok x)
ok_value (Ok x) ok = (x, refl)
ok_value (Err f) ok = absurd cc

string_whole : (bytes : List ℕ) → IsBytes bytes → IsOk (string_at bytes) → After string FitsString (λ _ _. Unit {0}) bytes
string_whole bytes fits ok =
    let p = ok_value (string_at bytes) ok in
    let t = (string_reads).takes bytes p.0 fits p.1 in
    record { value = p.0.0; rest = p.0.1; fits = t.1; bytes_are = t.0.parts; holds = tt }

pub whole_target : (bytes : List ℕ) → IsBytes bytes → IsOk (target_at bytes) → HasWholeTarget bytes
unfolding target_at
whole_target [] fits ok = absurd cc
whole_target (zero ∷ rest) fits ok = absurd cc
whole_target (suc zero ∷ rest) fits ok = string_whole rest (IsBytes-rest 1 rest fits) ok
whole_target (suc (suc zero) ∷ rest) fits ok = string_whole rest (IsBytes-rest 2 rest fits) ok
whole_target (suc (suc (suc zero)) ∷ rest) fits ok = string_whole rest (IsBytes-rest 3 rest fits) ok
whole_target (suc (suc (suc (suc zero))) ∷ rest) fits ok = string_whole rest (IsBytes-rest 4 rest fits) ok
whole_target (suc (suc (suc (suc (suc b)))) ∷ rest) fits ok = absurd cc
