-- What is known of a record within the limits.
use Rattle.std.proofs.Common.{◌≡◌, ℕ, ◌^◌, ◌<◌, ◌≤◌, Bool, true, false, ◌||◌, ltb, List, [], ◌∷◌, ◌++◌, length, length-append, None, refl, arith}
use Rattle.std.specs.List.{list_any, flat_map, AllByRecursion}
use Rattle.std.proofs.lemmas.Bool.{ltb-false, or_parts}
use Rattle.st_records.specs.declared.version.Form.{Form}
use Rattle.st_records.specs.declared.version.Form.TheVariants as forms
use Rattle.st_records.specs.declared.limits.TheConstants.{MAX_COMMAND_BYTES, MAX_COMMANDS, MAX_HIDDEN_NAMES, MAX_EXPLICIT_NAMES}
use Rattle.st_records.specs.declared.record.Phase.{Phase}
use Rattle.st_records.specs.declared.record.Phase.TheVariants as phases
use Rattle.st_records.specs.declared.record.Explicit.{Explicit}
use Rattle.st_records.specs.declared.record.Explicit.TheVariants.{Unknown, Known, Marked}
use Rattle.st_records.specs.declared.record.Entry.{Entry}
use Rattle.st_records.specs.declared.record.Record.{Record}
use Rattle.st_records.specs.declared.record.Record.TheVariants as records
use Rattle.st_records.specs.Parts.{target_of, names_known, marks_known, commands_of, hidden_of, explicit_of, phase_status}
use Rattle.st_records.specs.Encoding.{string, strings, marked_fields, phase_fields, done_explicit_in, kept_explicit_in, entry_fields_in, FitsString, FitsStrings, FitsPhase, FitsDoneExplicit, FitsKeptExplicit, FitsRecord}
use Rattle.st_records.specs.Limits.{max_name_bytes_in, max_record_bytes_in, counted_length_in, SaysExplicitIn, IsGoodIn}
use Rattle.st_records.specs.Tests.{any_name, is_empty_name, is_bad_name, is_long_name, has_bad_command, has_long_command, is_overlong, has_too_many}
use Rattle.st_records.proofs.TestLemmas.{chain, none_from}

-- where no fault is answered, the last two tests failed
last_tests : (a b c d : Bool) → chain a b c d ≡ None → (c ≡ false) × (d ≡ false)
last_tests true b c d e = absurd cc
last_tests false true c d e = absurd cc
last_tests false false true d e = absurd cc
last_tests false false false true e = absurd cc
last_tests false false false false e = (refl, refl)

-- strings that are not longer than a limit fit
strings_fit : (limit : ℕ) (items : List (List ℕ)) → limit < 2 ^ 32 → list_any (λ x. ltb limit (length x)) items ≡ false → AllByRecursion FitsString items
strings_fit limit [] small e = tt
strings_fit limit (x ∷ items) small e =
    let p = or_parts (ltb limit (length x)) (list_any (λ x. ltb limit (length x)) items) e in
    let short = ltb-false limit (length x) p.0 in
    (omega arith, strings_fit limit items small p.1)

small_names : (form : Form) → max_name_bytes_in form < 2 ^ 32
small_names forms.Old = omega arith
small_names forms.Plain = omega arith
small_names forms.Marked = omega arith

-- ---- the marks are among the bytes that count

length-lists : (commands hidden : List (List ℕ)) (last : List ℕ) → length last ≤ length (strings commands ++ (strings hidden ++ last))
length-lists commands hidden last =
    omega (arith, length-append (flat_map string commands) (strings hidden ++ last), length-append (flat_map string hidden) last)

length-marked : (names : List (List ℕ)) (marks : List ℕ) → length marks ≤ length (marked_fields names marks)
length-marked names marks = omega (arith, length-append (flat_map string names) (string marks))

length-phase : (p : Phase) → length (phase_fields p) ≡ 5
length-phase phases.Begun = refl
length-phase phases.Done = refl
length-phase (phases.Failed status) = refl

marks_kept : (e : Explicit) → length (marks_known e) ≤ length (kept_explicit_in forms.Marked e)
marks_kept Unknown = omega arith
marks_kept (Known names) = omega arith
marks_kept (Marked names marks) = omega (arith, length-marked names marks)

marks_counted : (r : Record) → length (marks_known (explicit_of r)) ≤ counted_length_in forms.Marked r
marks_counted (records.Begun target) = omega arith
marks_counted (records.Done target commands hidden explicit) =
    let last = done_explicit_in forms.Marked explicit in
    omega (arith, length-append target (strings commands ++ (strings hidden ++ last)), length-lists commands hidden last, length-marked (names_known explicit) (marks_known explicit))
marks_counted (records.Failed target status) = omega arith
marks_counted (records.Kept target known) =
    let last = kept_explicit_in forms.Marked known.explicit in
    let lists = strings known.commands ++ (strings known.hidden ++ last) in
    omega (
      arith,
      length-append target (entry_fields_in forms.Marked known),
      length-append (phase_fields known.phase) lists,
      length-phase known.phase,
      length-lists known.commands known.hidden last,
      marks_kept known.explicit,
    )

-- what a good record holds can be written, whatever its kind
record Fitting (form : Form) (r : Record) : Type 0 where
  target : FitsString (target_of r)
  commands : FitsStrings (commands_of r)
  hidden : FitsStrings (hidden_of r)
  explicit : FitsStrings (names_known (explicit_of r))
  counted : counted_length_in form r ≤ max_record_bytes_in form

parts_fit : (form : Form) (r : Record) → IsGoodIn form r → Fitting form r
parts_fit form r good =
    let long_name = is_long_name form in
    let explicit = names_known (explicit_of r) in
    let tests = last_tests (any_name is_empty_name r) (any_name is_bad_name r || has_bad_command r) (any_name long_name r || (has_long_command r || is_overlong form r)) (has_too_many r) (none_from form r good.within) in
    let long = or_parts (any_name long_name r) (has_long_command r || is_overlong form r) tests.0 in
    let rest = or_parts (has_long_command r) (is_overlong form r) long.1 in
    let names = or_parts (long_name (target_of r) || list_any long_name (hidden_of r)) (list_any long_name explicit) long.0 in
    let first = or_parts (long_name (target_of r)) (list_any long_name (hidden_of r)) names.0 in
    let many = or_parts (ltb MAX_COMMANDS (length (commands_of r))) (ltb MAX_HIDDEN_NAMES (length (hidden_of r)) || ltb MAX_EXPLICIT_NAMES (length explicit)) tests.1 in
    let lists = or_parts (ltb MAX_HIDDEN_NAMES (length (hidden_of r))) (ltb MAX_EXPLICIT_NAMES (length explicit)) many.1 in
    let small = small_names form in
    let short = ltb-false (max_name_bytes_in form) (length (target_of r)) first.0 in
    let few_commands = ltb-false MAX_COMMANDS (length (commands_of r)) many.0 in
    let few_hidden = ltb-false MAX_HIDDEN_NAMES (length (hidden_of r)) lists.0 in
    let few_explicit = ltb-false MAX_EXPLICIT_NAMES (length explicit) lists.1 in
    record {
      target = omega arith;
      commands = (omega arith, strings_fit MAX_COMMAND_BYTES (commands_of r) (omega arith) rest.0);
      hidden = (omega arith, strings_fit (max_name_bytes_in form) (hidden_of r) small first.1);
      explicit = (omega arith, strings_fit (max_name_bytes_in form) explicit small names.1);
      counted = ltb-false (max_record_bytes_in form) (counted_length_in form r) rest.1;
    }

phase_fits : (p : Phase) → phase_status p ≤ 256 → FitsPhase p
phase_fits phases.Begun h = tt
phase_fits phases.Done h = tt
phase_fits (phases.Failed status) h = h

marks_fit : (r : Record) → Fitting forms.Marked r → FitsString (marks_known (explicit_of r))
marks_fit r p = omega (arith, p.counted, marks_counted r)

done_fits : (form : Form) (target : List ℕ) (commands hidden : List (List ℕ)) (explicit : Explicit) → (p : Fitting form (records.Done target commands hidden explicit))
    → SaysExplicitIn form (records.Done target commands hidden explicit) → FitsDoneExplicit form explicit
done_fits forms.Old target commands hidden explicit p says = says
done_fits forms.Plain target commands hidden explicit p says = (says, p.explicit)
done_fits forms.Marked target commands hidden explicit p says = (says, (p.explicit, marks_fit (records.Done target commands hidden explicit) p))

kept_fits : (form : Form) (target : List ℕ) (known : Entry) → (p : Fitting form (records.Kept target known)) → SaysExplicitIn form (records.Kept target known) → FitsKeptExplicit form known.explicit
kept_fits forms.Old target known p says = says
kept_fits forms.Plain target known p says = (says, p.explicit)
kept_fits forms.Marked target known p says = (p.explicit, marks_fit (records.Kept target known) p)

-- the fields of a good record can be written
pub fits_in : (form : Form) (r : Record) → IsGoodIn form r → FitsRecord form r
fits_in form (records.Begun target) good = (parts_fit form (records.Begun target) good).target
fits_in form (records.Done target commands hidden explicit) good =
    let p = parts_fit form (records.Done target commands hidden explicit) good in
    (p.target, (p.commands, (p.hidden, done_fits form target commands hidden explicit p good.explicit)))
fits_in form (records.Failed target status) good = ((parts_fit form (records.Failed target status) good).target, good.status)
fits_in form (records.Kept target known) good =
    let p = parts_fit form (records.Kept target known) good in
    (p.target, (phase_fits known.phase good.status, (p.commands, (p.hidden, kept_fits form target known p good.explicit))))
