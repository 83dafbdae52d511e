-- A record of clean strings has no fault but that of its length or of its counts.
use Rattle.std.proofs.Common.{◌≡◌, ◌∙◌, ℕ, ◌≤◌, Bool, false, ◌||◌, ltb, List, [], ◌∷◌, ◌++◌, length, None, refl, arith}
use Rattle.std.specs.List.{list_any}
use Rattle.std.proofs.lemmas.Bool.{ltb-false, le-ltb, or_parts}
use Rattle.std.proofs.lemmas.List.Folds.{list_any-append}
use Rattle.st_records.specs.declared.version.Form.{Form}
use Rattle.st_records.specs.declared.version.Form.TheVariants as forms
use Rattle.st_records.specs.declared.limits.TheConstants.{MAX_COMMAND_BYTES}
use Rattle.st_records.specs.declared.record.Record.{Record}
use Rattle.st_records.specs.Parts.{target_of, names_known, commands_of, hidden_of, explicit_of}
use Rattle.st_records.specs.Encoding.{encoding_in}
use Rattle.st_records.specs.Limits.{max_name_bytes_in, max_record_bytes_in, counted_length_in}
use Rattle.st_records.specs.Tests.{has_byte, is_empty_name, is_bad_name, is_long_name, is_overlong, has_too_many, fault_of}
use Rattle.st_records.specs.Clean.{is_unclean, AreClean, IsClean}

pub clean_from : (form : Form) (string : List ℕ) → is_empty_name string ≡ false → is_bad_name string ≡ false → is_long_name form string ≡ false → is_unclean form string ≡ false
clean_from form string empty bad long = rw (empty, bad, long) refl

not_empty : (form : Form) (string : List ℕ) → is_unclean form string ≡ false → is_empty_name string ≡ false
not_empty form string e = (or_parts (is_empty_name string) (is_bad_name string || is_long_name form string) e).0

not_bad : (form : Form) (string : List ℕ) → is_unclean form string ≡ false → is_bad_name string ≡ false
not_bad form string e =
    let p = or_parts (is_empty_name string) (is_bad_name string || is_long_name form string) e in
    (or_parts (is_bad_name string) (is_long_name form string) p.1).0

not_long : (form : Form) (string : List ℕ) → is_unclean form string ≡ false → is_long_name form string ≡ false
not_long form string e =
    let p = or_parts (is_empty_name string) (is_bad_name string || is_long_name form string) e in
    (or_parts (is_bad_name string) (is_long_name form string) p.1).1

no_nul : (form : Form) (string : List ℕ) → is_unclean form string ≡ false → has_byte 0 string ≡ false
no_nul form string e = (or_parts (has_byte 0 string) (has_byte 10 string) (not_bad form string e)).0

names_are_commands : (form : Form) → max_name_bytes_in form ≤ MAX_COMMAND_BYTES
names_are_commands forms.Old = omega arith
names_are_commands forms.Plain = omega arith
names_are_commands forms.Marked = omega arith

short_command : (form : Form) (string : List ℕ) → is_unclean form string ≡ false → ltb MAX_COMMAND_BYTES (length string) ≡ false
short_command form string e =
    let short : length string ≤ max_name_bytes_in form = ltb-false (max_name_bytes_in form) (length string) (not_long form string e) in
    le-ltb MAX_COMMAND_BYTES (length string) (omega (arith, short, names_are_commands form))

-- what holds of no unclean string holds of none
none_other : (P Q : List ℕ → Bool) → ((x : List ℕ) → P x ≡ false → Q x ≡ false) → (xs : List (List ℕ)) → list_any P xs ≡ false → list_any Q xs ≡ false
none_other P Q follows [] e = refl
none_other P Q follows (x ∷ xs) e =
    let p = or_parts (P x) (list_any P xs) e in
    rw (follows x p.0, none_other P Q follows xs p.1) refl

pub none_of_clean : (form : Form) (r : Record) (len : ℕ) → IsClean form r → length (encoding_in form r) ≤ len → len ≤ max_record_bytes_in form → has_too_many r ≡ false → fault_of form r ≡ None
none_of_clean form r len clean within short few =
    let hidden_empty = none_other (is_unclean form) is_empty_name (not_empty form) (hidden_of r) clean.2 in
    let explicit_empty = none_other (is_unclean form) is_empty_name (not_empty form) (names_known (explicit_of r)) clean.3 in
    let hidden_bad = none_other (is_unclean form) is_bad_name (not_bad form) (hidden_of r) clean.2 in
    let explicit_bad = none_other (is_unclean form) is_bad_name (not_bad form) (names_known (explicit_of r)) clean.3 in
    let hidden_long = none_other (is_unclean form) (is_long_name form) (not_long form) (hidden_of r) clean.2 in
    let explicit_long = none_other (is_unclean form) (is_long_name form) (not_long form) (names_known (explicit_of r)) clean.3 in
    let commands_bad = none_other (is_unclean form) (has_byte 0) (no_nul form) (commands_of r) clean.1 in
    let commands_long = none_other (is_unclean form) (λ command. ltb MAX_COMMAND_BYTES (length command)) (short_command form) (commands_of r) clean.1 in
    let overlong : is_overlong form r ≡ false = le-ltb (max_record_bytes_in form) (counted_length_in form r) (omega (arith, within, short)) in
    rw (not_empty form (target_of r) clean.0, hidden_empty, explicit_empty, not_bad form (target_of r) clean.0, hidden_bad, explicit_bad, commands_bad, not_long form (target_of r) clean.0, hidden_long, explicit_long, commands_long, overlong, few) refl

-- one more
pub more_clean : (form : Form) (front : List (List ℕ)) (x : List ℕ) → AreClean form front → is_unclean form x ≡ false → AreClean form (front ++ x ∷ [])
more_clean form front x clean one = list_any-append (is_unclean form) front (x ∷ []) ∙ rw (clean, one) refl
