-- What the tests of a record mean.
use Rattle.std.proofs.Common.{◌≡◌, ◌∙◌, ℕ, ◌<◌, ◌≤◌, ◌⊎◌, inl, inr, Bool, true, false, cond, ◌||◌, ltb, eqb, List, [], ◌∷◌, length, get_or, Option, Some, None, refl, sym, ap, subst, arith}
use Rattle.std.specs.List.{list_any, Any, Contains}
use Rattle.std.proofs.lemmas.Bool.{ltb-true, lt-ltb, eqb-true, eq-eqb, or_cases}
use Rattle.std.proofs.lemmas.List.Folds.{Any-from_list_any, list_any-from_Any, list_any-append}
use Rattle.st_records.specs.declared.version.Version.{Version}
use Rattle.st_records.specs.declared.version.Form.{Form}
use Rattle.st_records.specs.declared.limits.RecordFault.{RecordFault}
use Rattle.st_records.specs.declared.limits.RecordFault.TheVariants.{EmptyName, BadByte, TooLong, TooMany}
use Rattle.st_records.specs.declared.limits.TheConstants.{MAX_COMMAND_BYTES, MAX_COMMANDS, MAX_HIDDEN_NAMES, MAX_EXPLICIT_NAMES}
use Rattle.st_records.specs.declared.record.Record.{Record}
use Rattle.st_records.specs.Parts.{names_of, target_of, names_known, commands_of, hidden_of, explicit_of}
use Rattle.st_records.specs.Forms.{form_of}
use Rattle.st_records.specs.Limits.{max_name_bytes_in, max_record_bytes_in, counted_length_in, Breaks, rank, IsWithin, IsWithinIn, IsFirstFaultIn}
use Rattle.st_records.specs.Tests.{any_name, has_byte, is_empty_name, is_bad_name, is_long_name, has_bad_command, has_long_command, is_overlong, has_too_many, fault_of}

-- a test gives true just where this holds
record Tells (b : Bool) (P : Type 0) : Type 0 where
  yes : b ≡ true → P
  no : P → b ≡ true

or_left : (a b : Bool) → a ≡ true → (a || b) ≡ true
or_left true b e = refl
or_left false b e = absurd cc

or_right : (a b : Bool) → b ≡ true → (a || b) ≡ true
or_right true b e = refl
or_right false b e = e

tells_or : {P Q : Type 0} (a b : Bool) → Tells a P → Tells b Q → Tells (a || b) (P ⊎ Q)
tells_or a b p q = record {
  yes = λ e. elim (or_cases a b e) [ inl h ↦ inl (p.yes h) | inr h ↦ inr (q.yes h) ];
  no = λ h. elim h [ inl x ↦ or_left a b (p.no x) | inr y ↦ or_right a b (q.no y) ];
}

tells_lt : (a b : ℕ) → Tells (ltb a b) (a < b)
tells_lt a b = record { yes = ltb-true a b; no = lt-ltb a b }

tells_any : {X : Type 0} (p : X → Bool) (P : X → Type 0) → ((x : X) → Tells (p x) (P x)) → (xs : List X) → Tells (list_any p xs) (Any P xs)
tells_any p P each xs = record {
  yes = λ e. (let h = Any-from_list_any p xs e in (h.0, h.1, h.2, h.3, (each h.1).yes h.4));
  no = λ h. list_any-from_Any p xs (h.0, h.1, h.2, h.3, (each h.1).no h.4);
}

tells_byte : (byte : ℕ) (bytes : List ℕ) → Tells (has_byte byte bytes) (Contains bytes byte)
tells_byte byte bytes = record {
  yes = λ e.
      let h = Any-from_list_any (λ b. eqb b byte) bytes e in
      (h.0, h.2, subst (λ (b : ℕ). get_or bytes h.0 b ≡ b) (eqb-true h.1 byte h.4) h.3);
  no = λ h. list_any-from_Any (λ b. eqb b byte) bytes (h.0, byte, h.1, h.2, eq-eqb byte byte refl);
}

nothing : (name : List ℕ) → length name ≡ 0 → name ≡ []
nothing [] e = refl
nothing (b ∷ name) e = absurd (omega (arith, e))

tells_empty : (name : List ℕ) → Tells (is_empty_name name) (name ≡ [])
tells_empty name = record { yes = λ e. nothing name (eqb-true (length name) 0 e); no = λ h. eq-eqb (length name) 0 (ap length h) }

tells_bad : (name : List ℕ) → Tells (is_bad_name name) (Contains name 0 ⊎ Contains name 10)
tells_bad name = tells_or (has_byte 0 name) (has_byte 10 name) (tells_byte 0 name) (tells_byte 10 name)

regroup : (a b c : Bool) → (a || (b || c)) ≡ (a || b || c)
regroup true b c = refl
regroup false b c = refl

tells_names : (p : List ℕ → Bool) (P : List ℕ → Type 0) → ((x : List ℕ) → Tells (p x) (P x)) → (r : Record) → Tells (any_name p r) (Any P (names_of r))
tells_names p P each r =
    let hidden = hidden_of r in
    let explicit = names_known (explicit_of r) in
    let same : list_any p (names_of r) ≡ any_name p r =
    ap (λ (b : Bool). p (target_of r) || b) (list_any-append p hidden explicit) ∙ regroup (p (target_of r)) (list_any p hidden) (list_any p explicit) in
    subst (λ (b : Bool). Tells b (Any P (names_of r))) same (tells_any p P each (names_of r))

-- the test of each limit
abbrev breaks : Form → Record → RecordFault → Bool
breaks form r EmptyName = any_name is_empty_name r
breaks form r BadByte = any_name is_bad_name r || has_bad_command r
breaks form r TooLong = any_name (is_long_name form) r || (has_long_command r || is_overlong form r)
breaks form r TooMany = has_too_many r

tells : (form : Form) (r : Record) (fault : RecordFault) → Tells (breaks form r fault) (Breaks form r fault)
tells form r EmptyName = tells_names is_empty_name (λ name. name ≡ []) tells_empty r
tells form r BadByte =
    tells_or (any_name is_bad_name r) (has_bad_command r) (tells_names is_bad_name (λ name. Contains name 0 ⊎ Contains name 10) tells_bad r)
    (tells_any (has_byte 0) (λ command. Contains command 0) (tells_byte 0) (commands_of r))
tells form r TooLong =
    tells_or (any_name (is_long_name form) r) (has_long_command r || is_overlong form r)
    (tells_names (is_long_name form) (λ name. max_name_bytes_in form < length name) (λ name. tells_lt (max_name_bytes_in form) (length name)) r)
    (tells_or (has_long_command r) (is_overlong form r)
    (tells_any (λ command. ltb MAX_COMMAND_BYTES (length command)) (λ command. MAX_COMMAND_BYTES < length command) (λ command. tells_lt MAX_COMMAND_BYTES (length command)) (commands_of r))
    (tells_lt (max_record_bytes_in form) (counted_length_in form r)))
tells form r TooMany =
    tells_or (ltb MAX_COMMANDS (length (commands_of r))) (ltb MAX_HIDDEN_NAMES (length (hidden_of r)) || ltb MAX_EXPLICIT_NAMES (length (names_known (explicit_of r))))
    (tells_lt MAX_COMMANDS (length (commands_of r)))
    (tells_or (ltb MAX_HIDDEN_NAMES (length (hidden_of r))) (ltb MAX_EXPLICIT_NAMES (length (names_known (explicit_of r))))
    (tells_lt MAX_HIDDEN_NAMES (length (hidden_of r))) (tells_lt MAX_EXPLICIT_NAMES (length (names_known (explicit_of r)))))

-- ---- four tests, one after the other

abbrev pub chain : (a b c d : Bool) → Option RecordFault
chain a b c d = cond a (Some EmptyName) (cond b (Some BadByte) (cond c (Some TooLong) (cond d (Some TooMany) None)))

abbrev at_fault : RecordFault → (a b c d : Bool) → Bool
at_fault EmptyName a b c d = a
at_fault BadByte a b c d = b
at_fault TooLong a b c d = c
at_fault TooMany a b c d = d

abbrev First : RecordFault → (a b c d : Bool) → Type 0
First f a b c d = (at_fault f a b c d ≡ true) × ((g : RecordFault) → at_fault g a b c d ≡ true → rank f ≤ rank g)

some_is : (f g : RecordFault) → Some f ≡ Some g → f ≡ g
some_is f g e = cc

from_1 : (g : RecordFault) → 1 ≤ rank g
from_1 EmptyName = omega arith
from_1 BadByte = omega arith
from_1 TooLong = omega arith
from_1 TooMany = omega arith

from_2 : (g : RecordFault) (b c d : Bool) → at_fault g false b c d ≡ true → 2 ≤ rank g
from_2 EmptyName b c d h = absurd cc
from_2 BadByte b c d h = omega arith
from_2 TooLong b c d h = omega arith
from_2 TooMany b c d h = omega arith

from_3 : (g : RecordFault) (c d : Bool) → at_fault g false false c d ≡ true → 3 ≤ rank g
from_3 EmptyName c d h = absurd cc
from_3 BadByte c d h = absurd cc
from_3 TooLong c d h = omega arith
from_3 TooMany c d h = omega arith

from_4 : (g : RecordFault) (d : Bool) → at_fault g false false false d ≡ true → 4 ≤ rank g
from_4 EmptyName d h = absurd cc
from_4 BadByte d h = absurd cc
from_4 TooLong d h = absurd cc
from_4 TooMany d h = omega arith

chain_first : (a b c d : Bool) (f : RecordFault) → chain a b c d ≡ Some f → First f a b c d
chain_first true b c d f e = subst (λ (f : RecordFault). First f true b c d) (some_is EmptyName f e) (refl, λ g h. from_1 g)
chain_first false true c d f e = subst (λ (f : RecordFault). First f false true c d) (some_is BadByte f e) (refl, λ g h. from_2 g true c d h)
chain_first false false true d f e = subst (λ (f : RecordFault). First f false false true d) (some_is TooLong f e) (refl, λ g h. from_3 g true d h)
chain_first false false false true f e = subst (λ (f : RecordFault). First f false false false true) (some_is TooMany f e) (refl, λ g h. from_4 g true h)
chain_first false false false false f e = absurd cc

chain_again : (a b c d : Bool) (f : RecordFault) → First f a b c d → chain a b c d ≡ Some f
chain_again true b c d EmptyName h = refl
chain_again true b c d BadByte h = absurd (omega (arith, h.1 EmptyName refl))
chain_again true b c d TooLong h = absurd (omega (arith, h.1 EmptyName refl))
chain_again true b c d TooMany h = absurd (omega (arith, h.1 EmptyName refl))
chain_again false b c d EmptyName h = (let e = h.0 in absurd cc)
chain_again false true c d BadByte h = refl
chain_again false true c d TooLong h = absurd (omega (arith, h.1 BadByte refl))
chain_again false true c d TooMany h = absurd (omega (arith, h.1 BadByte refl))
chain_again false false c d BadByte h = (let e = h.0 in absurd cc)
chain_again false false true d TooLong h = refl
chain_again false false true d TooMany h = absurd (omega (arith, h.1 TooLong refl))
chain_again false false false d TooLong h = (let e = h.0 in absurd cc)
chain_again false false false true TooMany h = refl
chain_again false false false false TooMany h = (let e = h.0 in absurd cc)

none_first : (a b c d : Bool) (f : RecordFault) → chain a b c d ≡ None → at_fault f a b c d ≡ true → ⊥
none_first true b c d f e h = cc
none_first false true c d f e h = cc
none_first false false true d f e h = cc
none_first false false false true f e h = cc
none_first false false false false EmptyName e h = cc
none_first false false false false BadByte e h = cc
none_first false false false false TooLong e h = cc
none_first false false false false TooMany e h = cc

none_again : (a b c d : Bool) → ((f : RecordFault) → at_fault f a b c d ≡ true → ⊥) → chain a b c d ≡ None
none_again true b c d never = absurd (never EmptyName refl)
none_again false true c d never = absurd (never BadByte refl)
none_again false false true d never = absurd (never TooLong refl)
none_again false false false true never = absurd (never TooMany refl)
none_again false false false false never = refl

-- ---- a record's first fault

abbrev at_tests : Form → Record → RecordFault → Bool
at_tests form r fault = at_fault fault (breaks form r EmptyName) (breaks form r BadByte) (breaks form r TooLong) (breaks form r TooMany)

same_test : (form : Form) (r : Record) (fault : RecordFault) → at_tests form r fault ≡ breaks form r fault
same_test form r EmptyName = refl
same_test form r BadByte = refl
same_test form r TooLong = refl
same_test form r TooMany = refl

told : (form : Form) (r : Record) (fault : RecordFault) → at_tests form r fault ≡ true → Breaks form r fault
told form r fault e = (tells form r fault).yes (sym (same_test form r fault) ∙ e)

tested : (form : Form) (r : Record) (fault : RecordFault) → Breaks form r fault → at_tests form r fault ≡ true
tested form r fault h = same_test form r fault ∙ (tells form r fault).no h

pub within_in : (form : Form) (r : Record) → fault_of form r ≡ None → IsWithinIn form r
within_in form r e = λ fault h. none_first _ _ _ _ fault e (tested form r fault h)

pub within_from : (version : Version) (r : Record) → fault_of (form_of version) r ≡ None → IsWithin version r
within_from version = within_in (form_of version)

pub none_from : (form : Form) (r : Record) → IsWithinIn form r → fault_of form r ≡ None
none_from form r within = none_again _ _ _ _ (λ fault e. within fault (told form r fault e))

pub first_from : (form : Form) (r : Record) (fault : RecordFault) → fault_of form r ≡ Some fault → IsFirstFaultIn form r fault
first_from form r fault e =
    let h = chain_first _ _ _ _ fault e in
    record { broken = told form r fault h.0; least = λ other b. h.1 other (tested form r other b) }

pub some_from : (form : Form) (r : Record) (fault : RecordFault) → IsFirstFaultIn form r fault → fault_of form r ≡ Some fault
some_from form r fault first =
    chain_again _ _ _ _ fault (tested form r fault first.broken, λ other e. first.least other (told form r other e))
