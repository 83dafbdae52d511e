-- What stands at the front of bytes that begin with no good record.
use Rattle.std.specs.Prelude.{◌≡◌, ℕ, zero, suc, ◌^◌, ◌<◌, ◌⊎◌, List, [], ◌∷◌, ◌++◌, length}
use Rattle.st_records.specs.declared.fault.DecodeFault.{DecodeFault}
use Rattle.st_records.specs.declared.fault.DecodeFault.TheVariants.{OutOfMemory, Short, BadKind, Check}
use Rattle.st_records.specs.declared.version.Version.{Version}
use Rattle.st_records.specs.declared.version.Form.{Form}
use Rattle.st_records.specs.declared.version.Form.TheVariants as forms
use Rattle.st_records.specs.Forms.{form_of}
use Rattle.st_records.specs.Encoding.{number, string, strings, phase_fields, encoding_in, FitsString, FitsStrings, FitsPhase, FitsRecord}
use Rattle.st_records.specs.Limits.{IsFirstFaultIn}

-- a whole field, and after it bytes of which something holds
pub record After {A : Type 0} (spell : A → List ℕ) (Fits : A → Type 0) (Holds : A → List ℕ → Type 0) (bytes : List ℕ) : Type 0 where
  pub value : A
  pub rest : List ℕ
  pub fits : Fits value
  pub bytes_are : bytes ≡ spell value ++ rest
  pub holds : Holds value rest

-- a whole number of four bytes, and after it bytes of which something holds
abbrev pub AfterNumber : (ℕ → List ℕ → Type 0) → List ℕ → Type 0
AfterNumber Holds bytes = After number (λ n. n < 2 ^ 32) Holds bytes

-- something holds of a field, or of the one after it where the first is whole
abbrev pub InPair : {A : Type 0} → (List ℕ → Type 0) → (A → List ℕ) → (A → Type 0) → (List ℕ → Type 0) → List ℕ → Type 0
InPair First spell Fits Second bytes = First bytes ⊎ After spell Fits (λ _. Second) bytes

-- ---- the bytes end inside a field

abbrev pub EndsInNumber : List ℕ → Type 0
EndsInNumber bytes = length bytes < 4

-- in its length, or before as many bytes as the length says
abbrev pub EndsInString : List ℕ → Type 0
EndsInString bytes = EndsInNumber bytes ⊎ AfterNumber (λ n rest. length rest < n) bytes

-- in one of so many strings, where those before it are whole
abbrev pub EndsInItems : ℕ → List ℕ → Type 0
EndsInItems zero bytes = ⊥
EndsInItems (suc n) bytes = InPair EndsInString string FitsString (EndsInItems n) bytes

-- in the count, or in one of as many strings as it says
abbrev pub EndsInStrings : List ℕ → Type 0
EndsInStrings bytes = EndsInNumber bytes ⊎ AfterNumber EndsInItems bytes

-- before the phase, or in the status after a listed one
abbrev pub EndsInPhase : List ℕ → Type 0
EndsInPhase [] = Unit {0}
EndsInPhase (zero ∷ rest) = ⊥
EndsInPhase (suc zero ∷ rest) = EndsInNumber rest
EndsInPhase (suc (suc zero) ∷ rest) = EndsInNumber rest
EndsInPhase (suc (suc (suc zero)) ∷ rest) = EndsInNumber rest
EndsInPhase (suc (suc (suc (suc b))) ∷ rest) = ⊥

-- in names, or in the marks after them
abbrev pub EndsInMarked : List ℕ → Type 0
EndsInMarked bytes = InPair EndsInStrings strings FitsStrings EndsInString bytes

-- in the explicit names of a done record; in the marked form before the byte that says that marks are known, or in either
abbrev pub EndsInDoneExplicit : Form → List ℕ → Type 0
EndsInDoneExplicit forms.Old bytes = ⊥
EndsInDoneExplicit forms.Plain bytes = EndsInStrings bytes
EndsInDoneExplicit forms.Marked [] = Unit {0}
EndsInDoneExplicit forms.Marked (zero ∷ rest) = ⊥
EndsInDoneExplicit forms.Marked (suc zero ∷ rest) = ⊥
EndsInDoneExplicit forms.Marked (suc (suc zero) ∷ rest) = EndsInMarked rest
EndsInDoneExplicit forms.Marked (suc (suc (suc b)) ∷ rest) = ⊥

-- before the byte that says what is known of a kept record's explicit names, or in the names, or in their marks
abbrev pub EndsInKeptExplicit : Form → List ℕ → Type 0
EndsInKeptExplicit forms.Old bytes = ⊥
EndsInKeptExplicit forms.Plain [] = Unit {0}
EndsInKeptExplicit forms.Plain (zero ∷ rest) = ⊥
EndsInKeptExplicit forms.Plain (suc zero ∷ rest) = EndsInStrings rest
EndsInKeptExplicit forms.Plain (suc (suc b) ∷ rest) = ⊥
EndsInKeptExplicit forms.Marked [] = Unit {0}
EndsInKeptExplicit forms.Marked (zero ∷ rest) = ⊥
EndsInKeptExplicit forms.Marked (suc zero ∷ rest) = EndsInStrings rest
EndsInKeptExplicit forms.Marked (suc (suc zero) ∷ rest) = EndsInMarked rest
EndsInKeptExplicit forms.Marked (suc (suc (suc b)) ∷ rest) = ⊥

-- in the commands, in the hidden names after them, or in what comes after both
abbrev pub EndsInLists : (List ℕ → Type 0) → List ℕ → Type 0
EndsInLists Last bytes = InPair EndsInStrings strings FitsStrings (InPair EndsInStrings strings FitsStrings Last) bytes

-- in the phase, or in the lists after it
abbrev pub EndsInEntry : Form → List ℕ → Type 0
EndsInEntry form bytes = InPair EndsInPhase phase_fields FitsPhase (EndsInLists (EndsInKeptExplicit form)) bytes

-- before the kind, or in a field of the kind; the fields before it are whole and have listed values
abbrev pub EndsInRecord : Form → List ℕ → Type 0
EndsInRecord form [] = Unit {0}
EndsInRecord form (zero ∷ rest) = ⊥
EndsInRecord form (suc zero ∷ rest) = EndsInString rest
EndsInRecord form (suc (suc zero) ∷ rest) = InPair EndsInString string FitsString (EndsInLists (EndsInDoneExplicit form)) rest
EndsInRecord form (suc (suc (suc zero)) ∷ rest) = InPair EndsInString string FitsString EndsInNumber rest
EndsInRecord form (suc (suc (suc (suc zero))) ∷ rest) = InPair EndsInString string FitsString (EndsInEntry form) rest
EndsInRecord form (suc (suc (suc (suc (suc b)))) ∷ rest) = ⊥

-- ---- a value that is not listed

-- a status over 256
abbrev pub HasUnlistedStatus : List ℕ → Type 0
HasUnlistedStatus bytes = AfterNumber (λ n _. 256 < n) bytes

-- a status of what did not fail
abbrev pub HasNeedlessStatus : List ℕ → Type 0
HasNeedlessStatus bytes = AfterNumber (λ n _. 0 < n) bytes

-- another phase than 1 to 3, or a status that does not go with the phase
abbrev pub HasUnlistedPhase : List ℕ → Type 0
HasUnlistedPhase [] = ⊥
HasUnlistedPhase (zero ∷ rest) = Unit {0}
HasUnlistedPhase (suc zero ∷ rest) = HasNeedlessStatus rest
HasUnlistedPhase (suc (suc zero) ∷ rest) = HasNeedlessStatus rest
HasUnlistedPhase (suc (suc (suc zero)) ∷ rest) = HasUnlistedStatus rest
HasUnlistedPhase (suc (suc (suc (suc b))) ∷ rest) = Unit {0}

-- the byte that says that names and marks of a done record are known isn't 2
abbrev pub HasUnlistedMarked : List ℕ → Type 0
HasUnlistedMarked [] = ⊥
HasUnlistedMarked (zero ∷ rest) = Unit {0}
HasUnlistedMarked (suc zero ∷ rest) = Unit {0}
HasUnlistedMarked (suc (suc zero) ∷ rest) = ⊥
HasUnlistedMarked (suc (suc (suc b)) ∷ rest) = Unit {0}

-- the byte that says whether explicit names are known is neither 0 nor 1, nor in the marked form 2
abbrev pub HasUnlistedKnown : Form → List ℕ → Type 0
HasUnlistedKnown forms.Old bytes = ⊥
HasUnlistedKnown forms.Plain [] = ⊥
HasUnlistedKnown forms.Plain (zero ∷ rest) = ⊥
HasUnlistedKnown forms.Plain (suc zero ∷ rest) = ⊥
HasUnlistedKnown forms.Plain (suc (suc b) ∷ rest) = Unit {0}
HasUnlistedKnown forms.Marked [] = ⊥
HasUnlistedKnown forms.Marked (zero ∷ rest) = ⊥
HasUnlistedKnown forms.Marked (suc zero ∷ rest) = ⊥
HasUnlistedKnown forms.Marked (suc (suc zero) ∷ rest) = ⊥
HasUnlistedKnown forms.Marked (suc (suc (suc b)) ∷ rest) = Unit {0}

-- whole commands and hidden names, and after them bytes of which something holds
abbrev pub AfterLists : (List ℕ → Type 0) → List ℕ → Type 0
AfterLists Holds bytes = After strings FitsStrings (λ _. After strings FitsStrings (λ _. Holds)) bytes

-- in a done record only that byte of the marked form has a value that may not be listed
abbrev pub HasUnlistedDone : Form → List ℕ → Type 0
HasUnlistedDone forms.Old bytes = ⊥
HasUnlistedDone forms.Plain bytes = ⊥
HasUnlistedDone forms.Marked bytes = After string FitsString (λ _. AfterLists HasUnlistedMarked) bytes

-- in the phase, or in that byte after whole lists
abbrev pub HasUnlistedEntry : Form → List ℕ → Type 0
HasUnlistedEntry form bytes =
    InPair HasUnlistedPhase phase_fields FitsPhase
    (AfterLists (HasUnlistedKnown form)) bytes

-- another kind than 1 to 4, or after a whole target a phase, a status, or a byte that says what is known, which is not listed
abbrev pub HasUnlisted : Form → List ℕ → Type 0
HasUnlisted form [] = ⊥
HasUnlisted form (zero ∷ rest) = Unit {0}
HasUnlisted form (suc zero ∷ rest) = ⊥
HasUnlisted form (suc (suc zero) ∷ rest) = HasUnlistedDone form rest
HasUnlisted form (suc (suc (suc zero)) ∷ rest) = After string FitsString (λ _. HasUnlistedStatus) rest
HasUnlisted form (suc (suc (suc (suc zero))) ∷ rest) = After string FitsString (λ _. HasUnlistedEntry form) rest
HasUnlisted form (suc (suc (suc (suc (suc b)))) ∷ rest) = Unit {0}

-- ---- together

-- these bytes have this fault; want of memory is none of theirs
abbrev pub HasFaultIn : Form → DecodeFault → List ℕ → Type 0
HasFaultIn form OutOfMemory bytes = ⊥
HasFaultIn form Short bytes = EndsInRecord form bytes
HasFaultIn form BadKind bytes = HasUnlisted form bytes
HasFaultIn form (Check fault) bytes = After (encoding_in form) (FitsRecord form) (λ r _. IsFirstFaultIn form r fault) bytes

-- the same in a file of some version
abbrev pub HasFault : Version → DecodeFault → List ℕ → Type 0
HasFault version = HasFaultIn (form_of version)

-- ---- where memory may run out

-- the kind is listed, and the target after it is whole: nothing is copied before
abbrev pub HasWholeTarget : List ℕ → Type 0
HasWholeTarget [] = ⊥
HasWholeTarget (zero ∷ rest) = ⊥
HasWholeTarget (suc zero ∷ rest) = After string FitsString (λ _ _. Unit {0}) rest
HasWholeTarget (suc (suc zero) ∷ rest) = After string FitsString (λ _ _. Unit {0}) rest
HasWholeTarget (suc (suc (suc zero)) ∷ rest) = After string FitsString (λ _ _. Unit {0}) rest
HasWholeTarget (suc (suc (suc (suc zero))) ∷ rest) = After string FitsString (λ _ _. Unit {0}) rest
HasWholeTarget (suc (suc (suc (suc (suc b)))) ∷ rest) = ⊥
