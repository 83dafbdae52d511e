-- What the expansion of a text is, form by form.
use Rattle.std.specs.Prelude.{◌≡◌, ℕ, ◌≤◌, ◌<◌, ◌⊎◌, Bool, true, false, if◌then◌else◌, List, [], ◌∷◌, ◌++◌, length, Option, Some, None}
use Rattle.mk_profile.specs.Profile.{is_wide}
use Rattle.mk_profile.specs.declared.profile.Profile.{Profile}
use Rattle.mk_macros.specs.Function.{function_in}
use Rattle.mk_macros.specs.Reference.{Use, used, Piece, plain, reference, unclosed, nested, named, nothing, first, front}
use Rattle.mk_macros.specs.declared.fault.TheConstants.{MAX_EXPANSION_BYTES, MAX_WIDE_EXPANSION_BYTES}
use Rattle.mk_macros.specs.declared.fault.MacroFault.{MacroFault}
use Rattle.mk_macros.specs.declared.fault.MacroFault.TheVariants.{OutOfMemory, Loop, Unclosed, NestedReference, TooLong, Function}

-- what a name stands for: nothing, bytes that aren't expanded again, or a text that is expanded when it is used
pub data Meaning : Type 0 where
  undefined : Meaning
  dynamic : (value : List ℕ) → Meaning
  defined : (text : List ℕ) → Meaning

-- what names stand for, and the language of the texts that they stand in
pub record Meanings : Type 0 where
  pub language : Profile
  pub meaning : (name : List ℕ) → Meaning

-- why a text has no expansion
pub data Fault : Type 0 where
  refers_to_itself : (name : List ℕ) → Fault
  not_closed : Fault
  dollar_in_brackets : Fault
  too_long : Fault
  calls_function : (word : List ℕ) → Fault

-- the bytes of an expansion, or the fault that is met first
pub data Outcome : Type 0 where
  gives : (bytes : List ℕ) → Outcome
  fails : (fault : Fault) → Outcome

-- no text and no value grows longer
abbrev pub limit : (wide : Bool) → ℕ
limit wide = if wide then MAX_WIDE_EXPANSION_BYTES else MAX_EXPANSION_BYTES

-- the name is one of the list
abbrev pub IsOneOf : List ℕ → List (List ℕ) → Type 0
IsOneOf name [] = ⊥
IsOneOf name (n ∷ names) = (name ≡ n) ⊎ IsOneOf name names

mutual
  -- the outcome of a text, read from the left, while the macros of these names are being expanded and behind the
  -- bytes that were made of what stood before it
  pub data Expands (wide : Bool) (meaning : List ℕ → Meaning) : (opened : List (List ℕ)) (made text : List ℕ) → Outcome → Type 0 where
    ends : {opened : List (List ℕ)} {made text : List ℕ} → front wide text ≡ nothing → Expands wide meaning opened made text (gives made)
    goes_on : {opened : List (List ℕ)} {made text : List ℕ} {outcome : Outcome} (piece : Piece) (rest added : List ℕ) →
        front wide text ≡ first piece rest → Adds wide meaning opened piece (gives added) → length (made ++ added) ≤ limit wide →
        Expands wide meaning opened (made ++ added) rest outcome → Expands wide meaning opened made text outcome
    is_too_long : {opened : List (List ℕ)} {made text : List ℕ} (piece : Piece) (rest added : List ℕ) →
        front wide text ≡ first piece rest → Adds wide meaning opened piece (gives added) → limit wide < length (made ++ added) →
        Expands wide meaning opened made text (fails too_long)
    meets_fault : {opened : List (List ℕ)} {made text : List ℕ} (piece : Piece) (rest : List ℕ) (fault : Fault) →
        front wide text ≡ first piece rest → Adds wide meaning opened piece (fails fault) → Expands wide meaning opened made text (fails fault)

  -- what a piece adds to the bytes before it, or the fault that is met in it
  pub data Adds (wide : Bool) (meaning : List ℕ → Meaning) : (opened : List (List ℕ)) → Piece → Outcome → Type 0 where
    adds_bytes : {opened : List (List ℕ)} {bytes : List ℕ} → Adds wide meaning opened (plain bytes) (gives bytes)
    is_unclosed : {opened : List (List ℕ)} → Adds wide meaning opened unclosed (fails not_closed)
    is_nested : {opened : List (List ℕ)} {inner : List ℕ} → wide ≡ false → Adds wide meaning opened (nested inner) (fails dollar_in_brackets)
    is_undefined : {opened : List (List ℕ)} {name : List ℕ} {use_of : Use} →
        meaning name ≡ undefined → function_in wide name ≡ None → Adds wide meaning opened (reference name use_of) (gives [])
    -- what GNU make would call a function isn't passed over
    is_function : {opened : List (List ℕ)} {name : List ℕ} {use_of : Use} (word : List ℕ) →
        meaning name ≡ undefined → function_in wide name ≡ Some word → Adds wide meaning opened (reference name use_of) (fails (calls_function word))
    is_dynamic : {opened : List (List ℕ)} {name : List ℕ} {use_of : Use} (value : List ℕ) →
        meaning name ≡ dynamic value → length value ≤ limit wide → Adds wide meaning opened (reference name use_of) (gives (used use_of value))
    is_long_dynamic : {opened : List (List ℕ)} {name : List ℕ} {use_of : Use} (value : List ℕ) →
        meaning name ≡ dynamic value → limit wide < length value → Adds wide meaning opened (reference name use_of) (fails too_long)
    is_loop : {opened : List (List ℕ)} {name : List ℕ} {use_of : Use} (text : List ℕ) →
        meaning name ≡ defined text → IsOneOf name opened → Adds wide meaning opened (reference name use_of) (fails (refers_to_itself name))
    has_value : {opened : List (List ℕ)} {name : List ℕ} {use_of : Use} (text value : List ℕ) →
        meaning name ≡ defined text → (IsOneOf name opened → ⊥) → Expands wide meaning (name ∷ opened) [] text (gives value) →
        Adds wide meaning opened (reference name use_of) (gives (used use_of value))
    has_fault : {opened : List (List ℕ)} {name : List ℕ} {use_of : Use} (text : List ℕ) (fault : Fault) →
        meaning name ≡ defined text → (IsOneOf name opened → ⊥) → Expands wide meaning (name ∷ opened) [] text (fails fault) →
        Adds wide meaning opened (reference name use_of) (fails fault)
    -- in the wide profile the brackets are expanded, and what comes of them is read once, whatever it holds
    has_name : {opened : List (List ℕ)} {inner : List ℕ} {outcome : Outcome} (bytes : List ℕ) →
        wide ≡ true → Expands wide meaning opened [] inner (gives bytes) → Adds wide meaning opened (named bytes) outcome →
        Adds wide meaning opened (nested inner) outcome
    has_no_name : {opened : List (List ℕ)} {inner : List ℕ} (fault : Fault) →
        wide ≡ true → Expands wide meaning opened [] inner (fails fault) → Adds wide meaning opened (nested inner) (fails fault)

-- the outcome of a text in which nothing has been read yet, in the language that it is written in
abbrev pub ExpandsTo : Meanings → (text : List ℕ) → Outcome → Type 0
ExpandsTo names text outcome = Expands (is_wide names.language) names.meaning [] [] text outcome

-- the fault is the text's outcome; want of memory says nothing of the text
abbrev pub MeetsFault : (wide : Bool) (meaning : List ℕ → Meaning) (text : List ℕ) → MacroFault → Type 0
MeetsFault wide meaning text OutOfMemory = Unit {0}
MeetsFault wide meaning text (Loop name) = Expands wide meaning [] [] text (fails (refers_to_itself name))
MeetsFault wide meaning text Unclosed = Expands wide meaning [] [] text (fails not_closed)
MeetsFault wide meaning text NestedReference = Expands wide meaning [] [] text (fails dollar_in_brackets)
MeetsFault wide meaning text TooLong = Expands wide meaning [] [] text (fails too_long)
MeetsFault wide meaning text (Function word) = Expands wide meaning [] [] text (fails (calls_function word))

abbrev pub ExpandsToFault : Meanings → (text : List ℕ) → MacroFault → Type 0
ExpandsToFault names text fault = MeetsFault (is_wide names.language) names.meaning text fault

-- the fault of an appending call that would leave this many bytes, where so many are the most
abbrev pub IsTooLongAt : (most total : ℕ) → MacroFault → Type 0
IsTooLongAt most total OutOfMemory = Unit {0}
IsTooLongAt most total TooLong = most < total
IsTooLongAt most total _ = ⊥

-- the fault of a call that gives a value, where there is one
abbrev pub IsLongValue : (most : ℕ) → Option (List ℕ) → MacroFault → Type 0
IsLongValue most (Some value) fault = IsTooLongAt most (length value) fault
IsLongValue most None OutOfMemory = Unit {0}
IsLongValue most None _ = ⊥
