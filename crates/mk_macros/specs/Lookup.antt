-- What a reference comes to while a text is being expanded, by what is known of its macro.
use Rattle.std.specs.Prelude.{◌≡◌, ◌⊎◌, ℕ, ◌≤◌, ◌<◌, List, [], ◌++◌, length, Option, Some, None, nat_eq}
use Rattle.std.specs.Borrow.{Bor}
use Rattle.std.specs.HashMap.{HashMap, get_by}
use Rattle.std.specs.Cmp.Lexicographic.{pointwise}
use Rattle.mk_macros.specs.Reference.{Use, used}
use Rattle.mk_macros.specs.Expansion.{Meaning, undefined, dynamic, defined}
use Rattle.mk_macros.specs.declared.fault.MacroFault.{MacroFault}
use Rattle.mk_macros.specs.declared.fault.MacroFault.TheVariants.{OutOfMemory, Loop, TooLong, Function}
use Rattle.mk_macros.specs.declared.lookup.Progress as own
use Rattle.mk_macros.specs.declared.lookup.Progress.TheVariants.{Opened, Known}

-- how far the value of a macro is: not begun, being expanded, or known
pub data Progress : Type 0 where
  unseen : Progress
  opened : Progress
  known : (value : List ℕ) → Progress

abbrev pub shown_progress : Option own.Progress → Progress
shown_progress None = unseen
shown_progress (Some Opened) = opened
shown_progress (Some (Known value)) = known value.items

abbrev pub progress_at : {S : Type 0} → HashMap (Bor (List ℕ)) own.Progress S → List ℕ → Progress
progress_at m name = shown_progress (get_by (λ k. pointwise nat_eq name k.now) m)

-- what a reference adds, where the value of its macro is known; one that isn't defined adds nothing if it spells no function
abbrev pub AddsNow : (most : ℕ) → (function : Option (List ℕ)) → Meaning → Progress → Use → (added : List ℕ) → Type 0
AddsNow most function undefined progress use_of added = (function ≡ None) × (added ≡ [])
AddsNow most function (dynamic value) progress use_of added = (length value ≤ most) × (added ≡ used use_of value)
AddsNow most function (defined text) (known value) use_of added = added ≡ used use_of value
AddsNow most function (defined text) unseen use_of added = ⊥
AddsNow most function (defined text) opened use_of added = ⊥

-- a dynamic macro has a value over the limit
abbrev pub HasLongValue : (most : ℕ) → Meaning → Type 0
HasLongValue most undefined = ⊥
HasLongValue most (dynamic value) = most < length value
HasLongValue most (defined text) = ⊥

-- the text that a name stands for
abbrev pub IsDefined : Meaning → Type 0
IsDefined meaning = (text : List ℕ) × (meaning ≡ defined text)

-- what was made now ends in what the reference adds; or its macro wasn't met yet, and this is its name and its text
abbrev pub Finds : (most : ℕ) → (function : Option (List ℕ)) → Meaning → Progress → Use → (name before after : List ℕ) → Option (Bor (List ℕ) × Bor (List ℕ)) → Type 0
Finds most function meaning progress use_of name before after None =
    (added : List ℕ) × AddsNow most function meaning progress use_of added × (after ≡ before ++ added) × (length after ≤ most)
Finds most function meaning progress use_of name before after (Some found) =
    (found.0.now ≡ name) × (meaning ≡ defined found.1.now) × (progress ≡ unseen) × (after ≡ before)

-- why nothing could be appended to what was made
abbrev pub FailsNow : (most : ℕ) → (function : Option (List ℕ)) → Meaning → Progress → Use → (name made : List ℕ) → MacroFault → Type 0
FailsNow most function meaning progress use_of name made OutOfMemory = Unit {0}
FailsNow most function meaning progress use_of name made (Loop n) = (n ≡ name) × (progress ≡ opened) × IsDefined meaning
FailsNow most function meaning progress use_of name made TooLong =
    HasLongValue most meaning ⊎ ((added : List ℕ) × AddsNow most function meaning progress use_of added × (most < length (made ++ added)))
FailsNow most function meaning progress use_of name made (Function word) = (meaning ≡ undefined) × (function ≡ Some word)
FailsNow most function meaning progress use_of name made _ = ⊥
