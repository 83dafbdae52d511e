-- What a reference comes to, by the value of a dynamic macro, or by the progress of a defined one.
use Rattle.std.proofs.Common.{◌≡◌, ◌≤◌, inl, inr, ℕ, List, [], ◌∷◌, ◌++◌, length, Option, Some, None, refl, sym, ap, ◌∙◌, subst, append-nil, Bor}
use Rattle.mk_macros.specs.Reference.{Use, used}
use Rattle.mk_macros.specs.Ranks.{meaning_from}
use Rattle.mk_macros.specs.Lookup.{Progress, opened, known, unseen, AddsNow, Finds, FailsNow}
use Rattle.mk_macros.specs.Expansion.{Meaning, undefined, dynamic, defined, IsTooLongAt, IsLongValue}
use Rattle.mk_macros.specs.declared.fault.MacroFault.{MacroFault}
use Rattle.mk_macros.specs.declared.fault.MacroFault.TheVariants.{OutOfMemory, Loop, Unclosed, NestedReference, TooLong, Function}

module _ (most : ℕ) (function : Option (List ℕ)) (progress : Progress) (use_of : Use) (name made : List ℕ) where
  -- a dynamic macro whose value couldn't be made
  pub value_fails : (value text : Option (List ℕ)) (fault : MacroFault) → IsLongValue most value fault → FailsNow most function (meaning_from value text) progress use_of name made fault
  value_fails value text OutOfMemory long = tt
  value_fails None text (Loop n) long = absurd long
  value_fails None text Unclosed long = absurd long
  value_fails None text NestedReference long = absurd long
  value_fails None text TooLong long = absurd long
  value_fails None text (Function w) long = absurd long
  value_fails (Some value) text (Loop n) long = absurd long
  value_fails (Some value) text Unclosed long = absurd long
  value_fails (Some value) text NestedReference long = absurd long
  value_fails (Some value) text TooLong long = inl long
  value_fails (Some value) text (Function w) long = absurd long

  -- a value that couldn't be appended
  pub append_fails : (meaning : Meaning) (added : List ℕ) → AddsNow most function meaning progress use_of added → (fault : MacroFault) →
      IsTooLongAt most (length (made ++ added)) fault → FailsNow most function meaning progress use_of name made fault
  append_fails meaning added adds OutOfMemory long = tt
  append_fails meaning added adds (Loop n) long = absurd long
  append_fails meaning added adds Unclosed long = absurd long
  append_fails meaning added adds NestedReference long = absurd long
  append_fails meaning added adds TooLong long = inr (added, adds, long)
  append_fails meaning added adds (Function w) long = absurd long

-- a name that stands for a text is defined as that
pub defined_from : (value text : Option (List ℕ)) (bytes : List ℕ) → meaning_from value text ≡ defined bytes → text ≡ Some bytes
defined_from (Some value) text bytes is = absurd (cc is)
defined_from None (Some text) bytes is = let same : text ≡ bytes = cc in ap Some same
defined_from None None bytes is = absurd (cc is)
