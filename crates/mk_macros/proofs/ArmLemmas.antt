-- What the arms of `expand_in` show of the whole text.
use Rattle.std.proofs.Common.{◌≡◌, ◌≤◌, ◌⊎◌, ℕ, Bool, List, ◌++◌, length, inl, inr, refl, sym, subst}
use Rattle.mk_macros.specs.Reference.{Use, used, Piece, reference, first}
use Rattle.mk_macros.specs.Function.{function_in}
use Rattle.mk_macros.specs.Lookup.{Progress, unseen, opened, known, AddsNow, HasLongValue, IsDefined, FailsNow}
use Rattle.mk_macros.specs.Expansion.{Meaning, undefined, dynamic, defined, too_long, calls_function, is_undefined, is_function, is_dynamic, is_long_dynamic, MeetsFault, IsTooLongAt, limit}
use Rattle.mk_macros.specs.declared.fault.MacroFault.{MacroFault}
use Rattle.mk_macros.specs.declared.fault.MacroFault.TheVariants.{OutOfMemory, Loop, Unclosed, NestedReference, TooLong, Function}
use Rattle.mk_macros.proofs.ExpansionLemmas.{Left, ahead, at_text, Waiting, IsExpanding, AreRight, AddsAnywhere, known_adds, step, piece_too_long, piece_fault, loop_fault}

module _ (wide : Bool) (meaning : List ℕ → Meaning) (root : List ℕ) (state : List ℕ → Progress) (cs : List Waiting) (made : List ℕ) (left : Left) (now : IsExpanding wide meaning root state cs made left) where
  -- a piece whose bytes couldn't be appended
  pub append_fault : (piece : Piece) (after added : List ℕ) → ahead wide left ≡ first piece after → AddsAnywhere wide meaning state root piece added →
      (fault : MacroFault) → IsTooLongAt (limit wide) (length (made ++ added)) fault → MeetsFault wide meaning root fault
  append_fault piece after added at adds OutOfMemory long = tt
  append_fault piece after added at adds (Loop name) long = absurd long
  append_fault piece after added at adds Unclosed long = absurd long
  append_fault piece after added at adds NestedReference long = absurd long
  append_fault piece after added at adds (Function word) long = absurd long
  append_fault piece after added at adds TooLong long = piece_too_long wide meaning state root cs made left now piece after added at adds long

  module _ (name : List ℕ) (use_of : Use) (after : List ℕ) (at : ahead wide left ≡ first (reference name use_of) after) where
    adds_at : (m : Meaning) → meaning name ≡ m → (p : Progress) → state name ≡ p → (added : List ℕ) → AddsNow (limit wide) (function_in wide name) m p use_of added →
        AddsAnywhere wide meaning state root (reference name use_of) added
    adds_at undefined is p q added adds =
        subst (AddsAnywhere wide meaning state root (reference name use_of)) (sym adds.1) (λ all a. is_undefined is adds.0)
    adds_at (dynamic value) is p q added adds =
        subst (AddsAnywhere wide meaning state root (reference name use_of)) (sym adds.1) (λ all a. is_dynamic value is adds.0)
    adds_at (defined text) is unseen q added adds = absurd adds
    adds_at (defined text) is opened q added adds = absurd adds
    adds_at (defined text) is (known value) q added adds =
        subst (AddsAnywhere wide meaning state root (reference name use_of)) (sym adds) (known_adds wide meaning state root now.right name value use_of q)

    adds : (added : List ℕ) → AddsNow (limit wide) (function_in wide name) (meaning name) (state name) use_of added → AddsAnywhere wide meaning state root (reference name use_of) added
    adds added a = adds_at (meaning name) refl (state name) refl added a

    -- what a reference adds is appended
    pub reference_step : (added whole : List ℕ) → AddsNow (limit wide) (function_in wide name) (meaning name) (state name) use_of added → whole ≡ made ++ added → length whole ≤ limit wide →
        IsExpanding wide meaning root state cs whole (at_text after)
    reference_step added whole a is fits =
        subst (λ xs. IsExpanding wide meaning root state cs xs (at_text after)) (sym is)
        (step wide meaning state root cs made left now (reference name use_of) after added at (adds added a) (subst (λ xs. length xs ≤ limit wide) is fits))

    long_at : (m : Meaning) → meaning name ≡ m → HasLongValue (limit wide) m → MeetsFault wide meaning root TooLong
    long_at undefined is long = absurd long
    long_at (dynamic value) is long =
        piece_fault wide meaning state root cs made left now (reference name use_of) after too_long at (is_long_dynamic value is long)
    long_at (defined text) is long = absurd long

    loop_at : (n : List ℕ) → n ≡ name → state name ≡ opened → IsDefined (meaning name) → MeetsFault wide meaning root (Loop n)
    loop_at n same is_open is =
        subst (λ x. MeetsFault wide meaning root (Loop x)) (sym same)
        (loop_fault wide meaning state root cs made left now name use_of after is.0 at is.1 is_open)

    -- why nothing could be appended
    pub reference_fault : (fault : MacroFault) → FailsNow (limit wide) (function_in wide name) (meaning name) (state name) use_of name made fault → MeetsFault wide meaning root fault
    reference_fault OutOfMemory f = tt
    reference_fault (Loop n) f = loop_at n f.0 f.1 f.2
    reference_fault Unclosed f = absurd f
    reference_fault NestedReference f = absurd f
    reference_fault (Function word) f =
        piece_fault wide meaning state root cs made left now (reference name use_of) after (calls_function word) at (is_function word f.0 f.1)
    reference_fault TooLong (inl long) = long_at (meaning name) refl long
    reference_fault TooLong (inr (added, a, long)) = piece_too_long wide meaning state root cs made left now (reference name use_of) after added at (adds added a) long
