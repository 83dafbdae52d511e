-- Texts without a dollar.
use Rattle.std.proofs.Common.{arith, ◌≡◌, ℕ, ◌≤◌, ◌<◌, Bool, true, false, ◌==◌, cond, List, [], ◌∷◌, length, refl, ap, ◌∙◌}
use Rattle.std.proofs.lemmas.Bool.{or_parts}
use Rattle.std.specs.Prelude.{Result, Ok, Err, IfOk, IfErr}
use Rattle.std.specs.List.{list_any}
use Rattle.mk_macros.specs.Expansion.{Meaning, Expands, ends, goes_on, is_too_long, adds_bytes, gives, fails, too_long, limit, MeetsFault, IsTooLongAt}
use Rattle.mk_macros.specs.Reference.{front, first, plain, plain_until, behind_dollar}
use Rattle.mk_macros.specs.Words.{place_of}
use Rattle.mk_macros.specs.declared.fault.MacroFault.{MacroFault}
use Rattle.mk_macros.specs.declared.fault.TheConstants.{MAX_EXPANSION_BYTES}
use Rattle.mk_macros.specs.declared.fault.MacroFault.TheVariants.{OutOfMemory, Loop, Unclosed, NestedReference, TooLong, Function}
use Rattle.mk_macros.proofs.SpelledLemmas.{place_of-none}

abbrev pub HasNoDollar : List ℕ → Type 0
HasNoDollar text = list_any (λ b. b == 36) text ≡ false

whole : (wide : Bool) (b : ℕ) (text : List ℕ) → HasNoDollar (b ∷ text) → front wide (b ∷ text) ≡ first (plain (b ∷ text)) []
whole wide b text none =
    let no : (b == 36) ≡ false = (or_parts (b == 36) (list_any (λ c. c == 36) text) none).0 in
    ap (λ t. cond t (behind_dollar wide text) (plain_until (b ∷ text) (place_of 36 (b ∷ text)))) no
    ∙ ap (plain_until (b ∷ text)) (place_of-none 36 (b ∷ text) none)

-- what is within the limit of the strict profile is within that of each
pub within_each : (wide : Bool) (n : ℕ) → n ≤ MAX_EXPANSION_BYTES → n ≤ limit wide
within_each true n within = omega (arith, within)
within_each false n within = within

-- such a text stands for itself, whichever names are being expanded
pub plain_expands_in : (wide : Bool) (meaning : List ℕ → Meaning) (text : List ℕ) → HasNoDollar text → length text ≤ limit wide → (opened : List (List ℕ)) → Expands wide meaning opened [] text (gives text)
plain_expands_in wide meaning [] none within opened = ends refl
plain_expands_in wide meaning (b ∷ text) none within opened = goes_on (plain (b ∷ text)) [] (b ∷ text) (whole wide b text none) adds_bytes within (ends refl)

pub plain_expands : (wide : Bool) (meaning : List ℕ → Meaning) (text : List ℕ) → HasNoDollar text → length text ≤ limit wide → Expands wide meaning [] [] text (gives text)
plain_expands wide meaning text none within = plain_expands_in wide meaning text none within []

plain_too_long : (wide : Bool) (meaning : List ℕ → Meaning) (text : List ℕ) → HasNoDollar text → limit wide < length text → Expands wide meaning [] [] text (fails too_long)
plain_too_long wide meaning [] none past = absurd (omega arith)
plain_too_long wide meaning (b ∷ text) none past = is_too_long (plain (b ∷ text)) [] (b ∷ text) (whole wide b text none) adds_bytes past

pub plain_fault : (wide : Bool) (meaning : List ℕ → Meaning) (text : List ℕ) → HasNoDollar text → (fault : MacroFault) → IsTooLongAt (limit wide) (length text) fault → MeetsFault wide meaning text fault
plain_fault wide meaning text none OutOfMemory is = tt
plain_fault wide meaning text none TooLong is = plain_too_long wide meaning text none is
plain_fault wide meaning text none (Loop name) is = absurd is
plain_fault wide meaning text none Unclosed is = absurd is
plain_fault wide meaning text none NestedReference is = absurd is
plain_fault wide meaning text none (Function word) is = absurd is

-- a fact of the value at Ok, and of the fault at Err
pub ok_with : {T E : Type 0} (r : Result T E) (P Q : T → Type 0) → ((v : T) → P v → Q v) → IfOk r P → IfOk r Q
ok_with (Ok v) P Q with p = with v p
ok_with (Err e) P Q with p = tt

pub err_with : {T E : Type 0} (r : Result T E) (P Q : E → Type 0) → ((e : E) → P e → Q e) → IfErr r P → IfErr r Q
err_with (Ok v) P Q with p = tt
err_with (Err e) P Q with p = with e p
