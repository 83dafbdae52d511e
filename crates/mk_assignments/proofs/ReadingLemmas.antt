-- What is read of a line word by word is what the line says.
use Rattle.std.proofs.Common.{◌≡◌, ℕ, zero, suc, ◌<◌, ◌≤◌, List, length, Option, Some, None, refl, sym, subst, arith}
use Rattle.byte_strings.specs.Blanks.{trimmed_start}
use Rattle.mk_assignments.specs.Line.{Said, no_modifiers, and_modifier, Assigns, Says, assigned, listed}
use Rattle.mk_assignments.specs.Steps.{modifier_at, behind_modifier, assigned_at, assigned_from, listed_at, or_listed, said}
use Rattle.mk_assignments.specs.declared.statement.Modifier.{Modifier}
use Rattle.mk_assignments.specs.declared.statement.Modifiers.{Modifiers}
use Rattle.mk_assignments.proofs.LineLemmas.{lists, says_once}
use Rattle.mk_assignments.proofs.StepLemmas.{goes_on, shorter, last}

at_end : (text : List ℕ) (found : Option (Modifier × List ℕ)) → length text ≤ 0 → modifier_at text ≡ found → found ≡ None
at_end text None short e = refl
at_end text (Some w) short e = let less : length w.1 < length text = shorter text w.0 w.1 e in absurd (omega (arith, less, short))

-- it holds of what stands behind the modifier, if there is one
by_found : (m : Modifiers) (text : List ℕ) (further : Modifier → List ℕ → Option Said) (found : Option (Modifier × List ℕ)) → modifier_at text ≡ found →
    ((word : Modifier) (rest : List ℕ) → length rest < length text → Assigns (and_modifier word m) rest (further word rest)) →
    Assigns m text (behind_modifier found further (assigned_at m text))
by_found m text further None e is = last m text e
by_found m text further (Some w) e is = goes_on text w.0 w.1 m (further w.0 w.1) e (is w.0 w.1 (shorter text w.0 w.1 e))

assigned_is : (most : ℕ) (m : Modifiers) (text : List ℕ) → length text ≤ most → Assigns m text (assigned_from most m text)
assigned_is zero m text short = last m text (at_end text (modifier_at text) short refl)
assigned_is (suc most) m text short =
    by_found m text (λ word rest. assigned_from most (and_modifier word m) rest) (modifier_at text) refl
    (λ word rest less. assigned_is most (and_modifier word m) rest (omega (arith, less, short)))

said_by_both : (text : List ℕ) (found : Option Said) → Assigns no_modifiers (trimmed_start text) found → Says text (or_listed found (trimmed_start text))
said_by_both text (Some s) is = assigned s is
said_by_both text None is = listed (listed_at (trimmed_start text)) is (lists (trimmed_start text))

pub said_is : (text : List ℕ) → Says text (said text)
unfolding said
said_is text = said_by_both text _ (assigned_is (length (trimmed_start text)) no_modifiers (trimmed_start text) (omega arith))

pub said_met : (text : List ℕ) (told : Option Said) → Says text told → said text ≡ told
said_met text told is = says_once text (said_is text) is
