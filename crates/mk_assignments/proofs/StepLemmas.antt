-- What is read word by word is what a line says.
use Rattle.std.proofs.Common.{◌≡◌, ℕ, ◌<◌, true, false, List, [], ◌∷◌, drop, length, Option, Some, None, refl, sym, ap, ◌∙◌, subst, codes, true≢false, arith}
use Rattle.std.specs.Str.{bytes_eq}
use Rattle.std.proofs.lemmas.List.{length-drop}
use Rattle.std.proofs.lemmas.Slice.Eq.{bytes_eq-Decides}
use Rattle.byte_strings.specs.Blanks.{first_word, trimmed_start}
use Rattle.byte_strings.proofs.WordLemmas.{length-trimmed_start}
use Rattle.mk_conditionals.specs.Cut.{front_word, behind_word}
use Rattle.mk_assignments.specs.Reading.{Defined}
use Rattle.mk_assignments.specs.Reading as reading
use Rattle.mk_assignments.specs.Line.{Said, modifier_text, and_modifier, Assigns, definition, define, undefine, modified, nothing}
use Rattle.mk_assignments.specs.Steps.{modifier_named, with_rest, modifier_unless, modifier_at, assigned_by, assigned_at}
use Rattle.mk_assignments.specs.declared.statement.Modifier.{Modifier}
use Rattle.mk_assignments.specs.declared.statement.Modifier.TheVariants.{Export, Override, Private}
use Rattle.mk_assignments.specs.declared.statement.Modifiers.{Modifiers}
use Rattle.mk_assignments.proofs.DefinitionLemmas.{spells}
use Rattle.mk_assignments.proofs.SignLemmas.{either}

same_word : (word text : List ℕ) → bytes_eq word text ≡ true → word ≡ text
same_word word text e = (bytes_eq-Decides word text).0 e

apart : (word text : List ℕ) → bytes_eq word text ≡ false → word ≡ text → ⊥
apart word text e h = true≢false (sym ((bytes_eq-Decides word text).1 h) ∙ e)

abbrev IsNamed : (word : List ℕ) → Option Modifier → Type 0
IsNamed word None = Unit {0}
IsNamed word (Some m) = word ≡ modifier_text m

named : (word : List ℕ) → IsNamed word (modifier_named word)
named word =
    either (IsNamed word) (bytes_eq word (codes "export")) _ _ (λ e. same_word word (codes "export") e) (λ _.
    either (IsNamed word) (bytes_eq word (codes "override")) _ _ (λ e. same_word word (codes "override") e) (λ _.
    either (IsNamed word) (bytes_eq word (codes "private")) _ _ (λ e. same_word word (codes "private") e) (λ _. record {})))

known : (m : Modifier) → modifier_named (modifier_text m) ≡ None → ⊥
known Export h = cc
known Override h = cc
known Private h = cc

unnamed : (word : List ℕ) → modifier_named word ≡ None → (m : Modifier) → word ≡ modifier_text m → ⊥
unnamed word h m e = known m (subst (λ w. modifier_named w ≡ None) e h)

-- no definition stands there, but this modifier with this behind it
abbrev IsModified : (text : List ℕ) (m : Modifier) (rest : List ℕ) → Type 0
IsModified text m rest = (reading.definition text ≡ None) × (front_word text ≡ modifier_text m) × (rest ≡ behind_word text)

same_found : {A : Type 0} (x y : A) → Some x ≡ Some y → x ≡ y
same_found x y h = cc

modified_by : (text : List ℕ) (found : Option Modifier) (m : Modifier) (rest : List ℕ) → reading.definition text ≡ None → IsNamed (front_word text) found →
    with_rest found (behind_word text) ≡ Some (m, rest) → IsModified text m rest
modified_by text None m rest e is h = absurd (cc)
modified_by text (Some k) m rest e is h =
    let both = same_found (k, behind_word text) (m, rest) h in
    let same : k ≡ m = ap (λ (p : Modifier × List ℕ). p.0) both in
    let left : rest ≡ behind_word text = sym (ap (λ (p : Modifier × List ℕ). p.1) both) in
    (e, is ∙ ap modifier_text same, left)

modified_unless : (text : List ℕ) (found : Option Defined) (m : Modifier) (rest : List ℕ) → reading.definition text ≡ found →
    modifier_unless found text ≡ Some (m, rest) → IsModified text m rest
modified_unless text (Some d) m rest e h = absurd (cc)
modified_unless text None m rest e h = modified_by text (modifier_named (front_word text)) m rest e (named (front_word text)) h

modified_said : (text : List ℕ) (m : Modifier) (rest : List ℕ) → modifier_at text ≡ Some (m, rest) → IsModified text m rest
unfolding modifier_at
modified_said text m rest h = modified_unless text (reading.definition text) m rest refl h

-- what stands behind a modifier says what the whole says
pub goes_on : (text : List ℕ) (m : Modifier) (rest : List ℕ) (all : Modifiers) (told : Option Said) → modifier_at text ≡ Some (m, rest) →
    Assigns (and_modifier m all) rest told → Assigns all text told
goes_on text m rest all told h is =
    let w = modified_said text m rest h in
    modified m (spells text None w.0) w.1 (subst (λ r. Assigns (and_modifier m all) r told) w.2 is)

shorter_by : (line word : List ℕ) (m : Modifier) → word ≡ first_word line → word ≡ modifier_text m → length (trimmed_start (drop (length word) line)) < length line
unfolding first_word
shorter_by [] word Export e h = let none : first_word [] ≡ codes "export" = sym e ∙ h in absurd (cc)
shorter_by [] word Override e h = let none : first_word [] ≡ codes "override" = sym e ∙ h in absurd (cc)
shorter_by [] word Private e h = let none : first_word [] ≡ codes "private" = sym e ∙ h in absurd (cc)
shorter_by (b ∷ bs) word m e h =
    let some : 0 < length word = long m word h in
    omega (arith, some, length-trimmed_start (drop (length word) (b ∷ bs)), length-drop (length word) (b ∷ bs))
  where
    long : (m : Modifier) (word : List ℕ) → word ≡ modifier_text m → 0 < length word
    long Export word h = omega (arith, ap length h)
    long Override word h = omega (arith, ap length h)
    long Private word h = omega (arith, ap length h)

-- and is shorter
pub shorter : (text : List ℕ) (m : Modifier) (rest : List ℕ) → modifier_at text ≡ Some (m, rest) → length rest < length text
unfolding front_word behind_word
shorter text m rest h =
    let w = modified_said text m rest h in
    let less = shorter_by (trimmed_start text) (front_word text) m refl w.1 in
    omega (arith, less, length-trimmed_start text, ap length w.2)

unnamed_by : (found : Option Modifier) (rest : List ℕ) → with_rest found rest ≡ None → found ≡ None
unnamed_by None rest h = refl
unnamed_by (Some m) rest h = absurd (cc)

last_by : (m : Modifiers) (text : List ℕ) (found : Option Defined) → reading.definition text ≡ found → modifier_unless found text ≡ None →
    Assigns m text (assigned_by m text found)
last_by m text (Some d) e h = definition d (spells text (Some d) e)
last_by m text None e h =
    let none = unnamed_by (modifier_named (front_word text)) (behind_word text) h in
    either (Assigns m text) (bytes_eq (front_word text) (codes "define")) _ _
    (λ is. define (reading.definition (behind_word text)) (spells text None e) (same_word (front_word text) (codes "define") is)
    (spells (behind_word text) (reading.definition (behind_word text)) refl)) (λ unlike.
    either (Assigns m text) (bytes_eq (front_word text) (codes "undefine")) _ _
    (λ is. undefine (spells text None e) (same_word (front_word text) (codes "undefine") is)) (λ other.
    nothing (spells text None e) (unnamed (front_word text) none)
    (apart (front_word text) (codes "define") unlike) (apart (front_word text) (codes "undefine") other)))

-- what stands behind the last one
pub last : (m : Modifiers) (text : List ℕ) → modifier_at text ≡ None → Assigns m text (assigned_at m text)
unfolding modifier_at assigned_at
last m text h = last_by m text (reading.definition text) refl h
