-- What a line says of variables, as a relation (GNU make manual, "Setting Variables", "Defining Multi-Line Variables", "Undefining Variables", "The
-- `override` Directive", "Communicating Variables to a Sub-make", "Suppressing Inheritance"; GNU make 4.3).
use Rattle.std.specs.Prelude.{◌≡◌, ℕ, Bool, true, false, List, Option, Some, None, codes}
use Rattle.byte_strings.specs.Blanks.{is_nonempty, trimmed_start, trimmed_end}
use Rattle.mk_conditionals.specs.Cut.{front_word, behind_word}
use Rattle.mk_assignments.specs.Reading.{Defined}
use Rattle.mk_assignments.specs.Definition.{Spells}
use Rattle.mk_assignments.specs.declared.sign.Sign.{Sign}
use Rattle.mk_assignments.specs.declared.sign.Sign.TheVariants.{Recursive}
use Rattle.mk_assignments.specs.declared.statement.Modifier.{Modifier}
use Rattle.mk_assignments.specs.declared.statement.Modifier.TheVariants.{Export, Override, Private}
use Rattle.mk_assignments.specs.declared.statement.Modifiers.{Modifiers}

-- the line that begins a `define`
pub record Opened : Type 0 where
  pub name : List ℕ
  pub sign : Sign
  pub has_text_behind : Bool

pub data Said : Type 0 where
  defines : Modifiers → Defined → Said
  begins : Modifiers → Opened → Said
  undefines : Modifiers → (name : List ℕ) → Said
  exports : (names : List ℕ) → Said
  unexports : (names : List ℕ) → Said

abbrev pub modifier_text : Modifier → List ℕ
modifier_text Export = codes "export"
modifier_text Override = codes "override"
modifier_text Private = codes "private"

abbrev pub no_modifiers : Modifiers
no_modifiers = record { is_exported = false; is_overriding = false; is_private = false }

abbrev pub and_modifier : Modifier → Modifiers → Modifiers
and_modifier Export m = record { is_exported = true; is_overriding = m.is_overriding; is_private = m.is_private }
and_modifier Override m = record { is_exported = m.is_exported; is_overriding = true; is_private = m.is_private }
and_modifier Private m = record { is_exported = m.is_exported; is_overriding = m.is_overriding; is_private = true }

-- what stands behind `define` is a name, with a sign or without one; text behind the sign is passed over
abbrev pub opened : (rest : List ℕ) → Option Defined → Opened
opened rest None = record { name = trimmed_end rest; sign = Recursive; has_text_behind = false }
opened rest (Some d) = record { name = d.name; sign = d.sign; has_text_behind = is_nonempty d.value }

-- a definition, `define` or `undefine`, behind any modifiers. A word is none where it is the name of a definition
pub data Assigns : (modifiers : Modifiers) (text : List ℕ) → Option Said → Type 0 where
  definition : {modifiers : Modifiers} {text : List ℕ} (d : Defined) → Spells text (Some d) → Assigns modifiers text (Some (defines modifiers d))
  define : {modifiers : Modifiers} {text : List ℕ} (d : Option Defined) → Spells text None → front_word text ≡ codes "define" → Spells (behind_word text) d →
      Assigns modifiers text (Some (begins modifiers (opened (behind_word text) d)))
  undefine : {modifiers : Modifiers} {text : List ℕ} → Spells text None → front_word text ≡ codes "undefine" →
      Assigns modifiers text (Some (undefines modifiers (trimmed_end (behind_word text))))
  modified : {modifiers : Modifiers} {text : List ℕ} {told : Option Said} (word : Modifier) → Spells text None → front_word text ≡ modifier_text word →
      Assigns (and_modifier word modifiers) (behind_word text) told → Assigns modifiers text told
  nothing : {modifiers : Modifiers} {text : List ℕ} → Spells text None → ((word : Modifier) → front_word text ≡ modifier_text word → ⊥) →
      (front_word text ≡ codes "define" → ⊥) →
      (front_word text ≡ codes "undefine" → ⊥) → Assigns modifiers text None

-- `export` and `unexport` without a definition, with names or none
abbrev pub Lists : (text : List ℕ) → Option Said → Type 0
Lists text (Some (exports names)) = (front_word text ≡ codes "export") × (names ≡ behind_word text)
Lists text (Some (unexports names)) = (front_word text ≡ codes "unexport") × (names ≡ behind_word text)
Lists text (Some other) = ⊥
Lists text None = (front_word text ≡ codes "export" → ⊥) × (front_word text ≡ codes "unexport" → ⊥)

-- what a logical line says of variables, if it says anything; its comment is taken off
pub data Says (text : List ℕ) : Option Said → Type 0 where
  assigned : (said : Said) → Assigns no_modifiers (trimmed_start text) (Some said) → Says text (Some said)
  listed : (told : Option Said) → Assigns no_modifiers (trimmed_start text) None → Lists (trimmed_start text) told → Says text told
