-- What is read of a line, word by word, and what the code has of it.
use Rattle.std.specs.Prelude.{ℕ, zero, suc, List, length, Option, Some, None, codes, bytes_eq, if◌then◌else◌}
use Rattle.byte_strings.specs.Blanks.{trimmed_start, trimmed_end}
use Rattle.mk_conditionals.specs.Cut.{front_word, behind_word}
use Rattle.mk_assignments.specs.Reading.{Defined, definition}
use Rattle.mk_assignments.specs.Line.{no_modifiers, and_modifier, Opened, opened, Said, defines, begins, undefines, exports, unexports}
use Rattle.mk_assignments.specs.declared.definition.Definition.{Definition}
use Rattle.mk_assignments.specs.declared.statement.DefineLine.{DefineLine}
use Rattle.mk_assignments.specs.declared.statement.Modifier.{Modifier}
use Rattle.mk_assignments.specs.declared.statement.Modifier.TheVariants.{Export, Override, Private}
use Rattle.mk_assignments.specs.declared.statement.Modifiers.{Modifiers}
use Rattle.mk_assignments.specs.declared.statement.Statement.{Statement}
use Rattle.mk_assignments.specs.declared.statement.Statement.TheVariants.{Defines, Begins, Undefines, Exports, Unexports}

abbrev pub modifier_named : (word : List ℕ) → Option Modifier
modifier_named word =
    if bytes_eq word (codes "export") then Some Export
    else (if bytes_eq word (codes "override") then Some Override
    else (if bytes_eq word (codes "private") then Some Private else None))

abbrev pub with_rest : Option Modifier → (rest : List ℕ) → Option (Modifier × List ℕ)
with_rest None rest = None
with_rest (Some word) rest = Some (word, rest)

abbrev pub modifier_unless : Option Defined → (text : List ℕ) → Option (Modifier × List ℕ)
modifier_unless (Some d) text = None
modifier_unless None text = with_rest (modifier_named (front_word text)) (behind_word text)

-- the modifier that a text begins with, and what stands behind it
unfoldable pub modifier_at : (text : List ℕ) → Option (Modifier × List ℕ)
modifier_at text = modifier_unless (definition text) text

abbrev pub word_assigns : Modifiers → (word rest : List ℕ) → Option Said
word_assigns modifiers word rest =
    if bytes_eq word (codes "define") then Some (begins modifiers (opened rest (definition rest)))
    else (if bytes_eq word (codes "undefine") then Some (undefines modifiers (trimmed_end rest)) else None)

abbrev pub assigned_by : Modifiers → (text : List ℕ) → Option Defined → Option Said
assigned_by modifiers text (Some d) = Some (defines modifiers d)
assigned_by modifiers text None = word_assigns modifiers (front_word text) (behind_word text)

-- what stands behind the modifiers
unfoldable pub assigned_at : Modifiers → (text : List ℕ) → Option Said
assigned_at modifiers text = assigned_by modifiers text (definition text)

-- the variables that a line lists
unfoldable pub listed_at : (text : List ℕ) → Option Said
listed_at text =
    if bytes_eq (front_word text) (codes "export") then Some (exports (behind_word text))
    else (if bytes_eq (front_word text) (codes "unexport") then Some (unexports (behind_word text)) else None)

abbrev pub behind_modifier : Option (Modifier × List ℕ) → (further : Modifier → List ℕ → Option Said) → (here : Option Said) → Option Said
behind_modifier None further here = here
behind_modifier (Some found) further here = further found.0 found.1

-- what stands behind the modifiers, of which so many are looked at, at most
abbrev pub assigned_from : (most : ℕ) → Modifiers → (text : List ℕ) → Option Said
assigned_from zero modifiers text = assigned_at modifiers text
assigned_from (suc most) modifiers text =
    behind_modifier (modifier_at text) (λ word rest. assigned_from most (and_modifier word modifiers) rest) (assigned_at modifiers text)

abbrev pub or_listed : Option Said → (text : List ℕ) → Option Said
or_listed (Some said) text = Some said
or_listed None text = listed_at text

-- what a line says; it has no more modifiers than bytes
unfoldable pub said : (text : List ℕ) → Option Said
said text = or_listed (assigned_from (length (trimmed_start text)) no_modifiers (trimmed_start text)) (trimmed_start text)

abbrev pub defined_by : Definition → Defined
defined_by d = record { name = d.name.now; sign = d.sign; value = d.value.now }

abbrev pub opened_by : DefineLine → Opened
opened_by line = record { name = line.name.now; sign = line.sign; has_text_behind = line.has_text_behind }

abbrev pub said_by : Statement → Said
said_by (Defines modifiers d) = defines modifiers (defined_by d)
said_by (Begins modifiers line) = begins modifiers (opened_by line)
said_by (Undefines modifiers name) = undefines modifiers name.now
said_by (Exports names) = exports names.now
said_by (Unexports names) = unexports names.now
