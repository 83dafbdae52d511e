-- What a line says of targets (GNU make manual, "Rule Syntax", "Multiple Targets in a Rule", "Double-Colon Rules", "Syntax of Static Pattern Rules",
-- "Defining and Redefining Pattern Rules", "Target-specific Variable Values" and "Pattern-specific Variable Values"; GNU make 4.3).
use Rattle.std.specs.Prelude.{ℕ, ◌==◌, if◌then◌else◌, Bool, true, false, List, [], ◌∷◌, ◌++◌, Option, Some, None, Result, Ok, Err, is_some}
use Rattle.std.specs.List.{list_all}
use Rattle.mk_words.specs.Words.{behind_spaces, before_spaces}
use Rattle.mk_assignments.specs.Line.{Said, defines, begins, undefines, exports, unexports}
use Rattle.mk_assignments.specs.Reading.{Defined}
use Rattle.mk_assignments.specs.Steps.{said}
use Rattle.mk_assignments.specs.declared.statement.Modifiers.{Modifiers}
use Rattle.mk_target_lines.specs.Cut.{cut, behind_mark, with_colons}
use Rattle.mk_target_lines.specs.Names.{Form, names_of}
use Rattle.mk_target_lines.specs.OneLine.{one_line}
use Rattle.mk_target_lines.specs.declared.fault.Fault.{Fault}
use Rattle.mk_target_lines.specs.declared.fault.Fault.TheVariants.{MissingTargetPattern, MultipleTargetPatterns, TargetPatternWithoutPercent, MalformedDefinition, MixedWithStatic, MixedWithNormal}
use Rattle.mk_target_lines.specs.declared.mark.Mark.TheVariants.{Byte}

-- a rule: its targets, whether its colon is a double one, whether its targets are made together, the target pattern of a static pattern rule, the text of
-- its prerequisites, and its recipe's first line, where the line has one
pub record Rule : Type 0 where
  pub targets : List (List ℕ)
  pub is_double : Bool
  pub is_grouped : Bool
  pub pattern : Option (List ℕ × List ℕ)
  pub prerequisites : List ℕ
  pub recipe : Option (List ℕ)

-- what a line comes to: nothing; a rule without targets, which counts for nothing but that its recipe is passed over; a definition for targets; a rule
pub data Came : Type 0 where
  nothing : Came
  without_targets : Came
  defines_for : (targets : List (List ℕ)) (modifiers : Modifiers) (defined : Defined) → Came
  has_rule : (it : Rule) → Came

-- a name's form: a `%` that no backslash quotes parts it
abbrev pub form_of : (name : List ℕ) → Form
form_of name = ((cut (Byte 37) name).0, behind_mark (cut (Byte 37) name).1)

abbrev pub is_pattern : (name : List ℕ) → Bool
is_pattern name = is_some (form_of name).1

-- what stands behind the colons: a second one is taken off
abbrev pub behind_colons : (behind : List ℕ) → Bool × List ℕ
behind_colons [] = (false, [])
behind_colons (b ∷ bs) = if b == 58 then (true, bs) else (false, b ∷ bs)

-- what a text defines for targets, if it is no rule's. There is no `define` and no `undefine` for them; where one has a definition behind it GNU make 4.3
-- takes that
abbrev pub Definition : Type 0
Definition = Result (Option (Modifiers × Defined)) Fault

abbrev pub definition_said : Option Said → Definition
definition_said None = Ok None
definition_said (Some (defines modifiers d)) = Ok (Some (modifiers, d))
definition_said (Some (begins modifiers opened)) = Err MalformedDefinition
definition_said (Some (undefines modifiers name)) = Err MalformedDefinition
definition_said (Some (exports names)) = Ok None
definition_said (Some (unexports names)) = Ok None

abbrev pub defined : (text : List ℕ) → Definition
defined text = definition_said (said text)

-- what stands behind a line's `;` is of the value too
abbrev pub value_with : (value : List ℕ) → (recipe : Option (List ℕ)) → List ℕ
value_with value None = value
value_with value (Some recipe) = value ++ 59 ∷ one_line recipe

abbrev pub with_recipe : Defined → (recipe : Option (List ℕ)) → Defined
with_recipe d recipe = record d { value = value_with d.value recipe }

-- the target pattern of a static pattern rule, where there is one, and the text of the prerequisites
abbrev pub Static : Type 0
Static = Option (List ℕ × List ℕ) × List ℕ

abbrev pub static_with : Form → (behind : Option (List ℕ)) → Result Static Fault
static_with (front, None) behind = Err TargetPatternWithoutPercent
static_with (front, Some end) None = Ok (Some (front, end), [])
static_with (front, Some end) (Some text) = Ok (Some (front, end), text)

abbrev pub static_named : List (List ℕ) → (behind : Option (List ℕ)) → Result Static Fault
static_named [] behind = Err MissingTargetPattern
static_named (name ∷ []) behind = static_with (form_of name) behind
static_named (name ∷ other ∷ more) behind = Err MultipleTargetPatterns

abbrev pub static_at : (text at_colon : List ℕ) → Result Static Fault
static_at text [] = Ok (None, text)
static_at text (b ∷ bs) = static_named (names_of (Some 58) text).0 (names_of (Some 58) text).1

-- a text with a colon that isn't quoted begins with a target pattern
abbrev pub static : (text : List ℕ) → Result Static Fault
static text = static_at text (cut (Byte 58) text).1

-- without the spaces around it
abbrev pub stripped : List ℕ → List ℕ
stripped text = before_spaces (behind_spaces text)

-- a rule whose first target is a pattern is an implicit one: it is no static one, and all its targets are patterns. Behind another first target a
-- pattern is a name
abbrev pub mixed : List (List ℕ) → (is_static : Bool) → Option Fault
mixed [] is_static = None
mixed (target ∷ more) is_static =
    if is_pattern target then (if is_static then Some MixedWithStatic else (if list_all is_pattern more then None else Some MixedWithNormal)) else None

abbrev pub unless_mixed : Option Fault → Rule → Result Rule Fault
unless_mixed None rule = Ok rule
unless_mixed (Some fault) rule = Err fault

-- the rule of these targets
abbrev pub ruled : (targets : List (List ℕ)) → (is_double is_grouped : Bool) → (recipe : Option (List ℕ)) → Result Static Fault → Result Rule Fault
ruled targets is_double is_grouped recipe (Err fault) = Err fault
ruled targets is_double is_grouped recipe (Ok found) =
    unless_mixed (mixed targets (is_some found.0))
    (record {
      targets = targets;
      is_double = is_double;
      is_grouped = is_grouped;
      pattern = found.0;
      prerequisites = with_colons (stripped found.1);
      recipe = recipe;
    })
