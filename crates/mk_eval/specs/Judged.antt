-- Statements that the wide profile refuses by name: GNU make gives them a meaning, and to pass over them would build something else.
use Rattle.std.specs.Prelude.{ℕ, Bool, true, false, not, ◌&&◌, ◌||◌, List, [], ◌∷◌, length, map, nat_lt, Option, Some, None, bytes_eq, codes, if◌then◌else◌}
use Rattle.byte_strings.specs.Blanks.{first_word, words}
use Rattle.mk_profile.specs.declared.profile.Profile.TheVariants.{Posix}
use Rattle.mk_short_names.specs.Short.{short_name}
use Rattle.mk_reader.specs.Special.{special_name, is_refused}
use Rattle.mk_reader.specs.declared.special.SpecialName.{SpecialName}
use Rattle.mk_lines.specs.Text.{is_empty, ends_with}
use Rattle.mk_reader.specs.Grammar.{refusal}
use Rattle.mk_reader.specs.declared.directive.Directive.TheVariants.{Vpath}
use Rattle.mk_reader.specs.declared.fault.Cause.TheVariants.{Unsupported}
use Rattle.mk_reader.specs.declared.fault.Feature.{Feature}
use Rattle.mk_reader.specs.declared.fault.Feature.TheVariants.{GroupedTargets, ShellFlags, SearchPath, RecipePrefix, Directive, SpecialName as SpecialRule}
use Rattle.mk_reader.specs.declared.item.Definition.{Definition}
use Rattle.mk_reader.specs.declared.item.Item.{Item}
use Rattle.mk_reader.specs.declared.item.Item.TheVariants as item
use Rattle.mk_reader.specs.declared.item.Rule.{Rule}
use Rattle.mk_reader.specs.declared.item.Statement.{Statement}
use Rattle.mk_reader.specs.declared.item.Statement.TheVariants as statement

-- this text of `VPATH` has files looked for elsewhere than where their names say; `.` says nothing
abbrev pub searches : (text : List ℕ) → Bool
searches text = not (is_empty text || bytes_eq text (codes "."))

-- with a text `.RECIPEPREFIX` has other lines be recipe lines
abbrev pub changes_recipes : (name text : List ℕ) → Bool
changes_recipes name text = bytes_eq name (codes ".RECIPEPREFIX") && not (is_empty text)

-- `.SHELLFLAGS` has its lines run otherwise, `VPATH` may have files looked for elsewhere, and `.RECIPEPREFIX` has lines read otherwise (GNU make
-- manual, "Choosing the Shell", "VPATH: Search Path for All Prerequisites", "Other Special Variables")
abbrev pub macro_refused : (name text : List ℕ) → Option Feature
macro_refused name text =
    if bytes_eq name (codes ".SHELLFLAGS") then Some ShellFlags
    else (if bytes_eq name (codes "VPATH") && searches text then Some SearchPath
    else (if changes_recipes name text then Some RecipePrefix else None))

abbrev pub definition_refused : Definition → Option Feature
definition_refused d = macro_refused d.name d.value

-- `vpath` with a word behind it is a directive, though a `:` stands in the line
abbrev pub opens_vpath : (targets : List ℕ) → Bool
opens_vpath targets = bytes_eq (first_word targets) (codes "vpath") && nat_lt (length (first_word targets)) (length targets)

-- of the special name that a word is, if any, that which the wide profile refuses
abbrev pub refused_name : Option SpecialName → Option SpecialName
refused_name None = None
refused_name (Some name) = if is_refused Posix name then Some name else None

abbrev pub or_other : Option SpecialName → Option Feature → Option Feature
or_other None other = other
or_other (Some name) other = Some (SpecialRule name)

-- the first such name among the targets, wherever it stands, and with a `./` in front (GNU make manual, "Special Built-in Target Names")
abbrev pub refused_among : (targets : List (List ℕ)) → Option Feature
refused_among [] = None
refused_among (word ∷ more) = or_other (refused_name (special_name Posix (short_name word))) (refused_among more)

-- `&:` groups the targets before it (GNU make manual, "Rules with Grouped Targets")
abbrev pub rule_refused : Rule → Option Feature
rule_refused rule =
    if ends_with 38 rule.targets then Some GroupedTargets
    else (if opens_vpath rule.targets then Some (Directive Vpath) else refused_among (words rule.targets))

-- what is refused of a line, with its number
abbrev pub at_line : ℕ → Option Feature → Option (ℕ × Feature)
at_line line None = None
at_line line (Some feature) = Some (line, feature)

abbrev pub item_refused : Item → Option (ℕ × Feature)
item_refused (item.Definition d) = at_line d.line (definition_refused d)
item_refused (item.Rule rule) = at_line rule.line (rule_refused rule)
item_refused (item.Special special) = at_line special.rule.line (refused_among (words special.rule.targets))

abbrev pub statement_refused : Statement → Option (ℕ × Feature)
statement_refused (statement.Item one) = item_refused one
statement_refused (statement.Definition line) = at_line line.definition.line (definition_refused line.definition)
statement_refused (statement.Include include) = None
statement_refused (statement.Refused refused) = None

-- a statement of this file, or its refusal
abbrev pub with_refusal : (file : List ℕ) → Statement → Option (ℕ × Feature) → Statement
with_refusal file said None = said
with_refusal file said (Some (line, feature)) = statement.Refused (refusal file line (Unsupported feature))

-- the strict profile takes each statement as it stands
abbrev pub judged : (wide : Bool) → (file : List ℕ) → Statement → Statement
judged false file said = said
judged true file said = with_refusal file said (statement_refused said)

abbrev pub all_judged : (wide : Bool) → (file : List ℕ) → List Statement → List Statement
all_judged wide file statements = map (judged wide file) statements
