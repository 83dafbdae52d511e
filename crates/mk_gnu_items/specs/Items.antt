-- What the items of a GNU makefile say, one behind the other, as items of the wide profile. Each list of items has one outcome, which is this function's.
use Rattle.std.specs.Prelude.{ℕ, List, [], ◌∷◌, ◌++◌, Option, Some, None, Ok, Err}
use Rattle.mk_gnu_eval.specs.Item.{Said, says_rule, says_recipe, says_definition, says_search, Item}
use Rattle.mk_reader.specs.Grammar.{first_line}
use Rattle.mk_reader.specs.declared.directive.Directive.TheVariants.{Vpath}
use Rattle.mk_reader.specs.declared.fault.Feature.TheVariants.{Directive, TargetMacro}
use Rattle.mk_reader.specs.declared.item.RecipeLine.{RecipeLine}
use Rattle.mk_reader.specs.declared.item.Rule as reader_rule
use Rattle.mk_target_lines.specs.Rule.{Rule}
use Rattle.mk_gnu_items.specs.Rules.{Outcome, joined, rule_items}
use Rattle.mk_gnu_items.specs.declared.fault.Cause.{Cause}
use Rattle.mk_gnu_items.specs.declared.fault.Cause.TheVariants.{Unsupported}
use Rattle.mk_gnu_items.specs.declared.fault.Refusal.{Refusal}

-- the line of a recipe that an item is
abbrev pub line_of : (line : ℕ) → Said → Option RecipeLine
line_of line (says_recipe text) = Some (record { text = text; line = line })
line_of line (says_rule it) = None
line_of line (says_definition targets modifiers d) = None
line_of line (says_search text) = None

abbrev pub onto_line : Option RecipeLine → List RecipeLine → List RecipeLine
onto_line None more = []
onto_line (Some one) more = one ∷ more

-- the lines of a recipe that stand directly behind a rule, up to the first item that is none
abbrev pub lines_of : List Item → List RecipeLine
lines_of [] = []
lines_of (item ∷ more) = onto_line (line_of item.line item.said) (lines_of more)

-- a rule's place, colons and recipe: first what stands behind its `;`, then the lines below it (GNU make manual, "Rule Syntax")
abbrev pub placed : (file : List ℕ) (line : ℕ) → Rule → (lines : List RecipeLine) → reader_rule.Rule
placed file line it lines = record {
  file = file;
  line = line;
  is_double = it.is_double;
  targets = [];
  prerequisites = [];
  recipe = first_line line it.recipe ++ lines;
}

abbrev pub refusal_at : (file : List ℕ) (line : ℕ) → Cause → Refusal
refusal_at file line why = record { file = file; line = line; cause = why }

-- what a line says, with the lines of recipes behind it. One of these says nothing of its own: it belongs to a rule
abbrev pub said_items : (file : List ℕ) (line : ℕ) → Said → (lines : List RecipeLine) → Outcome
said_items file line (says_rule it) lines = rule_items (placed file line it lines) it
said_items file line (says_recipe text) lines = Ok []
said_items file line (says_definition targets modifiers d) lines = Err (refusal_at file line (Unsupported TargetMacro))
said_items file line (says_search text) lines = Err (refusal_at file line (Unsupported (Directive Vpath)))

abbrev pub items_of : List Item → Outcome
items_of [] = Ok []
items_of (item ∷ more) = joined (said_items item.file item.line item.said (lines_of more)) (items_of more)
