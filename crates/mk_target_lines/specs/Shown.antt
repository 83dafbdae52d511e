-- The crate's own values as the definitions see them.
use Rattle.std.specs.Prelude.{ℕ, List, Option, Some, None, option_map, Vec}
use Rattle.std.specs.declared.alloc.Global.{Global}
use Rattle.mk_assignments.specs.Reading.{Defined}
use Rattle.mk_assignments.specs.Steps.{defined_by}
use Rattle.mk_assignments.specs.declared.definition.Definition as code_defined
use Rattle.mk_assignments.specs.declared.statement.Modifiers.{Modifiers}
use Rattle.mk_functions.specs.Outcome as values
use Rattle.mk_functions.specs.Shown.{fault_of}
use Rattle.mk_functions.specs.declared.fault.Stop as code_stop
use Rattle.mk_functions.specs.declared.fault.Stop.TheVariants as stop
use Rattle.mk_statements.specs.declared.course.Rule as open_rule
use Rattle.mk_statements.specs.declared.course.Rule.TheVariants.{Closed, Open, WithoutTargets}
use Rattle.mk_target_lines.specs.Comes.{Told, refused, has_no_value}
use Rattle.mk_target_lines.specs.Parts.{Line, Parted, ended, colon, Step, goes_on, stops}
use Rattle.mk_target_lines.specs.Rule as line
use Rattle.mk_target_lines.specs.declared.came.TargetDefinition as code_definition
use Rattle.mk_target_lines.specs.declared.came.Rule as code_rule
use Rattle.mk_target_lines.specs.declared.came.Came as code_came
use Rattle.mk_target_lines.specs.declared.came.Came.TheVariants as came
use Rattle.mk_target_lines.specs.declared.fault.Fault.{Fault}
use Rattle.mk_target_lines.specs.declared.fault.Refusal as code_refusal
use Rattle.mk_target_lines.specs.declared.fault.Refusal.TheVariants as refusal
use Rattle.mk_target_lines.specs.declared.parts.Line as code_line
use Rattle.mk_target_lines.specs.declared.parts.Step as code_step
use Rattle.mk_target_lines.specs.declared.parts.Step.TheVariants as step

abbrev pub text_of : Option (Vec ℕ Global) → Option (List ℕ)
text_of text = option_map (λ v. v.items) text

abbrev pub defined_of : code_definition.TargetDefinition → Defined
defined_of d = record { name = d.name.items; sign = d.sign; value = d.value.items }

abbrev pub pattern_of : Option (Vec ℕ Global × Vec ℕ Global) → Option (List ℕ × List ℕ)
pattern_of None = None
pattern_of (Some found) = Some (found.0.items, found.1.items)

abbrev pub rule_of : code_rule.Rule → line.Rule
rule_of r = record {
  targets = r.targets;
  is_double = r.is_double;
  is_grouped = r.is_grouped;
  pattern = pattern_of r.pattern;
  prerequisites = r.prerequisites.items;
  recipe = text_of r.recipe;
}

abbrev pub came_of : code_came.Came → line.Came
came_of came.Nothing = line.nothing
came_of came.WithoutTargets = line.without_targets
came_of (came.Defines d) = line.defines_for d.targets d.modifiers (defined_of d)
came_of (came.Rule r) = line.has_rule (rule_of r)

-- what lines behind a TAB belong to
abbrev pub opened_by : code_came.Came → open_rule.Rule
opened_by came.Nothing = Closed
opened_by came.WithoutTargets = WithoutTargets
opened_by (came.Defines d) = Closed
opened_by (came.Rule r) = Open

abbrev pub line_of : (names : List ℕ) → code_line.Line → Line
line_of names l = record { names = names; is_grouped = l.is_grouped; behind = l.behind.items; rest = l.rest.now; recipe = text_of l.recipe }

abbrev pub parted_of : (names : List ℕ) → Option code_line.Line → Parted
parted_of names None = ended names
parted_of names (Some l) = colon (line_of names l)

abbrev pub step_of : (names rest : List ℕ) → code_step.Step → Step
step_of names rest step.GoesOn = goes_on names rest
step_of names rest (step.Stops line) = stops (parted_of names line)

abbrev pub found_definition : Modifiers × code_defined.Definition → Modifiers × Defined
found_definition found = (found.0, defined_by found.1)

-- why a text has no value: what is told of it, or something that says nothing of it
abbrev pub NoValue : (Tells : values.Fault → Type 0) → code_stop.Stop → Type 0
NoValue Tells stop.OutOfMemory = Unit {0}
NoValue Tells stop.TakesTooLong = Unit {0}
NoValue Tells (stop.Fault fault) = Tells (fault_of fault)

-- memory was refused, or the text is faulty
abbrev pub IsFaulty : (Tells : Fault → Type 0) → code_refusal.Refusal → Type 0
IsFaulty Tells (refusal.Stop stop.OutOfMemory) = Unit {0}
IsFaulty Tells (refusal.Stop other) = ⊥
IsFaulty Tells (refusal.Fault fault) = Tells fault

-- why a line is refused: what is told of it, or something that says nothing of it
abbrev pub IsRefused : (Tells : Told → Type 0) → code_refusal.Refusal → Type 0
IsRefused Tells (refusal.Stop stop.OutOfMemory) = Unit {0}
IsRefused Tells (refusal.Stop stop.TakesTooLong) = Unit {0}
IsRefused Tells (refusal.Stop (stop.Fault fault)) = Tells (has_no_value (fault_of fault))
IsRefused Tells (refusal.Fault fault) = Tells (refused fault)
