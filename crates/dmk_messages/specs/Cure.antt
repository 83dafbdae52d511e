-- What helps where a makefile or a state is refused (own).
use Rattle.std.specs.Prelude.{Bool, true, false, not, Option, None, Some, is_some, if◌then◌else◌}
use Rattle.mk_macros.specs.declared.fault.MacroFault.{MacroFault}
use Rattle.mk_macros.specs.declared.fault.MacroFault.TheVariants as macro_fault
use Rattle.mk_plan.specs.declared.fault.RecipeFault.TheVariants as recipe_fault
use Rattle.mk_profile.specs.declared.profile.Profile.TheVariants.{Posix}
use Rattle.mk_reader.specs.Special.{is_refused}
use Rattle.mk_reader.specs.declared.fault.Cause.{Cause}
use Rattle.mk_reader.specs.declared.fault.Cause.TheVariants as cause
use Rattle.mk_reader.specs.declared.fault.Feature.{Feature}
use Rattle.mk_reader.specs.declared.fault.Feature.TheVariants as feature
use Rattle.mk_reader.specs.declared.fault.MacroCause.TheVariants as macro_cause
use Rattle.mk_reader.specs.declared.fault.ReadFault.TheVariants as read_fault
use Rattle.mk_rule_lines.specs.declared.fault.RuleFault.TheVariants as rule_fault
use Rattle.mk_rule_lines.specs.declared.fault.TextFault.{TextFault}
use Rattle.st_file.specs.declared.fault.OpenFault.TheVariants as open_fault
use Rattle.dmk_messages.specs.declared.cure.Cure.{Cure}
use Rattle.dmk_messages.specs.declared.cure.Cure.TheVariants.{Remove, WideHas, WideNests, WideTellsLine}
use Rattle.dmk_messages.specs.declared.fault.Fault.{Fault}
use Rattle.dmk_messages.specs.declared.fault.Fault.TheVariants as fault

-- what the strict profile refuses by name, the wide one has this of
abbrev pub wide_has : Feature → Bool
wide_has feature.Include = true
wide_has feature.OptionalDefinition = true
wide_has feature.DoubleColon = true
wide_has feature.ColonDefinition = true
wide_has (feature.SpecialName name) = not (is_refused Posix name)
wide_has _ = false

-- what helps where a line is refused
abbrev pub cause_cure : Cause → Option Cure
cause_cure (cause.Unsupported feature) = if wide_has feature then Some (WideHas feature) else None
cause_cure (cause.Macro macro_cause.NestedReference) = Some WideNests
cause_cure _ = None

-- what helps where a text has no expansion, by whether its line is told
abbrev pub unplaced_cure : (is_placed : Bool) → MacroFault → Option Cure
unplaced_cure true _ = None
unplaced_cure false macro_fault.OutOfMemory = None
unplaced_cure false macro_fault.NestedReference = Some WideNests
unplaced_cure false _ = Some WideTellsLine

abbrev pub text_cure : TextFault → Option Cure
text_cure text = unplaced_cure (is_some text.place) text.cause

-- what helps against a fault
abbrev pub cure_of : Fault → Option Cure
cure_of (fault.State (open_fault.NotState side)) = Some (Remove side)
cure_of (fault.Read (read_fault.Refused refused)) = cause_cure refused.cause
cure_of (fault.Rules (rule_fault.Macro text)) = text_cure text
cure_of (fault.Recipe (recipe_fault.Macro text)) = text_cure text
cure_of _ = None
