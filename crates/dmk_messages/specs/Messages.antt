-- What is said on standard error.
use Rattle.std.specs.Prelude.{ℕ, Bool, true, false, List, [], ◌∷◌, ◌++◌, Option, None, Some, IfSome, codes, if◌then◌else◌}
use Rattle.std.specs.Io.KnownBytes.{Appends}
use Rattle.mk_plan.specs.declared.fault.RecipeFault.TheVariants as recipe_fault
use Rattle.mk_reader.specs.declared.fault.ReadFault.TheVariants as read_fault
use Rattle.mk_rule_lines.specs.declared.fault.RuleFault.TheVariants as rule_fault
use Rattle.st_file.specs.declared.fault.OpenFault.TheVariants as open_fault
use Rattle.dmk_messages.specs.declared.fault.Fault.{Fault}
use Rattle.dmk_messages.specs.declared.fault.Fault.TheVariants as fault
use Rattle.dmk_messages.specs.declared.messages.TheConstants.{SOFT_EDGES_NOTE}

-- memory was wanted, in whichever stage
abbrev pub is_of_memory : Fault → Bool
is_of_memory fault.OutOfMemory = true
is_of_memory (fault.Read read_fault.OutOfMemory) = true
is_of_memory (fault.State open_fault.OutOfMemory) = true
is_of_memory (fault.Rules rule_fault.OutOfMemory) = true
is_of_memory (fault.Recipe recipe_fault.OutOfMemory) = true
is_of_memory _ = false

-- the text of a fault that isn't for want of memory. That of a fault of a crate below stands there, and nothing is said of it
abbrev pub stage_text : Fault → Option (List ℕ)
stage_text fault.NoMakefile = Some (codes "no makefile")
stage_text fault.Write = Some (codes "cannot write")
stage_text _ = None

-- the text of a fault. Want of memory has one, whichever stage met it
abbrev pub fault_text : Fault → Option (List ℕ)
fault_text f = if is_of_memory f then Some (codes "out of memory") else stage_text f

-- a text as a line behind the program's name
abbrev pub line_of : (text : List ℕ) → List ℕ
line_of text = codes "dmk: " ++ text ++ 10 ∷ []

-- what is said of soft edges: a line where they are dropped, and else nothing
abbrev pub note_lines : (dropped : Bool) → List ℕ
note_lines true = line_of SOFT_EDGES_NOTE.now
note_lines false = []

-- known bytes grow by the fault's line, where its text is known
abbrev pub SaysFault : (err err_after : Option (List ℕ)) → Fault → Type 0
SaysFault err err_after f = IfSome (fault_text f) (λ text. Appends err err_after (line_of text))
