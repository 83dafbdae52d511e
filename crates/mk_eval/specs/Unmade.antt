-- A file that can't be read and that a rule of the text would make (own: other makes make it, and read it then).
use Rattle.std.specs.Prelude.{ℕ, ◌+◌, Bool, true, false, List, take, drop, Option, Some, None, is_some, option_and_then, Result, Ok, Err, bytes_eq, if◌then◌else◌}
use Rattle.std.specs.List.{list_any}
use Rattle.byte_strings.specs.Blanks.{words}
use Rattle.mk_macros.specs.Words.{place_of, without_front, without_end}
use Rattle.mk_reader.specs.declared.fault.Cause.{Cause}
use Rattle.mk_reader.specs.declared.fault.Cause.TheVariants.{IncludeMissing, IncludeUnmade}
use Rattle.mk_reader.specs.declared.fault.Refusal.{Refusal}
use Rattle.mk_reader.specs.declared.item.Item.{Item}
use Rattle.mk_reader.specs.declared.item.Item.TheVariants as item
use Rattle.mk_reader.specs.declared.item.Statement.{Statement}
use Rattle.mk_reader.specs.declared.item.Statement.TheVariants as statement

-- the name is the word, or what stands before and after the word's `%` with something between
abbrev pub is_at : (percent : Option ℕ) (word name : List ℕ) → Bool
is_at None word name = bytes_eq word name
is_at (Some i) word name = is_some (option_and_then (without_end (drop (i + 1) word)) (without_front (take i word) name))

-- a target that is spelled so has this name (GNU make manual, "Pattern Rules")
abbrev pub is_spelled : (name word : List ℕ) → Bool
is_spelled name word = is_at (place_of 37 word) word name

-- the item is a rule of the name, by how its targets are spelled
abbrev pub is_rule_of : (name : List ℕ) → Item → Bool
is_rule_of name (item.Definition d) = false
is_rule_of name (item.Rule rule) = list_any (is_spelled name) (words rule.targets)
is_rule_of name (item.Special special) = false

abbrev pub says_rule_of : (name : List ℕ) → Statement → Bool
says_rule_of name (statement.Item one) = is_rule_of name one
says_rule_of name (statement.Definition line) = false
says_rule_of name (statement.Include include) = false
says_rule_of name (statement.Refused refused) = false

-- how a cause is told beside statements: of a missing file, in the wide profile, whether they have a rule of it
abbrev pub cause_beside : (wide : Bool) → List Statement → Cause → Cause
cause_beside false statements why = why
cause_beside true statements (IncludeMissing name) = if list_any (says_rule_of name) statements then IncludeUnmade name else IncludeMissing name
cause_beside true statements why = why

abbrev pub told_beside : (wide : Bool) → List Statement → Refusal → Refusal
told_beside wide statements refused = record refused { cause = cause_beside wide statements refused.cause }

-- what a text gives that has these statements: their items, or their fault, so told
abbrev pub outcome_beside : {A : Type 0} → (wide : Bool) → List Statement → Result A Refusal → Result A Refusal
outcome_beside wide statements (Ok items) = Ok items
outcome_beside wide statements (Err refused) = Err (told_beside wide statements refused)
