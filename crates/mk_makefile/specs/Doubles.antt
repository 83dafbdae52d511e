-- Lines with `::` (GNU make manual, "Double-Colon Rules"). The recipes of all of a name's are its recipe, one behind the other (own:
-- GNU make runs those alone whose prerequisites are newer).
use Rattle.std.specs.Prelude.{◌≡◌, ◌⊎◌, ℕ, Bool, true, false, List, filter, find, slice_get, Option, Contains}
use Rattle.std.specs.List.{Any}
use Rattle.std.specs.Option.{option_map_or}
use Rattle.mk_macros.specs.Spelled.{Lacks}
use Rattle.mk_lines.specs.Text.{begins_with}
use Rattle.mk_rule_lines.specs.Explicit.{lines_of, numbers_of}
use Rattle.mk_rule_lines.specs.Kinds.{IsRule}
use Rattle.mk_rule_lines.specs.Rules.{is_double_recipe}
use Rattle.mk_rule_lines.specs.declared.fault.RuleFault.{RuleFault}
use Rattle.mk_rule_lines.specs.declared.fault.RuleFault.TheVariants as fault
use Rattle.mk_rule_lines.specs.declared.rule_line.RuleLine.{RuleLine}

-- the lines with `::` that have a recipe for the name, in order
abbrev pub double_lines : List RuleLine → (name : List ℕ) → List RuleLine
double_lines lines name = filter is_double_recipe (lines_of lines name)

-- the line of this number is one with `::` and a recipe
abbrev pub is_double_recipe_at : List RuleLine → (k : ℕ) → Bool
is_double_recipe_at lines k = option_map_or is_double_recipe (slice_get lines k) false

-- the number of the first such line of the name
abbrev pub first_double : List RuleLine → (name : List ℕ) → Option ℕ
first_double lines name = find (is_double_recipe_at lines) (numbers_of lines name)

-- a target that would be that of an implicit rule: one with a `%`, or one that may be a suffix rule (own: GNU make has such rules with `::`)
abbrev pub IsImplicitTarget : (name : List ℕ) → Type 0
IsImplicitTarget name = Contains name 37 ⊎ ((begins_with 46 name ≡ true) × Lacks 47 name)

-- a rule with `::` that has such a target
abbrev pub IsImplicitDouble : RuleLine → Type 0
IsImplicitDouble l = (l.is_double ≡ true) × Any IsImplicitTarget l.targets

-- the name is a target of the rule, which is one with `::`, or one with `:`
abbrev pub IsDoubleOf : (name : List ℕ) → RuleLine → Type 0
IsDoubleOf name l = (l.is_double ≡ true) × Contains l.targets name

abbrev pub IsSingleOf : (name : List ℕ) → RuleLine → Type 0
IsSingleOf name l = IsRule l × (l.is_double ≡ false) × Contains l.targets name

-- no name is a target of both kinds of rules
abbrev pub AreApart : List RuleLine → Type 0
AreApart lines = (name : List ℕ) → Any (IsDoubleOf name) lines → Any (IsSingleOf name) lines → ⊥

-- the name is, and its rule with `::` has this number in its file
abbrev pub HasBothKinds : List RuleLine → (name : List ℕ) → (number : ℕ) → Type 0
HasBothKinds lines name number = Any (λ l. IsDoubleOf name l × (l.line ≡ number)) lines × Any (IsSingleOf name) lines

abbrev pub IsKindsFault : List RuleLine → RuleFault → Type 0
IsKindsFault lines fault.OutOfMemory = Unit {0}
IsKindsFault lines (fault.BothKinds name number) = HasBothKinds lines name number
IsKindsFault lines _ = ⊥
