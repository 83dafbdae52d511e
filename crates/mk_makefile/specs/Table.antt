-- Which lines a name is a target of, as a table from names to lines.
use Rattle.std.specs.Prelude.{◌≡◌, ℕ, ℤ, Bool, true, false, not, ◌||◌, ◌==◌, List, [], ◌∷◌, ◌++◌, Option, Some, option_map, option_to_list, is_some, slice_get, length, ◌-◌, if◌then◌else◌}
use Rattle.std.specs.Option.{option_map_or}
use Rattle.mk_lines.specs.Text.{is_empty}
use Rattle.mk_makefile.specs.Named.{Named, named_in}
use Rattle.mk_rule_lines.specs.Rules.{has, places, times, recipe_places}
use Rattle.mk_rule_lines.specs.declared.fault.RuleFault.{RuleFault}
use Rattle.mk_rule_lines.specs.declared.fault.RuleFault.TheVariants as fault
use Rattle.mk_rule_lines.specs.declared.rule_line.RuleLine.{RuleLine}
use Rattle.mk_makefile.specs.declared.table.TargetTable.{TargetTable}

-- what the table has of a name
abbrev pub named_at : TargetTable → (name : List ℕ) → Named
named_at table name = named_in table.names table.named name

-- the number is the last one of the list
abbrev pub is_last : ℕ → List ℕ → Bool
is_last k numbers = option_map_or (λ n. n == k) (slice_get numbers (length numbers - 1)) false

-- the lines with one more, unless it is the last one
abbrev pub with_line : ℕ → List ℕ → List ℕ
with_line k lines = if is_last k lines then lines else lines ++ k ∷ []

-- what is there of a name that is a target of line k, which may have a recipe
abbrev pub with_target : (k : ℕ) (has_recipe : Bool) → Named → Named
with_target k has_recipe named = record {
  lines = with_line k named.lines;
  recipe = if has_recipe then Some k else named.recipe;
}

-- the number of the line that has a name's recipe, if one does
abbrev pub recipes_in : TargetTable → (name : List ℕ) → List ℕ
recipes_in table name = option_to_list (named_at table name).recipe

-- the table of these lines: of each name the lines that have it among their targets, of this choice, and the one without `::`
-- that has a recipe for it
pub record IsTable (targets : RuleLine → List (List ℕ)) (lines : List RuleLine) (table : TargetTable) : Type 0 where
  pub named : (name : List ℕ) → (named_at table name).lines ≡ places (λ l. has name (targets l)) 0 lines
  pub recipe : (name : List ℕ) → option_to_list (named_at table name).recipe ≡ recipe_places targets 0 lines name

-- the second recipe of a name is that of the line of this number (make(1S): a target has one recipe)
pub record HasTwoRecipes (targets : RuleLine → List (List ℕ)) (lines : List RuleLine) (name : List ℕ) (line : ℕ) : Type 0 where
  pub first : ℕ
  pub second : ℕ
  pub more : List ℕ
  pub whole : recipe_places targets 0 lines name ≡ first ∷ second ∷ more
  pub number : option_map (λ l. l.line) (slice_get lines second) ≡ Some line

-- the fault of the table of these lines
abbrev pub IsTableFault : (targets : RuleLine → List (List ℕ)) → List RuleLine → RuleFault → Type 0
IsTableFault targets lines fault.OutOfMemory = Unit {0}
IsTableFault targets lines (fault.TwoRecipes name line) = HasTwoRecipes targets lines name line
IsTableFault targets lines _ = ⊥

-- what a table has of a name once a line's targets are taken in
pub record AddsLine (k : ℕ) (has_recipe : Bool) (targets : List (List ℕ)) (name : List ℕ) (old new : Named) : Type 0 where
  pub lines_are : new.lines ≡ (if has name targets then with_line k old.lines else old.lines)
  pub recipe_is : option_to_list new.recipe ≡ option_to_list old.recipe ++ (if has_recipe then times k name targets else [])

-- with these targets of line k the name has a second recipe, which is that of line k
pub record IsSecond (k : ℕ) (has_recipe : Bool) (targets : List (List ℕ)) (name : List ℕ) (old : Named) : Type 0 where
  pub has : has_recipe ≡ true
  pub first : ℕ
  pub more : List ℕ
  pub whole : option_to_list old.recipe ++ times k name targets ≡ first ∷ k ∷ more

-- the fault of taking in the targets of line k, which has this number
abbrev pub IsAddFault : (k number : ℕ) (has_recipe : Bool) (targets : List (List ℕ)) → TargetTable → RuleFault → Type 0
IsAddFault k number has_recipe targets table fault.OutOfMemory = Unit {0}
IsAddFault k number has_recipe targets table (fault.TwoRecipes name line) = (line ≡ number) × IsSecond k has_recipe targets name (named_at table name)
IsAddFault k number has_recipe targets table _ = ⊥

-- some line has the name among its targets
abbrev pub is_named : Named → Bool
is_named named = not (is_empty named.lines)

-- a name that a source may have: some line makes it, or it has a file
abbrev pub is_there : TargetTable → (times : List ℕ → Option ℤ) → (name : List ℕ) → Bool
is_there table times name = is_named (named_at table name) || is_some (times name)
