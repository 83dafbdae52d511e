-- Lines that are taken.
use Rattle.std.proofs.Common.{arith, ◌≡◌, ◌≤◌, ℕ, Bool, true, false, List, length, Option, Some, None, subst}
use Rattle.std.specs.Prelude.{option_to_list}
use Rattle.mk_rule_lines.specs.Rules.{targets_by, suffixes_of, recipe_places}
use Rattle.mk_makefile.specs.Table.{IsTable, named_at}
use Rattle.mk_makefile.specs.Doubles.{IsKindsFault}
use Rattle.mk_rule_lines.specs.Pools.{IsPoolFault}
use Rattle.mk_makefile.specs.Taken.{IsTakingFault}
use Rattle.mk_rule_lines.specs.declared.fault.RuleFault.{RuleFault}
use Rattle.mk_rule_lines.specs.declared.fault.RuleFault.TheVariants as fault
use Rattle.mk_rule_lines.specs.declared.rule_line.RuleLine.{RuleLine}
use Rattle.mk_makefile.specs.declared.table.TargetTable.{TargetTable}

short : (o : Option ℕ) → length (option_to_list o) ≤ 1
short None = omega arith
short (Some n) = omega arith

-- a name in a table of lines has one recipe at most
pub one_recipe : (targets : RuleLine → List (List ℕ)) (lines : List RuleLine) (table : TargetTable) → IsTable targets lines table → (name : List ℕ) →
    length (recipe_places targets 0 lines name) ≤ 1
one_recipe targets lines table is name = subst (λ l. length l ≤ 1) (is.recipe name) (short (named_at table name).recipe)

-- targets and suffix rules together
pub one_recipe_each : (lines : List RuleLine) (table : TargetTable) → IsTable (targets_by false (suffixes_of lines)) lines table →
    ((name : List ℕ) → length (recipe_places (targets_by true (suffixes_of lines)) 0 lines name) ≤ 1) →
    (suffix_rules : Bool) (name : List ℕ) → length (recipe_places (targets_by suffix_rules (suffixes_of lines)) 0 lines name) ≤ 1
one_recipe_each lines table is rules false name = one_recipe (targets_by false (suffixes_of lines)) lines table is name
one_recipe_each lines table is rules true name = rules name

-- what holds of these suffixes and lines holds of those that they are
pub of_same : (P : List (List ℕ) → List RuleLine → Type 0) (suffixes : List (List ℕ)) (ls lines : List RuleLine) → suffixes ≡ suffixes_of lines → ls ≡ lines →
    P suffixes ls → P (suffixes_of lines) lines
of_same P suffixes ls lines same read is = subst (P (suffixes_of lines)) read (subst (λ ss. P ss ls) same is)

-- a name of both kinds is a fault of the lines
pub kinds_fault : (lines : List RuleLine) (f : RuleFault) → IsKindsFault lines f → IsTakingFault lines f
kinds_fault lines fault.OutOfMemory meets = tt
kinds_fault lines (fault.BothKinds name number) meets = meets
kinds_fault lines _ meets = absurd meets

-- so is a line of `.POOL` that is refused
pub pool_fault : (lines : List RuleLine) (f : RuleFault) → IsPoolFault lines f → IsTakingFault lines f
pool_fault lines fault.OutOfMemory meets = tt
pool_fault lines (fault.Pool told) meets = meets
pool_fault lines _ meets = absurd meets
