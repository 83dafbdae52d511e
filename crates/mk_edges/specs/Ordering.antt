-- What the refusal of an order says.
use Rattle.std.specs.Prelude.{◌≡◌, ℕ, List, map}
use Rattle.mk_graph.specs.Cycle.{IsCycle}
use Rattle.mk_names.specs.Names.{name_at}
use Rattle.mk_rule_lines.specs.declared.fault.RuleFault.{RuleFault}
use Rattle.mk_rule_lines.specs.declared.fault.RuleFault.TheVariants as fault

-- these names are a cycle of the rows, by number
pub record IsNamedCycle (required : List (List ℕ)) (names cycle : List (List ℕ)) : Type 0 where
  pub numbers : List ℕ
  pub is_cycle : IsCycle required numbers
  pub told : cycle ≡ map (name_at names) numbers

-- the fault of rows that make a cycle
abbrev pub IsCycleFault : (required : List (List ℕ)) (names : List (List ℕ)) → RuleFault → Type 0
IsCycleFault required names fault.OutOfMemory = Unit {0}
IsCycleFault required names (fault.Cycle cycle) = IsNamedCycle required names cycle.names
IsCycleFault required names _ = ⊥
