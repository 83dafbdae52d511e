use Rattle.std.proofs.Common.{◌≡◌, ◌||◌, ℕ, List}
use Rattle.mk_names.specs.Names.{has_name}
use Rattle.mk_sources.proofs.distinct_names.set_of.Given as goal

abbrev pub invariant-loop-name : goal.invariant-loop-name
invariant-loop-name l = (name : List ℕ) → (has_name l.set name || has_name l.name-iterator name) ≡ has_name l.list name
