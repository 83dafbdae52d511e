use Rattle.std.proofs.Common.{◌≡◌, ◌++◌, map}
use Rattle.mk_short_names.specs.Short.{short_name}
use Rattle.mk_gnu_items.proofs.names.short_of.Given as goal

abbrev pub invariant-loop-name : goal.invariant-loop-name
invariant-loop-name l = l.short ++ map short_name l.name-iterator ≡ map short_name l.names
