use Rattle.std.proofs.Common.{◌≡◌}
use Rattle.mk_gnu_items.specs.Names.{oddity_in}
use Rattle.mk_gnu_items.proofs.names.oddity_in.Given as goal

abbrev pub invariant-loop-name : goal.invariant-loop-name
invariant-loop-name l = oddity_in l.name-iterator ≡ oddity_in l.fn.names
