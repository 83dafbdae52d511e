use Rattle.std.proofs.Common.{◌≡◌, length}
use Rattle.mk_eval.specs.Static.{quotes_percent}
use Rattle.mk_gnu_items.proofs.names.quotes_percent.Given as goal

abbrev pub invariant-loop-byte : goal.invariant-loop-byte
invariant-loop-byte l = quotes_percent l.rest ≡ quotes_percent l.name

abbrev pub decreases-loop-byte : goal.decreases-loop-byte
decreases-loop-byte l = length l.rest
