use Rattle.std.proofs.Common.{◌≡◌, ◌++◌, map, filter}
use Rattle.mk_wildcards.specs.Fits.{fits_name}
use Rattle.mk_wildcards.specs.Found.{joined}
use Rattle.mk_wildcards.proofs.steps.push_fitting.Given as goal

abbrev pub invariant-loop-name : goal.invariant-loop-name
invariant-loop-name l =
    l.out ++ map (joined l.is_last l.way) (filter (fits_name l.pattern) l.name-iterator) ≡ l.initial.out ++ map (joined l.is_last l.way) (filter (fits_name l.pattern) l.names)
