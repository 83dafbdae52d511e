use Rattle.std.proofs.Common.{◌≡◌, ◌++◌, drop}
use Rattle.std.specs.List.{flat_map}
use Rattle.dmk_dry.specs.AlwaysRun.{always_at}
use Rattle.dmk_dry.proofs.always_run.add_lines.Given as goal

abbrev pub invariant-loop-line : goal.invariant-loop-line
invariant-loop-line l =
    l.always.items ++ flat_map (always_at l.target l.place) (drop l.line-index l.lines)
    ≡ l.fn.always.items ++ flat_map (always_at l.target l.place) l.lines
