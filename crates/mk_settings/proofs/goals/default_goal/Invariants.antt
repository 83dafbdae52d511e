use Rattle.std.proofs.Common.{◌≡◌, drop, take}
use Rattle.mk_settings.specs.Goals.{first_goals}
use Rattle.mk_settings.proofs.goals.default_goal.Given as goal

abbrev pub invariant-loop-line : goal.invariant-loop-line
invariant-loop-line l = take 1 (first_goals l.suffixes (drop l.line-index l.lines)) ≡ take 1 (first_goals l.suffixes l.lines)
