use Rattle.std.proofs.Common.{◌≡◌, drop}
use Rattle.mk_settings.specs.Settled.{nothing_set}
use Rattle.mk_settings.proofs.SettledLemmas.{settings_behind}
use Rattle.mk_settings.proofs.settings.Settings.of_lines.Given as goal

abbrev pub invariant-loop-line : goal.invariant-loop-line
invariant-loop-line l = settings_behind l.settings (drop l.line-index l.lines) ≡ settings_behind nothing_set l.lines
