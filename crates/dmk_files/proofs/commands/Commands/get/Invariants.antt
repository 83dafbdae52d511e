use Rattle.std.proofs.Common.{◌≡◌, length}
use Rattle.dmk_files.specs.Commands.{known_output}
use Rattle.dmk_files.proofs.commands.Commands.get.Given as goal

abbrev pub invariant-loop-one : goal.invariant-loop-one
invariant-loop-one l = known_output l.rest l.file l.line l.text ≡ known_output l.self.run.items l.file l.line l.text

abbrev pub decreases-loop-one : goal.decreases-loop-one
decreases-loop-one l = length l.rest
