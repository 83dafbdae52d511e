use Rattle.std.proofs.Common.{◌≡◌, ◌++◌, length, map}
use Rattle.mk_eval.specs.Output.{blank_for_newline, output_text}
use Rattle.mk_eval.proofs.output.output_text.Given as goal

abbrev pub invariant-loop-byte : goal.invariant-loop-byte
invariant-loop-byte l = l.text.items ++ map blank_for_newline l.rest ≡ output_text l.output

abbrev pub decreases-loop-byte : goal.decreases-loop-byte
decreases-loop-byte l = length l.rest
