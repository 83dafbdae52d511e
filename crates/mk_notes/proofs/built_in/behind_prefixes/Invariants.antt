use Rattle.std.proofs.Common.{◌≡◌, length}
use Rattle.mk_notes.specs.BuiltIn.{behind_prefixes}
use Rattle.mk_notes.proofs.built_in.behind_prefixes.Given as goal

abbrev pub invariant-loop-byte : goal.invariant-loop-byte
invariant-loop-byte l = behind_prefixes l.fn.line ≡ behind_prefixes l.rest

abbrev pub decreases-loop-byte : goal.decreases-loop-byte
decreases-loop-byte l = length l.rest
