use Rattle.std.proofs.Common.{◌≡◌, ◌+◌, ◌≤◌, length}
use Rattle.mk_words.specs.Patterns.{with_front, pattern_behind, pattern_of}
use Rattle.mk_words.proofs.patterns.Pattern.of.Given as goal

abbrev pub invariant-loop-byte : goal.invariant-loop-byte
invariant-loop-byte l = (with_front l.front.items (pattern_behind l.held l.rest) ≡ pattern_of l.text) × (l.held + length l.rest ≤ length l.text)

abbrev pub decreases-loop-byte : goal.decreases-loop-byte
decreases-loop-byte l = length l.rest
