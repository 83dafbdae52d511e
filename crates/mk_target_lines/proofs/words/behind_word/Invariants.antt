use Rattle.std.proofs.Common.{◌≡◌, ◌+◌, ◌≤◌, length}
use Rattle.mk_target_lines.specs.Words.{depth_of, behind_word}
use Rattle.mk_target_lines.proofs.words.behind_word.Given as goal

abbrev pub invariant-loop-byte : goal.invariant-loop-byte
invariant-loop-byte l =
    (depth_of l.place + length l.rest ≤ depth_of l.fn.start + length l.text) × (length l.rest ≤ length l.text)
    × (behind_word l.place l.rest ≡ behind_word l.fn.start l.text)

abbrev pub decreases-loop-byte : goal.decreases-loop-byte
decreases-loop-byte l = length l.rest
