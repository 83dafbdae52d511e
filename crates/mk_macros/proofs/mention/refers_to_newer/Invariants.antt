use Rattle.std.proofs.Common.{length}
use Rattle.mk_profile.specs.Profile.{is_wide}
use Rattle.mk_macros.specs.Mention.{RefersToNewer}
use Rattle.mk_macros.proofs.mention.refers_to_newer.Given as goal

abbrev pub invariant-loop-piece : goal.invariant-loop-piece
invariant-loop-piece l =
    (RefersToNewer (is_wide l.profile) l.rest → RefersToNewer (is_wide l.profile) l.fn.text)
    × (RefersToNewer (is_wide l.profile) l.fn.text → RefersToNewer (is_wide l.profile) l.rest)

abbrev pub decreases-loop-piece : goal.decreases-loop-piece
decreases-loop-piece l = length l.rest
