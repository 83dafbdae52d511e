use Rattle.std.proofs.Common.{◌+◌}
use Rattle.mk_profile.specs.Profile.{is_wide}
use Rattle.mk_macros.specs.Ranks.{ranks_at, meaning_of}
use Rattle.mk_macros.specs.Lookup.{progress_at}
use Rattle.mk_macros.proofs.ExpansionLemmas.{IsExpanding}
use Rattle.mk_macros.proofs.StateLemmas.{left_shown, left_cost, stack_of, unseen_cost, callers_cost}
use Rattle.mk_macros.proofs.definitions.Macros.expand_in.Given as goal

abbrev pub invariant-pieces : goal.invariant-pieces
invariant-pieces l =
    IsExpanding (is_wide l.profile) (meaning_of (ranks_at l.self.texts) l.line) l.fn.text (progress_at l.progress) (stack_of l.callers.items) l.made.items (left_shown l.left)

abbrev pub decreases-pieces : goal.decreases-pieces
decreases-pieces l =
    unseen_cost (progress_at l.progress) l.self.texts + callers_cost l.callers.items + left_cost l.left
