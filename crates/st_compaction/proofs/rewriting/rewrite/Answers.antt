use Rattle.std.proofs.Common.{inl}
use Rattle.st_file.proofs.CreatedLemmas.{short_void}
use Rattle.st_compaction.proofs.ClearingLemmas.{side_so_far, side_goes_on, gives_way_or_open}
use Rattle.st_compaction.proofs.rewriting.rewrite.Goals as goal

pub publish-requires-clause-void : goal.publish-requires-clause-void
publish-requires-clause-void g c = λ honest. short_void _ (c.in_ok-retire.ensures.retired honest).bare

pub publish-requires-clause-on_disk : goal.publish-requires-clause-on_disk
publish-requires-clause-on_disk g c = λ honest. (c.in_ok-retire.ensures.retired honest).on_disk

pub returns-in_err-retire-clause-any_moment : goal.returns-in_err-retire-clause-any_moment
returns-in_err-retire-clause-any_moment g c = λ honest newest generation gives. side_so_far (c.retire.ensures.any_moment honest newest generation gives) (λ x old. inl old)

pub returns-in_err-publish-clause-any_moment : goal.returns-in_err-publish-clause-any_moment
returns-in_err-publish-clause-any_moment g c = λ honest newest generation gives.
    side_goes_on (c.retire.ensures.any_moment honest newest generation gives) (c.publish.ensures.any_moment honest) (λ x old. inl old) (gives_way_or_open newest generation c.args.text.now)

pub returns-clause-any_moment : goal.returns-clause-any_moment
returns-clause-any_moment g c = λ honest newest generation gives.
    side_goes_on (c.retire.ensures.any_moment honest newest generation gives) (c.publish.ensures.any_moment honest) (λ x old. inl old) (gives_way_or_open newest generation c.args.text.now)
