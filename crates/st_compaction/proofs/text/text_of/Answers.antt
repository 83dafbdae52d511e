use Rattle.std.proofs.Common.{◌∙◌, length, sym, ap, subst}
use Rattle.std.specs.List.{AllByRecursion}
use Rattle.st_records.specs.Limits.{IsGoodIn}
use Rattle.st_state.proofs.KeptLemmas.{good_kept_in}
use Rattle.st_file.specs.Batch.{body_in}
use Rattle.st_compaction.specs.Named.{records_of_names}
use Rattle.st_compaction.proofs.text.text_of.Goals as goal

pub with_batch-requires-clause-good : goal.with_batch-requires-clause-good
with_batch-requires-clause-good c =
    subst (AllByRecursion (IsGoodIn c.args.form)) (ap records_of_names (sym c.in_ok-named.ensures)) (good_kept_in c.args.form c.args.state.now c.requires.keepable)

pub with_batch-requires-clause-whole : goal.with_batch-requires-clause-whole
with_batch-requires-clause-whole c = c.requires.whole ∙ ap (λ named. length (body_in c.args.form (records_of_names named))) (sym c.in_ok-named.ensures)
