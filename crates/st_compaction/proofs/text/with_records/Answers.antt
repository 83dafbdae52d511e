use Rattle.std.proofs.Common.{◌∙◌, ◌++◌, ◌+◌, drop, ap, sym, subst, append_assoc}
use Rattle.std.specs.List.{AllByRecursion}
use Rattle.st_records.specs.Limits.{IsGoodIn}
use Rattle.st_file.specs.Batch.{body_in}
use Rattle.st_compaction.specs.Named.{records_of_names}
use Rattle.st_compaction.proofs.NamedLemmas.{rest_from}
use Rattle.st_compaction.proofs.text.with_records.Goals as goal

pub append_kept_in-requires : goal.append_kept_in-requires
append_kept_in-requires c =
    let rest = rest_from c.args.named.now c.loop-place.place (c.at.result.0.now, c.at.result.1.now) c.at.ensures in
    (subst (λ named. AllByRecursion (IsGoodIn c.args.form) (records_of_names named)) rest c.loop-place.invariant.good).0

pub loop-place-preserved : goal.loop-place-preserved
loop-place-preserved c =
    let named = c.args.named.now in
    let place = c.loop-place.place in
    let rest = rest_from named place (c.at.result.0.now, c.at.result.1.now) c.at.ensures in
    let left = body_in c.args.form (records_of_names (drop (place + 1) named)) in
    record {
      text = ap (λ t. t ++ left) c.in_ok-append_kept_in.ensures.ok
          ∙ append_assoc c.loop-place.text.items _ left
          ∙ ap (λ names. c.loop-place.text.items ++ body_in c.args.form (records_of_names names)) (sym rest)
          ∙ c.loop-place.invariant.text;
      good = (subst (λ names. AllByRecursion (IsGoodIn c.args.form) (records_of_names names)) rest c.loop-place.invariant.good).1;
    }
