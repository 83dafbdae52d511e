use Rattle.std.proofs.Common.{◌≡◌, ◌∙◌, ◌<◌, ◌^◌, ap, subst}
use Rattle.std.proofs.lemmas.List.{take_all}
use Rattle.std.specs.Prelude.{sum_by}
use Rattle.bl_log.specs.Spans.{time}
use Rattle.bl_log.proofs.times.busy.Goals as goal

pub returns : goal.returns
returns c =
    let spans = c.args.spans.now in
    let whole : c.loop-span.sum ≡ sum_by time spans = c.loop-span.invariant.sum ∙ ap (sum_by time) (take_all c.loop-span.span-index spans c.loop-span-test.false) in
    (subst (λ n. n < 2 ^ 64) whole c.loop-span.invariant.fits, whole)
