use Rattle.std.proofs.Common.{◌≡◌, ◌∙◌, ◌+◌, ◌<◌, ◌≤◌, ap, get_or, length, max, subst, sym, arith}
use Rattle.bl_log.specs.Spans.{begin_of, end_of}
use Rattle.bl_log.proofs.SpanLemmas.{begin_at, end_at}
use Rattle.bl_log.proofs.LaneLemmas.{ArePlaced, IsFirstFree, IsGiven, placed_more}
use Rattle.bl_log.proofs.lane.lanes.Goals as goal

pub loop-number-preserved : goal.loop-number-preserved
loop-number-preserved c =
    let spans = c.args.spans.now in
    let n = c.loop-number.number in
    let span = c.index-spans-number.result in
    let lane = c.free_lane-lane.result in
    let free = c.loop-number.free_from.items in
    let begins : begin_of spans n ≡ span.begin = begin_at spans n span c.loop-number-test.true c.index-spans-number.is in
    let ends : end_of spans n ≡ span.end = end_at spans n span c.loop-number-test.true c.index-spans-number.is in
    let forward : begin_of spans n ≤ end_of spans n = let f : span.begin ≤ span.end = span.forward in omega arith in
    let first : IsFirstFree free (begin_of spans n) lane =
    subst (λ l. IsFirstFree l (begin_of spans n) lane) c.deref.ensures.value
    (record {
      room = c.free_lane-lane.ensures.within;
      taken = λ l h. subst (λ b. b < get_or c.deref.result.now l 0) (sym begins) (c.free_lane-lane.ensures.taken l h);
      is_free = λ h. subst (λ b. get_or c.deref.result.now lane 0 ≤ b) (sym begins) (c.free_lane-lane.ensures.free h);
    }) in
    let counted : length c.take_lane.new.free_from.items ≡ max (length free) (lane + 1) =
    sym c.take_lane.new.free_from.ok.0 ∙ c.in_ok-take_lane.ensures.count ∙ ap (λ k. max k (lane + 1)) c.loop-number.free_from.ok.0 in
    let given : IsGiven free c.take_lane.new.free_from.items lane (end_of spans n) =
    record { count = counted; here = c.in_ok-take_lane.ensures.taken ∙ sym ends; others = c.in_ok-take_lane.ensures.others } in
    subst (λ all. ArePlaced spans all c.take_lane.new.free_from.items (n + 1)) (sym c.in_ok-push.ensures.items)
    (placed_more spans c.loop-number.lanes.items free c.take_lane.new.free_from.items n lane forward c.loop-number.invariant first given)
