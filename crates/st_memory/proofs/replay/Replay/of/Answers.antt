use Rattle.std.proofs.Common.{length, take, drop, sym, ◌∙◌, ap}
use Rattle.st_memory.specs.Memory.{made}
use Rattle.st_memory.proofs.ReplayLemmas.{from_blank, none_left, next_fits, next_size, rest_fits, one_more}
use Rattle.st_memory.proofs.replay.Replay.of.Goals as goal

pub loop-call-init : goal.loop-call-init
loop-call-init c = record {
  fits = c.requires;
  same = from_blank c.args.side (made c.args.calls.now c.args.written.now) _ (λ i. record { bytes = c.new.ensures.items i; synced = c.new-2.ensures.items i; ranges = c.new-3.ensures.items i });
}

pub split_at-requires : goal.split_at-requires
split_at-requires c = rw c.size.ensures (next_fits _ _ _ c.loop-call-test.true _ c.loop-call.invariant.fits)

pub repeat-requires : goal.repeat-requires
repeat-requires c =
    ap length c.split_at.ensures.front
    ∙ ap (λ n. length (take n c.loop-call.rest.now)) c.size.ensures
    ∙ next_size _ _ _ c.loop-call-test.true _ c.loop-call.invariant.fits

pub loop-call-preserved : goal.loop-call-preserved
loop-call-preserved c = record {
  fits = rest_fits _ _ _ c.loop-call-test.true _ c.loop-call.invariant.fits ∙ sym (ap length (c.split_at.ensures.back ∙ ap (λ n. drop n c.loop-call.rest.now) c.size.ensures));
  same = one_more _ _ _ c.loop-call-test.true _ c.loop-call.invariant.fits _ _ _ _ _ _ c.size.ensures c.split_at.ensures.front c.split_at.ensures.back c.in_ok-repeat.ensures ∙ c.loop-call.invariant.same;
}

pub returns : goal.returns
returns c = sym (none_left _ _ _ _ _ c.loop-call-test.false) ∙ c.loop-call.invariant.same
