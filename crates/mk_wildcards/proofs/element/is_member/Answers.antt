use Rattle.std.proofs.Common.{◌||◌, drop, sym, ap, ◌∙◌}
use Rattle.std.proofs.lemmas.List.{take_rest}
use Rattle.mk_wildcards.specs.Pattern.{is_member}
use Rattle.mk_wildcards.proofs.MemberLemmas.{differs, single_member, range_member}
use Rattle.mk_wildcards.proofs.element.is_member.Goals as goal

pub loop-low-preserved-in-Some-range_end : goal.loop-low-preserved-in-Some-range_end
loop-low-preserved-in-Some-range_end c =
    let low = c.in-Some.low.now in
    let behind = c.in-Some.behind.now in
    let b = c.args.byte in
    ap (λ bs. is_member bs b) (take_rest behind 2)
    ∙ ap (λ t. t || is_member (drop 2 behind) b) (sym (sym c.is_between.ensures ∙ c.if-is_between.false))
    ∙ sym (range_member low b c.in-Some-range_end.high behind (sym c.range_end.ensures ∙ c.in-Some-range_end.is))
    ∙ ap (λ bs. is_member bs b) (sym c.in-Some.ensures.cases.0)
    ∙ c.loop-low.invariant

pub loop-low-preserved : goal.loop-low-preserved
loop-low-preserved c =
    let low = c.in-Some.low.now in
    let behind = c.in-Some.behind.now in
    let b = c.args.byte in
    ap (λ t. t || is_member behind b) (sym (differs low b c.if-low-byte.false))
    ∙ sym (single_member low b behind (sym c.range_end.ensures ∙ c.in-None.is))
    ∙ ap (λ bs. is_member bs b) (sym c.in-Some.ensures.cases.0)
    ∙ c.loop-low.invariant
