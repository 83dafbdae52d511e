use Rattle.std.proofs.Common.{◌≡◌, [], ◌∷◌, ◌++◌, ◌∙◌, sym, ap}
use Rattle.mk_target_lines.specs.Cut.{cut}
use Rattle.mk_target_lines.specs.Names.{end_mark}
use Rattle.mk_target_lines.proofs.NameLemmas.{stops, shorter, next}
use Rattle.mk_target_lines.proofs.names.names_of.Goals as goal

pub returns-then-is_stop : goal.returns-then-is_stop
returns-then-is_stop c =
    let at : c.loop-byte.start.now ≡ c.in-Some.byte.now ∷ c.in-Some.behind.now = c.in-Some.ensures.cases.0 in
    stops c.args.stop c.args.text.now c.loop-byte.start.now c.loop-byte.names c.in-Some.byte.now c.in-Some.behind.now c.loop-byte.invariant at
    (sym c.is_stop.ensures ∙ c.if-is_stop.true)

pub loop-byte-smaller : goal.loop-byte-smaller
loop-byte-smaller c =
    let at : c.loop-byte.start.now ≡ c.in-Some.byte.now ∷ c.in-Some.behind.now = c.in-Some.ensures.cases.0 in
    let found : (c.found.inside.front.items, c.found.inside.left.now) ≡ cut (end_mark c.args.stop) c.loop-byte.start.now =
    c.found.view_is ∙ c.in_ok-found.ensures ∙ ap (λ m. cut m c.loop-byte.start.now) c.end_mark.ensures in
    shorter c.args.stop c.args.text.now c.loop-byte.start.now c.loop-byte.names c.in-Some.byte.now c.in-Some.behind.now c.found.inside.front.items
    c.found.inside.left.now c.behind_spaces-start-in-Some.result.now c.loop-byte.invariant at (sym c.is_stop.ensures ∙ c.if-is_stop.false) found
    c.behind_spaces-start-in-Some.ensures

pub loop-byte-preserved : goal.loop-byte-preserved
loop-byte-preserved c =
    let at : c.loop-byte.start.now ≡ c.in-Some.byte.now ∷ c.in-Some.behind.now = c.in-Some.ensures.cases.0 in
    let found : (c.found.inside.front.items, c.found.inside.left.now) ≡ cut (end_mark c.args.stop) c.loop-byte.start.now =
    c.found.view_is ∙ c.in_ok-found.ensures ∙ ap (λ m. cut m c.loop-byte.start.now) c.end_mark.ensures in
    next c.args.stop c.args.text.now c.loop-byte.start.now c.loop-byte.names c.push.new.self c.in-Some.byte.now c.in-Some.behind.now c.found.inside.front.items
    c.found.inside.left.now c.behind_spaces-start-in-Some.result.now c.loop-byte.invariant at (sym c.is_stop.ensures ∙ c.if-is_stop.false) found
    (c.in_ok-push.ensures.ok ∙ ap (λ t. c.loop-byte.names ++ t ∷ []) c.as_slice.ensures.value)
    c.behind_spaces-start-in-Some.ensures
