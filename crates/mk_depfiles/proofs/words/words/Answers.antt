use Rattle.std.proofs.Common.{◌≡◌, ◌∷◌, length, sym, ap, ◌∙◌, arith}
use Rattle.mk_depfiles.specs.Gathering.{read, held_count}
use Rattle.mk_depfiles.proofs.WordLemmas.{begun, taken, refused}
use Rattle.mk_depfiles.proofs.words.words.Goals as goal

pub loop-byte-init : goal.loop-byte-init
loop-byte-init c =
    let g = c.new-gathering in
    let none : held_count g.result.held ≡ 0 = ap held_count g.ensures.held in
    record { held = omega (arith, none); value = begun g.result c.args.line.now g.ensures.words g.ensures.word g.ensures.held }

pub returns-in-Some-2 : goal.returns-in-Some-2
returns-in-Some-2 c =
    sym (refused c.loop-byte.gathering c.take.new.self c.in-Some.byte.now c.in_ok-cause.field-0 c.in-Some-2.cause c.in-Some-2.is c.in_ok-cause.ensures.takes c.in-Some.behind.now)
    ∙ ap (read c.loop-byte.gathering) (sym c.in-Some.ensures.cases.0) ∙ c.loop-byte.invariant.value

pub loop-byte-preserved : goal.loop-byte-preserved
loop-byte-preserved c =
    let long : length c.loop-byte.rest.now ≡ length (c.in-Some.byte.now ∷ c.in-Some.behind.now) = ap length c.in-Some.ensures.cases.0 in
    let before = c.loop-byte.invariant.held in
    let more = c.in_ok-cause.ensures.held in
    record {
      held = omega (arith, long, before, more);
      value = taken c.loop-byte.gathering c.take.new.self c.in-Some.byte.now c.in_ok-cause.field-0 c.in-None.is c.in_ok-cause.ensures.takes c.in-Some.behind.now
          ∙ ap (read c.loop-byte.gathering) (sym c.in-Some.ensures.cases.0) ∙ c.loop-byte.invariant.value;
    }
