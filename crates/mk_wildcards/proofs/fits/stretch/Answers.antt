use Rattle.std.proofs.Common.{◌≡◌, ◌∷◌, ◌&&◌, true, false, length, drop, sym, ap, subst, ◌∙◌, arith}
use Rattle.mk_wildcards.specs.Fits.{some_end, fits}
use Rattle.mk_wildcards.specs.Places.{takes, is_run}
use Rattle.mk_wildcards.proofs.FitLemmas.{single_step, single_later, run_later}
use Rattle.mk_wildcards.proofs.fits.stretch.Goals as goal

pub returns-then-is_run-clause-later : goal.returns-then-is_run-clause-later
returns-then-is_run-clause-later c = λ h.
    run_later c.in-Some.element.now c.in-Some.more.now c.loop-element.rest.now (sym c.is_run.ensures ∙ c.if-is_run.true)
    (subst (λ es. some_end (fits es) (drop 1 c.loop-element.rest.now) ≡ true) c.in-Some.ensures.cases.0 (c.loop-element.invariant.later h))

pub loop-element-preserved : goal.loop-element-preserved
loop-element-preserved c =
    let e = c.in-Some.element.now in
    let more = c.in-Some.more.now in
    let b = c.in-Some-split_first.byte.now in
    let behind = c.in-Some-split_first.behind.now in
    let at : c.loop-element.now.now ≡ e ∷ more = c.in-Some.ensures.cases.0 in
    let rest : c.loop-element.rest.now ≡ b ∷ behind = c.in-Some-split_first.ensures.cases.0 in
    let single : is_run e ≡ false = sym c.is_run.ensures ∙ c.if-is_run.false in
    let took : takes e b ≡ true = sym c.takes.ensures ∙ c.if-not-takes.false in
    record {
      value = ap (λ t. t && fits more behind) (sym took) ∙ sym (single_step e more b behind single) ∙ ap (λ es. fits es (b ∷ behind)) (sym at)
          ∙ ap (fits c.loop-element.now.now) (sym rest) ∙ c.loop-element.invariant.value;
      later = λ h.
          single_later e more behind single
          (subst (λ bs. some_end (fits (e ∷ more)) (drop 1 bs) ≡ true) rest
          (subst (λ es. some_end (fits es) (drop 1 c.loop-element.rest.now) ≡ true) at (c.loop-element.invariant.later h)));
      shorter = let long : length c.loop-element.now.now ≡ length (e ∷ more) = ap length at in omega (arith, long, c.loop-element.invariant.shorter);
    }
