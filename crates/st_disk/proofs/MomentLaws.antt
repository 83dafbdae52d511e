-- How what holds at every moment of one call, or run of calls, goes on to a longer run.
use Rattle.std.specs.Prelude.{◌≡◌, ℕ, refl}
use Rattle.std.proofs.Common.{inl, inr, sym, ◌∙◌, subst, arith}
use Rattle.std.proofs.lemmas.Bool.{cases_lt}
use Rattle.std.proofs.Props.{props}
use Rattle.st_disk.specs.Crash.{Sides}
use Rattle.st_disk.specs.Moments.{Moments, now, Passes, MayPass, Throughout}

module _ {P : Sides → Type 0} where
  -- before the first call
  pub started : (moments : Moments) → P (now moments) → Throughout moments moments P
  started moments here = record {
    no_fewer = omega arith;
    kept = λ k le. refl;
    each = λ k from to. let e : k ≡ moments.newest = omega arith in subst (λ (n : ℕ). P (moments.at n)) (sym e) here;
  }

  -- one run of calls after another
  pub then_goes : {old mid new : Moments} → Throughout old mid P → Throughout mid new P → Throughout old new P
  then_goes {old} {mid} {new} first second = record {
    no_fewer = omega (arith, first.no_fewer, second.no_fewer);
    kept = λ k le. second.kept k (omega (arith, first.no_fewer)) ∙ first.kept k le;
    each = λ k from to. elim (cases_lt k mid.newest) [
      | inl earlier ↦ subst P (sym (second.kept k (omega arith))) (first.each k from (omega arith))
      | inr later ↦ second.each k later to
    ];
  }

  -- a call that leaves one moment more
  pub passed : {sides : Sides} {old new : Moments} → Passes sides old new → P (now old) → P sides → Throughout old new P
  passed {sides} {old} {new} passes before after = record {
    no_fewer = omega (arith, passes.next);
    kept = passes.kept;
    each = λ k from to. elim (cases_lt k new.newest) [
      | inl earlier ↦
          let e : k ≡ old.newest = omega (arith, passes.next) in
          subst P (sym (passes.kept k (omega (arith, passes.next)))) (subst (λ (n : ℕ). P (old.at n)) (sym e) before)
      | inr latest ↦
          let e : k ≡ new.newest = omega arith in
          subst (λ (n : ℕ). P (new.at n)) (sym e) (subst P (sym passes.here) after)
    ];
  }

  -- one call more, whatever it answered
  pub goes_on : {sides : Sides} {old mid new : Moments} → Throughout old mid P → MayPass sides mid new → P sides → Throughout old new P
  goes_on {sides} {old} {mid} {new} throughout (inl same) here = subst (λ (m : Moments). Throughout old m P) (sym same) throughout
  goes_on {sides} {old} {mid} {new} throughout (inr passes) here =
      then_goes throughout (passed passes (throughout.each mid.newest throughout.no_fewer (omega arith)) here)

  pub at_start : {old new : Moments} → Throughout old new P → P (now old)
  at_start {old} {new} throughout =
      subst P (throughout.kept old.newest (omega arith)) (throughout.each old.newest (omega arith) throughout.no_fewer)

  pub at_end : {old new : Moments} → Throughout old new P → P (now new)
  at_end {old} {new} throughout = throughout.each new.newest throughout.no_fewer (omega arith)

-- what has P has Q
pub throughout_map : {P Q : Sides → Type 0} {old new : Moments} → Throughout old new P → ((sides : Sides) → P sides → Q sides) → Throughout old new Q
throughout_map {P} {Q} {old} {new} throughout implies = record {
  no_fewer = throughout.no_fewer;
  kept = throughout.kept;
  each = λ k from to. implies (new.at k) (throughout.each k from to);
}

-- where P has one proof at most, so has `Throughout`, which may then be shown from a fact that only says that something is
pub Throughout-prop : {old new : Moments} {P : Sides → Type 0} → ((sides : Sides) → IsProp (P sides)) → IsProp (Throughout old new P)
Throughout-prop prop = hlevel (prop, props)
