use Rattle.std.proofs.Common.{◌≡◌, ◌≤◌, ◌<◌, ◌*◌, ◌&&◌, ℕ, false, true, nat_le, length, sym, subst, ◌∷◌, ◌++◌, [], Option, IfSome}
use Rattle.near_names.specs.declared.near.Near.{Near}
use Rattle.near_names.proofs.NearLemmas.{IsSoFar, one_more_seen, passes_far, keeps_nearer, takes_nearer}
use Rattle.near_names.proofs.near.nearest.Goals.{in_default-via-in-Some-found+else-before-edits, in_default-via-in_default}
use Rattle.near_names.proofs.near.nearest.Goals as goal

pub loop-other-preserved-then-not-is_near : goal.loop-other-preserved-then-not-is_near
loop-other-preserved-then-not-is_near c =
    let inv = c.loop-other.invariant in
    let name = c.args.name.now in
    let other = c.in-Some.other.now in (
      inv.0 ++ other ∷ [],
      one_more_seen c.args.among.now inv.0 c.loop-other.other-iterator c.next.new.self other inv.1 c.in-Some.ensures.steps,
      passes_far name inv.0 c.loop-other.found other inv.2
          (subst (λ (n : ℕ). (nat_le n 2 && nat_le (n * 3) (length name)) ≡ false) c.in_ok-edits.ensures.value (sym c.if-not-is_near.ensures)),
    )

pub loop-other-preserved-then-before-edits : goal.loop-other-preserved-then-before-edits
loop-other-preserved-then-before-edits c =
    let inv = c.loop-other.invariant in
    let name = c.args.name.now in
    let other = c.in-Some.other.now in
    let before = c.in-Some-found.before in (
      inv.0 ++ other ∷ [],
      one_more_seen c.args.among.now inv.0 c.loop-other.other-iterator c.next.new.self other inv.1 c.in-Some.ensures.steps,
      subst (λ (f : Option Near). IsSoFar name (inv.0 ++ other ∷ []) f) (sym c.in-Some-found.is)
          (keeps_nearer name inv.0 before other (subst (λ (f : Option Near). IsSoFar name inv.0 f) c.in-Some-found.is inv.2)
          (subst (λ (n : ℕ). before.edits ≤ n) c.in_ok-edits.ensures.value c.if-before-edits.true)),
    )

pub loop-other-preserved : goal.loop-other-preserved
loop-other-preserved c =
    let inv = c.loop-other.invariant in
    let name = c.args.name.now in
    let other = c.in-Some.other.now in
    let near : Near = record { name = c.in-Some.other; edits = c.in_ok-edits.edits } in (
      inv.0 ++ other ∷ [],
      one_more_seen c.args.among.now inv.0 c.loop-other.other-iterator c.next.new.self other inv.1 c.in-Some.ensures.steps,
      takes_nearer name inv.0 c.loop-other.found near inv.2 c.in_ok-edits.ensures.value
          (subst (λ (n : ℕ). (nat_le n 2 && nat_le (n * 3) (length name)) ≡ true) c.in_ok-edits.ensures.value (sym c.if-not-is_near.ensures))
          (elim c.in_default.branch [
            | in_default-via-in-Some-found+else-before-edits w ↦
                subst (λ (f : Option Near). IfSome f (λ before. near.edits < before.edits)) (sym w.in-Some-found.is) w.if-before-edits.false
            | in_default-via-in_default w ↦ subst (λ (f : Option Near). IfSome f (λ before. near.edits < before.edits)) (sym w.in_default.is) tt
          ]),
    )
