-- The nearest of the names so far.
use Rattle.std.proofs.Common.{◌≡◌, ◌≤◌, ◌<◌, ◌*◌, ℕ, true, false, ◌&&◌, nat_le, sym, subst, ap, ◌∙◌, List, [], ◌∷◌, ◌++◌, Option, None, Some, IfSome, length, append_assoc, arith}
use Rattle.std.proofs.lemmas.List.Elements.{All-push, All-weaker, Contains-append_left, Contains-push}
use Rattle.near_names.specs.Near.{edits, is_near, IsNearest}
use Rattle.near_names.specs.declared.near.Near.{Near}

-- of the names so far the nearest was found, with how many edits lead to it
abbrev pub IsSoFar : (name : List ℕ) → (seen : List (List ℕ)) → Option Near → Type 0
IsSoFar name seen None = IsNearest name seen None
IsSoFar name seen (Some near) = (near.edits ≡ edits name near.name.now) × IsNearest name seen (Some near.name.now)

-- the names that were seen, once the next one is
pub one_more_seen : (among seen left rest : List (List ℕ)) (other : List ℕ) → among ≡ seen ++ left → left ≡ other ∷ rest → among ≡ (seen ++ other ∷ []) ++ rest
one_more_seen among seen left rest other whole next =
    whole ∙ ap (λ (l : List (List ℕ)). seen ++ l) next ∙ sym (append_assoc seen (other ∷ []) rest)

-- fewer edits are near too
near_by_fewer : (a b l : ℕ) → (nat_le a 2 && nat_le (a * 3) l) ≡ true → (nat_le b 2 && nat_le (b * 3) l) ≡ false → a ≤ b
near_by_fewer a b l near far = grind arith

pub passes_far : (name : List ℕ) (seen : List (List ℕ)) (found : Option Near) (other : List ℕ) →
    IsSoFar name seen found → is_near name other ≡ false → IsSoFar name (seen ++ other ∷ []) found
passes_far name seen None other so far = All-push (λ o. is_near name o ≡ false) seen other so far
passes_far name seen (Some near) other so far =
    let found = near.name.now in (
      so.0,
      (
        Contains-append_left seen (other ∷ []) found so.1.0,
        so.1.1,
        All-push (λ o. edits name found ≤ edits name o) seen other so.1.2
            (near_by_fewer (edits name found) (edits name other) (length name) so.1.1 far),
      ),
    )

pub keeps_nearer : (name : List ℕ) (seen : List (List ℕ)) (near : Near) (other : List ℕ) →
    IsSoFar name seen (Some near) → near.edits ≤ edits name other → IsSoFar name (seen ++ other ∷ []) (Some near)
keeps_nearer name seen near other so nearer =
    let found = near.name.now in (
      so.0,
      (
        Contains-append_left seen (other ∷ []) found so.1.0,
        so.1.1,
        All-push (λ o. edits name found ≤ edits name o) seen other so.1.2 (subst (λ (n : ℕ). n ≤ edits name other) so.0 nearer),
      ),
    )

pub takes_nearer : (name : List ℕ) (seen : List (List ℕ)) (found : Option Near) (near : Near) →
    IsSoFar name seen found → near.edits ≡ edits name near.name.now → is_near name near.name.now ≡ true →
    IfSome found (λ before. near.edits < before.edits) → IsSoFar name (seen ++ near.name.now ∷ []) (Some near)
takes_nearer name seen None near so counted is nearer =
    let other = near.name.now in (
      counted,
      (
        Contains-push seen other,
        is,
        All-push (λ o. edits name other ≤ edits name o) seen other
            (All-weaker (λ o. is_near name o ≡ false) (λ o. edits name other ≤ edits name o)
            (λ o far. near_by_fewer (edits name other) (edits name o) (length name) is far) seen so) (omega arith),
      ),
    )
takes_nearer name seen (Some before) near so counted is nearer =
    let other = near.name.now in
    let closer : edits name other < edits name before.name.now =
    subst (λ (n : ℕ). n < edits name before.name.now) counted (subst (λ (n : ℕ). near.edits < n) so.0 nearer) in (
      counted,
      (
        Contains-push seen other,
        is,
        All-push (λ o. edits name other ≤ edits name o) seen other
            (All-weaker (λ o. edits name before.name.now ≤ edits name o) (λ o. edits name other ≤ edits name o)
            (λ o at_most. omega (arith, closer, at_most)) seen so.1.2) (omega arith),
      ),
    )
