use Rattle.std.proofs.Common.{◌≡◌, ◌≢◌, ℕ, ◌+◌, ◌<◌, ◌||◌, Bool, true, false, List, length, get_or, set, take, refl, sym, ap, ◌∙◌, ⊎_elim, eq-eqb, ne_eqb, get_or-set_same, get_or-set_other, arith}
use Rattle.std.proofs.lemmas.Bool.{cases_eq}
use Rattle.mk_graph.specs.Edges.{has}
use Rattle.bd_links.proofs.ListLemmas.{has-at, has-more}
use Rattle.bd_places.proofs.tally.doom.Goals as goal

noted_more : (us : List ℕ) (ds old : List Bool) (i : ℕ) → i < length us → get_or us i 0 < length ds
    → ((u : ℕ) → get_or ds u false ≡ (get_or old u false || has (take i us) u))
    → (u : ℕ) → get_or (set ds (get_or us i 0) true) u false ≡ (get_or old u false || has (take (i + 1) us) u)
noted_more us ds old i h below noted u = ⊎_elim here elsewhere (cases_eq u (get_or us i 0))
  where
    always : (a b : Bool) → true ≡ (a || (b || true))
    always true b = refl
    always false true = refl
    always false false = refl

    here : u ≡ get_or us i 0 → get_or (set ds (get_or us i 0) true) u false ≡ (get_or old u false || has (take (i + 1) us) u)
    here e =
        ap (λ k. get_or (set ds (get_or us i 0) true) k false) e ∙ get_or-set_same ds (get_or us i 0) true false below
        ∙ always (get_or old u false) (has (take i us) u)
        ∙ ap (λ b. get_or old u false || (has (take i us) u || b)) (sym (eq-eqb u (get_or us i 0) e))
        ∙ ap (λ b. get_or old u false || b) (sym (has-more u us i h))

    or_false : (a b : Bool) → (a || b) ≡ (a || (b || false))
    or_false true b = refl
    or_false false true = refl
    or_false false false = refl

    elsewhere : u ≢ get_or us i 0 → get_or (set ds (get_or us i 0) true) u false ≡ (get_or old u false || has (take (i + 1) us) u)
    elsewhere ne =
        get_or-set_other ds (get_or us i 0) u true false ne ∙ noted u ∙ or_false (get_or old u false) (has (take i us) u)
        ∙ ap (λ b. get_or old u false || (has (take i us) u || b)) (sym (ne_eqb u (get_or us i 0) ne))
        ∙ ap (λ b. get_or old u false || b) (sym (has-more u us i h))

pub bounds-doomed-user : goal.bounds-doomed-user
bounds-doomed-user c = let below = c.requires (get_or c.args.users.now c.loop-user.user-index 0) (has-at c.args.users.now c.loop-user.user-index c.loop-user-test.true) in omega arith

pub loop-user-preserved : goal.loop-user-preserved
loop-user-preserved c =
    let below = c.requires (get_or c.args.users.now c.loop-user.user-index 0) (has-at c.args.users.now c.loop-user.user-index c.loop-user-test.true) in
    noted_more c.args.users.now c.loop-user.doomed c.args.doomed.now c.loop-user.user-index c.loop-user-test.true (omega arith) c.loop-user.invariant
