use Rattle.std.proofs.Common.{◌≡◌, ℕ, ◌+◌, ◌<◌, ◌≤◌, true, List, [], ◌∷◌, length, get_or, take, nat_le, slice_index, refl, sym, ◌∙◌, subst, arith}
use Rattle.std.proofs.lemmas.Bool.{and_parts, leb-true, le-leb}
use Rattle.std.proofs.lemmas.List.Folds.{list_all_more}
use Rattle.std.specs.List.{list_all}
use Rattle.mk_graph.proofs.cycles.place_of_least.Goals as goal
use Rattle.mk_graph.proofs.cycles.place_of_least.Goals.{then-number-numbers, else-number-numbers}

-- what is above a number is above one that isn't greater
below_all : (a b : ℕ) (xs : List ℕ) → a ≤ b → list_all (nat_le b) xs ≡ true → list_all (nat_le a) xs ≡ true
below_all a b [] le h = refl
below_all a b (x ∷ xs) le h =
    let p = and_parts (nat_le b x) (list_all (nat_le b) xs) h in
    let bx = leb-true b x p.0 in
    rw (le-leb a x (omega arith), below_all a b xs le p.1) refl

step : (xs : List ℕ) (i a b : ℕ) → i < length xs → a ≤ b → a ≤ get_or xs i 0 → list_all (nat_le b) (take i xs) ≡ true → list_all (nat_le a) (take (i + 1) xs) ≡ true
step xs i a b h le here before = list_all_more (nat_le a) xs i 0 h ∙ rw (below_all a b (take i xs) le before, le-leb a (get_or xs i 0) here) refl

pub loop-place-preserved : goal.loop-place-preserved
loop-place-preserved c =
    let xs = c.args.numbers.now in
    let P : ℕ → Type 0 = λ k. list_all (nat_le (slice_index xs k)) (take (c.loop-place.place + 1) xs) ≡ true in
    record {
      within = elim c.if-number-numbers.branch [ then-number-numbers w ↦ omega arith | else-number-numbers w ↦ omega arith ];
      smallest = elim c.if-number-numbers.branch [
        | then-number-numbers w ↦ subst P (sym w.least-is) (step xs c.loop-place.place (slice_index xs c.loop-place.place) (slice_index xs c.loop-place.least) c.loop-place-test.true (omega arith) (omega arith) c.loop-place.invariant.smallest)
        | else-number-numbers w ↦ subst P (sym w.least-is) (step xs c.loop-place.place (slice_index xs c.loop-place.least) (slice_index xs c.loop-place.least) c.loop-place-test.true (omega arith) (omega arith) c.loop-place.invariant.smallest)
      ];
    }
