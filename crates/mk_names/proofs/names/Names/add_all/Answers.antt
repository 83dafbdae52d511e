use Rattle.std.proofs.Common.{◌≡◌, ℕ, ◌<◌, true, List, [], ◌∷◌, ◌++◌, length, map, nat_lt, refl, sym, ap, ◌∙◌, subst, arith, append_assoc, lt-ltb}
use Rattle.std.proofs.lemmas.List.{map-append}
use Rattle.std.proofs.lemmas.List.Folds.{list_all-append}
use Rattle.std.specs.List.{list_all}
use Rattle.mk_names.specs.Names.{name_at, added, all_added}
use Rattle.mk_names.proofs.NameLemmas.{begins_added, begins_all_added, length_from_begins, below_from_begins, row_from_begins}
use Rattle.mk_names.proofs.names.Names.add_all.Goals as goal

pub returns-in_default-clause-ok : goal.returns-in_default-clause-ok
returns-in_default-clause-ok c =
    let step = c.in-Some.ensures.steps in
    let past = rw c.in_default.is at c.in_ok-number.ensures.ok in
    let names = added c.loop-name.self c.in-Some.name.now in
    let rest = c.next.new.self in
    let whole : all_added names rest ≡ all_added c.args.self.now c.args.mentioned.now
    = ap (all_added c.loop-name.self) (sym step) ∙ c.loop-name.invariant.names in
    let longer = length_from_begins names (all_added names rest) (begins_all_added names rest) in
    subst (λ l. c.args.limit < length l) whole (omega arith)

-- one more number at the end of the row
row_longer : (old new : List (List ℕ)) (row : List ℕ) (n : ℕ) (name : List ℕ) (rest whole : List (List ℕ)) → new ≡ added old name → list_all (λ m. nat_lt m (length old)) row ≡ true
    → map (name_at old) row ++ name ∷ rest ≡ whole → name_at new n ≡ name → map (name_at new) (row ++ n ∷ []) ++ rest ≡ whole
row_longer old new row n name rest whole is below so_far here =
    ap (λ l. l ++ rest) (map-append (name_at new) row (n ∷ [])
    ∙ ap (λ l. l ++ name_at new n ∷ []) (ap (λ l. map (name_at l) row) is ∙ row_from_begins old (added old name) row (begins_added old name) below))
    ∙ ap (λ x. map (name_at old) row ++ x ∷ [] ++ rest) here ∙ append_assoc (map (name_at old) row) (name ∷ []) rest ∙ so_far

below_longer : (old new : List (List ℕ)) (row : List ℕ) (n : ℕ) (name : List ℕ) → new ≡ added old name → list_all (λ m. nat_lt m (length old)) row ≡ true → n < length new
    → list_all (λ m. nat_lt m (length new)) (row ++ n ∷ []) ≡ true
below_longer old new row n name is below lt =
    let still : list_all (λ m. nat_lt m (length new)) row ≡ true = subst (λ l. list_all (λ m. nat_lt m (length l)) row ≡ true) (sym is) (below_from_begins old (added old name) row (begins_added old name) below) in
    list_all-append (λ m. nat_lt m (length new)) row (n ∷ []) ∙ rw (still, lt-ltb n (length new) lt) refl

pub loop-name-preserved : goal.loop-name-preserved
loop-name-preserved c =
    let step = c.in-Some.ensures.steps in
    let n = c.in-Some-2.number in
    let old = c.loop-name.self in
    let new = c.add.new.self in
    let name = c.in-Some.name.now in
    let done = rw c.in-Some-2.is at c.in_ok-number.ensures.ok in
    let within = rw c.in-Some-2.is at c.in_ok-number.ensures.within in
    let rest = c.next.new.self in
    let whole = c.args.mentioned.now in
    record {
      names = ap (λ l. all_added l rest) done.0 ∙ ap (all_added old) (sym step) ∙ c.loop-name.invariant.names;
      below = subst (λ l. list_all (λ m. nat_lt m (length new)) l ≡ true) (sym c.in_ok-push.ensures.items)
          (below_longer old new c.loop-name.row.items n name done.0 c.loop-name.invariant.below done.1);
      row = ap (λ l. map (name_at new) l ++ rest) c.in_ok-push.ensures.items
          ∙ row_longer old new c.loop-name.row.items n name rest whole done.0 c.loop-name.invariant.below
          (ap (λ l. map (name_at old) c.loop-name.row.items ++ l) (sym step) ∙ c.loop-name.invariant.row) done.2;
      within = λ h. within (c.loop-name.invariant.within h);
    }
