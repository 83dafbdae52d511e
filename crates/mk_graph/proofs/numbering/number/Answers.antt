use Rattle.std.proofs.Common.{◌≡◌, ℕ, ◌+◌, ◌<◌, true, false, List, [], ◌∷◌, ◌++◌, length, take, map, slice_get, nat_lt, inl, inr, refl, sym, ap, ◌∙◌, subst, ⊎_elim, true≢false, arith, length-append}
use Rattle.std.proofs.lemmas.List.{take_all}
use Rattle.std.proofs.lemmas.List.Folds.{list_all-append}
use Rattle.std.proofs.lemmas.Result.{err_from_is_err_and}
use Rattle.std.specs.List.{list_all, IsDistinct}
use Rattle.std.specs.Str.{bytes_eq}
use Rattle.mk_names.specs.Names.{name_at, has_name, all_added}
use Rattle.mk_names.proofs.NameLemmas.{Begins, begins_all_added, below_from_begins, row_from_begins, length_from_begins, distinct_none, distinct_all_added, new_at}
use Rattle.mk_graph.proofs.NumberingLemmas.{Numbers, Numbers-start, Numbers-more, too_many_goals, too_many_found, reached, numbering_at_end, rows_at_end, rows_below_from_begins, asked_more, described_none, described_more, limit_fault_stands}
use Rattle.mk_graph.proofs.numbering.number.Goals as goal

pub returns-in_err-numbered-clause-fault : goal.returns-in_err-numbered-clause-fault
returns-in_err-numbered-clause-fault g c =
    let p = err_from_is_err_and c.from_residual.result c.from_residual.ensures.1 in
    let goals = c.args.goals.now in
    let told = limit_fault_stands (g.R.Dependencies.allows c.args.source.now) (g.R.Dependencies.refuses c.args.source.now) goals c.args.limit (all_added [] goals) c.in_err-numbered.field-0.0 c.in_err-numbered.ensures.fault
    (λ past of allowed whole numbering. too_many_goals of goals c.args.limit past whole numbering) in
    rw (p.1, p.2) told

pub loop-alloc-init : goal.loop-alloc-init
loop-alloc-init g c =
    let goals = c.args.goals.now in
    let names = c.in_ok-numbered.numbered.names in
    let told = c.in_ok-numbered.ensures in
    let P : List (List ℕ) → Type 0 = λ rows. (of : List ℕ → List (List ℕ)) → g.R.Dependencies.allows c.args.source.now of → Numbers of goals names rows in
    record {
      numbers = subst P (sym told.rows) (λ of allowed. Numbers-start of goals names told.names);
      below = ap (list_all (λ ns. list_all (λ n. nat_lt n (length names)) ns)) told.rows;
      looked = let z = ap length told.rows in omega arith;
      within = told.within;
      goals = told.goals;
      goal_nodes = told.goal_numbers;
      grows = λ of allowed. allowed;
      distinct = subst (IsDistinct bytes_eq) (sym told.names) (distinct_all_added [] goals distinct_none);
      asked = λ name asked. absurd (c.requires name asked);
      nodes = ap length told.nodes ∙ sym (ap length told.rows);
      described = described_none (g.R.Dependencies.describes c.args.source.now) names c.in_ok-numbered.numbered.nodes.items told.nodes;
      noted = c.notes-notes.ensures names;
      follows = g.met.R.Dependencies.stays c.args.source.now;
    }

pub prerequisites-requires : goal.prerequisites-requires
prerequisites-requires g c =
    let names = c.loop-alloc.numbered.names in
    let k = c.len-number.result in
    let next : k < length names = let t = c.loop-alloc-test.true in omega arith in
    let e : length c.loop-alloc.numbered.rows ≡ k = omega arith in
    record {
      number = next;
      distinct = c.loop-alloc.invariant.distinct;
      noted = c.loop-alloc.invariant.noted;
      unasked = λ asked.
          true≢false (sym (c.loop-alloc.invariant.asked (name_at names k) asked) ∙ ap (λ n. has_name (take n names) (name_at names k)) e
          ∙ new_at names k c.loop-alloc.invariant.distinct next);
    }

pub returns-in-Err-clause-fault : goal.returns-in-Err-clause-fault
returns-in-Err-clause-fault g c =
    let names = c.loop-alloc.numbered.names in
    let goals = c.args.goals.now in (
      name_at names c.len-number.result,
      c.in-Err.ensures.refused,
      λ of allowed whole numbering.
          reached of goals names c.loop-alloc.numbered.rows c.len-number.result
          (c.loop-alloc.invariant.numbers of (c.in-Err.ensures.grows of allowed)) (let k = c.loop-alloc-test.true in omega arith) whole numbering,
    )

pub returns-in_err-take_in-in-Ok-clause-fault : goal.returns-in_err-take_in-in-Ok-clause-fault
returns-in_err-take_in-in-Ok-clause-fault g c =
    let p = err_from_is_err_and c.from_residual-in_err-take_in-in-Ok.result c.from_residual-in_err-take_in-in-Ok.ensures.1 in
    let names = c.loop-alloc.numbered.names in
    let names' = c.prerequisites.new.names in
    let rows = c.loop-alloc.numbered.rows in
    let goals = c.args.goals.now in
    let found = map (name_at names') (g.R.Dependencies.row c.prerequisites.new.notes) in
    let next : length rows < length names = let t = c.loop-alloc-test.true in omega arith in
    let k : c.len-number.result ≡ length rows = omega arith in
    let told = limit_fault_stands (g.R.Dependencies.allows c.prerequisites.new.self) (g.R.Dependencies.refuses c.prerequisites.new.self) goals c.args.limit names' c.in_err-take_in-in-Ok.field-0.0 c.in_err-take_in-in-Ok.ensures.fault
    (λ past of allowed whole numbering.
    too_many_found of goals names rows found (c.loop-alloc.invariant.numbers of (c.in-Ok.ensures.grows of allowed)) next
    (c.in-Ok.ensures.list of allowed ∙ ap (λ n. of (name_at names n)) k) c.args.limit (subst (λ l. c.args.limit < length l) c.in-Ok.ensures.names past) whole numbering) in
    rw (p.1, p.2) told

-- names and rows once a row was found
module _ (goals names names' : List (List ℕ)) (rows found : List (List ℕ)) (row : List ℕ) (is : names' ≡ all_added names found)
    (new_below : list_all (λ n. nat_lt n (length names')) row ≡ true) (here : map (name_at names') row ≡ found)
    (below : list_all (λ ns. list_all (λ n. nat_lt n (length names)) ns) rows ≡ true) where
  begins : Begins names names'
  begins = subst (Begins names) (sym is) (begins_all_added names found)

  numbers_longer : (of : List ℕ → List (List ℕ)) → Numbers of goals names rows → length rows < length names → found ≡ of (name_at names (length rows))
      → Numbers of goals names' (rows ++ row ∷ [])
  numbers_longer of before next asked =
      subst (λ n. Numbers of goals n (rows ++ row ∷ [])) (sym is)
      (Numbers-more of goals names rows found before next asked row below (subst (λ n. map (name_at n) row ≡ found) is here))

  below_longer : list_all (λ ns. list_all (λ n. nat_lt n (length names')) ns) (rows ++ row ∷ []) ≡ true
  below_longer = list_all-append (λ ns. list_all (λ n. nat_lt n (length names')) ns) rows (row ∷ []) ∙ rw (rows_below_from_begins names names' rows begins below, new_below) refl

pub loop-alloc-preserved : goal.loop-alloc-preserved
loop-alloc-preserved g c =
    let before = c.loop-alloc.invariant in
    let names = c.loop-alloc.numbered.names in
    let names' = c.take_in.new.self.names in
    let rows = c.loop-alloc.numbered.rows in
    let goals = c.args.goals.now in
    let row = g.R.Dependencies.row c.prerequisites.new.notes in
    let found = map (name_at c.prerequisites.new.names) row in
    let told = c.in_ok-take_in-in-Ok.ensures in
    let same : names' ≡ c.prerequisites.new.names = told.names in
    let is : names' ≡ all_added names found = same ∙ c.in-Ok.ensures.names in
    let new_below : list_all (λ n. nat_lt n (length names')) row ≡ true = ap (λ l. list_all (λ n. nat_lt n (length l)) row) same ∙ c.in-Ok.ensures.numbers in
    let here : map (name_at names') row ≡ found = ap (λ l. map (name_at l) row) same in
    let longer = told.rows ∙ ap (λ r. rows ++ r ∷ []) c.row_in.ensures in
    let next : length rows < length names = let t = c.loop-alloc-test.true in omega arith in
    let k : c.len-number.result ≡ length rows = omega arith in
    let at : name_at names c.len-number.result ≡ name_at names (length rows) = ap (name_at names) k in
    let one_more : length c.take_in.new.self.rows ≡ length rows + 1 = ap length longer ∙ length-append rows (row ∷ []) in
    let grown : Begins names names' = begins goals names names' rows found row is new_below here before.below in
    let P : List (List ℕ) → Type 0 = λ rows. (of : List ℕ → List (List ℕ)) → g.R.Dependencies.allows c.prerequisites.new.self of → Numbers of goals names' rows in
    record {
      numbers = subst P (sym longer) (λ of allowed.
          numbers_longer goals names names' rows found row is new_below here before.below of (before.numbers of (c.in-Ok.ensures.grows of allowed)) next
          (c.in-Ok.ensures.list of allowed ∙ ap of at));
      below = ap (list_all (λ ns. list_all (λ n. nat_lt n (length names')) ns)) longer ∙ below_longer goals names names' rows found row is new_below here before.below;
      looked = let l = length_from_begins names names' grown in omega (arith, one_more, l, next);
      within = told.within;
      goals =
          ap (λ v. map (name_at names') v.items) told.goals
          ∙ row_from_begins names names' c.loop-alloc.numbered.goals.items grown before.goal_nodes ∙ before.goals;
      goal_nodes =
          ap (λ v. list_all (λ n. nat_lt n (length names')) v.items) told.goals
          ∙ below_from_begins names names' c.loop-alloc.numbered.goals.items grown before.goal_nodes;
      grows = λ of allowed. before.grows of (c.in-Ok.ensures.grows of allowed);
      distinct = subst (IsDistinct bytes_eq) (sym is) (distinct_all_added names found before.distinct);
      asked = λ other asked.
          subst (λ n. has_name (take n names') other ≡ true) (sym one_more)
          (asked_more names names' (length rows) other grown next (⊎_elim (λ earlier. inl (before.asked other earlier)) (λ e. inr (e ∙ at)) (c.in-Ok.ensures.asks other asked)));
      nodes =
          let more = ap length told.node ∙ length-append c.loop-alloc.numbered.nodes.items (c.in-Ok.node ∷ []) in
          let as_many = before.nodes in omega (arith, more, as_many, one_more);
      described = λ n node there.
          let as_many = before.nodes in
          described_more (g.R.Dependencies.describes c.loop-alloc.source) (g.R.Dependencies.describes c.prerequisites.new.self) names names' c.loop-alloc.numbered.nodes.items c.in-Ok.node
          c.in-Ok.ensures.kept grown (omega (arith, as_many, next)) before.described
          (subst (λ name. g.R.Dependencies.describes c.prerequisites.new.self name c.in-Ok.node) (at ∙ ap (name_at names) (sym as_many)) c.in-Ok.ensures.node)
          n node (ap (λ l. slice_get l n) (sym told.node) ∙ there);
      noted = subst (λ l. g.R.Dependencies.fits c.prerequisites.new.self l c.prerequisites.new.notes) (sym same) c.in-Ok.ensures.noted;
      follows = g.met.R.Dependencies.through c.args.source.now c.loop-alloc.source c.prerequisites.new.self true before.follows c.in-Ok.ensures.follows;
    }

pub returns-clause-names : goal.returns-clause-names
returns-clause-names g c = λ of allowed. numbering_at_end of c.args.goals.now c.loop-alloc.numbered.names c.loop-alloc.numbered.rows (c.loop-alloc.invariant.numbers of allowed) (omega arith)

pub returns-clause-rows : goal.returns-clause-rows
returns-clause-rows g c = λ of allowed. rows_at_end of c.args.goals.now c.loop-alloc.numbered.names c.loop-alloc.numbered.rows (c.loop-alloc.invariant.numbers of allowed) (omega arith)

pub returns-clause-closed : goal.returns-clause-closed
returns-clause-closed g c =
    let rows = c.loop-alloc.numbered.rows in
    let same : length c.loop-alloc.numbered.names ≡ length rows = let l = c.loop-alloc.invariant.looked in omega arith in
    let P : ℕ → Type 0 = λ k. list_all (λ ns. list_all (λ n. nat_lt n k) ns) rows ≡ true in
    subst P same c.loop-alloc.invariant.below

pub returns-clause-asked : goal.returns-clause-asked
returns-clause-asked g c = λ name asked.
    subst (λ l. has_name l name ≡ true) (take_all (length c.loop-alloc.numbered.rows) c.loop-alloc.numbered.names (omega arith)) (c.loop-alloc.invariant.asked name asked)

-- each refusal before the loop, and within it
pub returns-in_err-numbered-clause-follows : goal.returns-in_err-numbered-clause-follows
returns-in_err-numbered-clause-follows g c =
    let p = err_from_is_err_and c.from_residual.result c.from_residual.ensures.1 in
    rw p.1 (g.met.R.Dependencies.ended c.args.source.now c.args.source.now (g.met.R.Dependencies.stays c.args.source.now))

pub returns-in-Err-clause-follows : goal.returns-in-Err-clause-follows
returns-in-Err-clause-follows g c =
    g.met.R.Dependencies.through c.args.source.now c.loop-alloc.source c.prerequisites.new.self false c.loop-alloc.invariant.follows c.in-Err.ensures.follows

pub returns-in_err-take_in-in-Ok-clause-follows : goal.returns-in_err-take_in-in-Ok-clause-follows
returns-in_err-take_in-in-Ok-clause-follows g c =
    let p = err_from_is_err_and c.from_residual-in_err-take_in-in-Ok.result c.from_residual-in_err-take_in-in-Ok.ensures.1 in
    rw p.1 (g.met.R.Dependencies.ended c.args.source.now c.prerequisites.new.self
    (g.met.R.Dependencies.through c.args.source.now c.loop-alloc.source c.prerequisites.new.self true c.loop-alloc.invariant.follows c.in-Ok.ensures.follows))
