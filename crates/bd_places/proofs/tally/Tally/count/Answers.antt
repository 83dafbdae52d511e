use Rattle.std.proofs.Common.{◌≡◌, ℕ, ◌+◌, ◌&&◌, ◌||◌, Bool, true, false, List, length, slice_index, slice_index_or, refl, sym, ap, ◌∙◌, subst, arith}
use Rattle.std.proofs.lemmas.List.{with_items_is}
use Rattle.std.specs.Vec.{with_items}
use Rattle.mk_graph.specs.Edges.{row, has, times}
use Rattle.bd_places.specs.declared.tally.Tally.{Tally}
use Rattle.bd_places.specs.Settling.{is_lost}
use Rattle.bd_places.proofs.TallyLemmas.{counts_enough, dooms_nodes, IsTallied-count}
use Rattle.bd_places.proofs.tally.Tally.count.Goals as goal

-- what counting down says, of the rows and tables themselves
counted : (new old table users row_is : List ℕ) → users ≡ row_is → old ≡ table → ((u : ℕ) → slice_index new u + times u users ≡ slice_index old u)
    → (u : ℕ) → slice_index new u + times u row_is ≡ slice_index table u
counted new old table users row_is e d down u =
    sym (ap (λ l. slice_index new u + times u l) e) ∙ down u ∙ ap (λ l. slice_index l u) d

noted : (new old table : List Bool) (users row_is : List ℕ) (lost : Bool) → users ≡ row_is → old ≡ table → lost ≡ true
    → ((u : ℕ) → slice_index_or new u false ≡ (slice_index_or old u false || has users u))
    → (u : ℕ) → slice_index_or new u false ≡ (slice_index_or table u false || (lost && has row_is u))
noted new old table users row_is lost e d is_true down u =
    down u ∙ ap (λ l. slice_index_or l u false || has users u) d ∙ ap (λ l. slice_index_or table u false || has l u) e
    ∙ ap (λ b. slice_index_or table u false || (b && has row_is u)) (sym is_true)

kept : (table : List Bool) (row_is : List ℕ) (lost : Bool) → lost ≡ false
    → (u : ℕ) → slice_index_or table u false ≡ (slice_index_or table u false || (lost && has row_is u))
kept table row_is lost is_false u = or_false (slice_index_or table u false) ∙ ap (λ b. slice_index_or table u false || (b && has row_is u)) (sym is_false)
  where
    or_false : (b : Bool) → b ≡ (b || false)
    or_false true = refl
    or_false false = refl

pub count_down-requires : goal.count_down-requires
count_down-requires c = λ u.
    let old = c.requires.tallied in
    rw (c.row.ensures, c.number.ensures, c.deref_mut.ensures.value) (counts_enough c.args.self.now c.args.node old.0 old.1 c.requires.node old.2 old.3 u)

pub doom-requires : goal.doom-requires
doom-requires c = λ u there.
    let old = c.requires.tallied in
    let h = dooms_nodes c.args.self.now c.args.node old.0 old.1 c.requires.node old.2 u
    (subst (λ n. has (row c.args.self.now.hard_users n) u ≡ true) c.number-then-is_lost.ensures (subst (λ l. has l u ≡ true) c.row-then-is_lost.ensures there)) in
    rw c.deref_mut-then-is_lost.ensures.value h

pub returns-then-is_lost-clause-tallied : goal.returns-then-is_lost-clause-tallied
returns-then-is_lost-clause-tallied c = λ settled ends was fresh end.
    let counts_length : length c.count_down.new.missing ≡ length c.args.self.now.missing.items = c.count_down.auto.missing ∙ ap length c.deref_mut.ensures.value in
    let counts_are = with_items_is c.args.self.now.missing c.count_down.new.missing (grind arith) in
    let dooms_length : length c.doom.new.doomed ≡ length c.args.self.now.doomed.items = c.doom.auto.doomed ∙ ap length c.deref_mut-then-is_lost.ensures.value in
    let dooms_are = with_items_is c.args.self.now.doomed c.doom.new.doomed (grind arith) in
    let next : Tally = record c.args.self.now {
      missing = with_items c.args.self.now.missing c.count_down.new.missing;
      doomed = with_items c.args.self.now.doomed c.doom.new.doomed;
    } in
    IsTallied-count c.args.self.now c.args.node settled ends c.requires.node was next refl refl refl refl
    (ap length counts_are ∙ counts_length) (ap length dooms_are ∙ dooms_length)
    (λ u. ap (λ l. slice_index l u + times u (row c.args.self.now.users c.args.node)) counts_are ∙ counted _ _ _ _ _ (c.row.ensures ∙ ap (row c.args.self.now.users) c.number.ensures) c.deref_mut.ensures.value c.count_down.ensures u)
    (λ u. ap (λ l. slice_index_or l u false) dooms_are ∙ noted _ _ _ _ _ _ (c.row-then-is_lost.ensures ∙ ap (row c.args.self.now.hard_users) c.number-then-is_lost.ensures) c.deref_mut-then-is_lost.ensures.value
    (ap is_lost end ∙ sym c.is_lost.ensures ∙ c.if-is_lost.true) c.doom.ensures u)
    fresh

pub returns-else-is_lost-clause-tallied : goal.returns-else-is_lost-clause-tallied
returns-else-is_lost-clause-tallied c = λ settled ends was fresh end.
    let counts_length : length c.count_down.new.missing ≡ length c.args.self.now.missing.items = c.count_down.auto.missing ∙ ap length c.deref_mut.ensures.value in
    let counts_are = with_items_is c.args.self.now.missing c.count_down.new.missing (grind arith) in
    let next : Tally = record c.args.self.now { missing = with_items c.args.self.now.missing c.count_down.new.missing } in
    IsTallied-count c.args.self.now c.args.node settled ends c.requires.node was next refl refl refl refl
    (ap length counts_are ∙ counts_length) refl
    (λ u. ap (λ l. slice_index l u + times u (row c.args.self.now.users c.args.node)) counts_are ∙ counted _ _ _ _ _ (c.row.ensures ∙ ap (row c.args.self.now.users) c.number.ensures) c.deref_mut.ensures.value c.count_down.ensures u)
    (kept _ _ _ (ap is_lost end ∙ sym c.is_lost.ensures ∙ c.if-is_lost.false))
    fresh
