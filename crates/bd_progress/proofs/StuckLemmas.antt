-- No position is stuck, and each run ends.
use Rattle.std.proofs.Common.{◌≡◌, ◌≢◌, ◌⊎◌, ℕ, ◌+◌, ◌*◌, ◌<◌, ◌≤◌, Bool, true, false, cond, nat_lt, List, [], ◌∷◌, ◌++◌, length, slice_get, Option, Some, None, refl, sym, ap, ◌∙◌, subst, inl, inr, ⊎_elim, arith, true≢false, ltb-true, lt-ltb, zero, suc}
use Rattle.std.proofs.lemmas.Bool.{cases_lt}
use Rattle.mk_graph.specs.Edges.{row, has, times}
use Rattle.mk_graph.proofs.RowLemmas.{list_all-has}
use Rattle.mk_graph.proofs.CycleLemmas.{closed_row}
use Rattle.st_records.specs.declared.version.Form.{Form}
use Rattle.st_records.specs.declared.record.Record.{Record}
use Rattle.st_records.specs.declared.record.Record.TheVariants as records
use Rattle.bd_links.specs.declared.stand.Stand.{Stand}
use Rattle.bd_links.specs.declared.stand.Stand.TheVariants.{Waiting, Ready, Running, Unflushed, Flushing, Settled}
use Rattle.bd_links.specs.SixLists.{SixLists, list_in, code, IsEachOnce}
use Rattle.bd_places.specs.declared.end.End.{End}
use Rattle.bd_places.specs.declared.end.End.TheVariants.{UpToDate}
use Rattle.bd_places.specs.Placed.{holds_any, IsUnderWay}
use Rattle.bd_places.specs.Settling.{Prerequisites, is_under_way, Settles}
use Rattle.bd_places.proofs.StandingLemmas.{none_from_has, has_from_positive, below_from_has, nowhere_else}
use Rattle.bd_ledger.specs.declared.sent.Sent.{Sent}
use Rattle.bd_ledger.specs.declared.sent.Sent.TheVariants as sent
use Rattle.bd_ledger.specs.Sheet.{Sheet, nodes_on, name_of, sent_by, last_ticket, is_kept, relisted, drained, submits, SettlesOn}
use Rattle.bd_lists.specs.declared.board.Advanced.{Advanced}
use Rattle.bd_lists.specs.declared.board.Advanced.TheVariants as advanced
use Rattle.bd_lists.specs.Admission.{Run}
use Rattle.bd_lists.specs.Board.{IsTaken, Advances, end_noted}
use Rattle.bd_progress.specs.Moves.{Position, first_position, claim, submit, drain, advance, settle, CanMove, Move, IsMove}
use Rattle.bd_progress.specs.NeverStuck.{AreOrdered, EachWaitsForOne, SomeIsUnderWay, TellsEnd, CanGoOn, HasMove, IsGoingOn, NeverStuckIn, EachRecipeEnds, IsOver, HaveAllSettled, EveryRunEndsIn, RecipesEnd, CanBeEnded, GivesUp}
use Rattle.bd_progress.proofs.KnotLemmas.{has-head, first_refused, cycle_from_knot}
use Rattle.bd_progress.proofs.WaitLemmas.{can_settle}
use Rattle.bd_progress.proofs.HoldLemmas.{Fits, StandsAs, Holds, holds_first, holds_on, holds_behind}
use Rattle.bd_progress.specs.Left.{left_on}
use Rattle.bd_progress.proofs.FallLemmas.{falls, few}

-- ---- some node is under way

-- either one is, or those four lists are empty
record NoneIs (l : SixLists) : Type 0 where
  ready : l.ready ≡ []
  running : l.running ≡ []
  unflushed : l.unflushed ≡ []
  flushing : l.flushing ≡ []

front : (l : SixLists) (stand : Stand) → is_under_way stand ≡ true → (n : ℕ) (ns : List ℕ) → list_in l stand ≡ n ∷ ns → (m : ℕ) × IsUnderWay l m
front l stand under n ns e = (n, (stand, under, ap (λ xs. has xs n) e ∙ has-head n ns))

empty_or : (xs : List ℕ) → (xs ≡ []) ⊎ ((n : ℕ) × (ns : List ℕ) × (xs ≡ n ∷ ns))
empty_or [] = inl refl
empty_or (n ∷ ns) = inr (n, ns, refl)

some_or_none : (l : SixLists) → ((m : ℕ) × IsUnderWay l m) ⊎ NoneIs l
some_or_none l = elim (empty_or l.ready) [
  | inr a ↦ inl (front l Ready refl a.0 a.1 a.2)
  | inl a ↦ elim (empty_or l.running) [
    | inr b ↦ inl (front l Running refl b.0 b.1 b.2)
    | inl b ↦ elim (empty_or l.unflushed) [
      | inr c ↦ inl (front l Unflushed refl c.0 c.1 c.2)
      | inl c ↦ elim (empty_or l.flushing) [
        | inr d ↦ inl (front l Flushing refl d.0 d.1 d.2)
        | inl d ↦ inr (record { ready = a; running = b; unflushed = c; flushing = d })
      ]
    ]
  ]
]

-- then what hasn't settled waits
waits_then : (nodes : ℕ) (l : SixLists) → IsEachOnce nodes l → NoneIs l → (n : ℕ) → n < nodes → has l.settled n ≡ false → has l.waiting n ≡ true
waits_then nodes l once none n lt unsettled =
    let is : times n l.waiting + times n l.ready + times n l.running + times n l.unflushed + times n l.flushing + times n l.settled ≡ 1
    = once n ∙ ap (λ b. cond {A = ℕ} b 1 0) (lt-ltb n nodes lt) in
    let a : times n l.ready ≡ 0 = ap (times n) none.ready in
    let b : times n l.running ≡ 0 = ap (times n) none.running in
    let c : times n l.unflushed ≡ 0 = ap (times n) none.unflushed in
    let d : times n l.flushing ≡ 0 = ap (times n) none.flushing in
    let e = none_from_has l.settled n unsettled in
    has_from_positive l.waiting n (omega arith)

module _ (g : Prerequisites) (p : Position) (holds : Holds g p) where
  lacks : (n : ℕ) → has p.board.standing.lists.waiting n ≡ true → (m : ℕ) × (has (row g.counted n) m ≡ true) × (has p.board.standing.lists.settled m ≡ false)
  lacks n waits = first_refused (has p.board.standing.lists.settled) (row g.counted n) (holds.wait n waits)

  pub each_waits_for_one : EachWaitsForOne p.board
  each_waits_for_one n waits =
      let r = lacks n waits in
      (r.0, subst (λ (h : Prerequisites). has (row h.counted n) r.0 ≡ true) (sym holds.edges) r.1, r.2)

  nodes_are : nodes_on p.board ≡ length g.counted
  nodes_are = ap (λ (h : Prerequisites). length h.counted) holds.edges

  pub some_is_under_way : AreOrdered g → SomeIsUnderWay p.board
  some_is_under_way ordered n lt unsettled = ⊎_elim (λ some. some) tied (some_or_none p.board.standing.lists)
    where
      place : n < length g.counted
      place = subst (λ k. n < k) nodes_are lt

      tied : NoneIs p.board.standing.lists → (m : ℕ) × IsUnderWay p.board.standing.lists m
      tied none = absurd (ordered.no_cycle (cycle_from_knot g.counted ordered.closed (has p.board.standing.lists.waiting) onward n place
          (waits_then (length g.counted) p.board.standing.lists holds.standing.each_once none n place unsettled)))
        where
          onward : (k : ℕ) → k < length g.counted → has p.board.standing.lists.waiting k ≡ true
              → (m : ℕ) × (has (row g.counted k) m ≡ true) × (has p.board.standing.lists.waiting m ≡ true)
          onward k below waits =
              let r = lacks k waits in
              let in_g : r.0 < length g.counted = ltb-true r.0 (length g.counted)
              (list_all-has (λ m. nat_lt m (length g.counted)) (row g.counted k) r.0 (closed_row g.counted ordered.closed k below) r.1) in
              (r.0, r.1, waits_then (length g.counted) p.board.standing.lists holds.standing.each_once none r.0 in_g r.2)

  -- ---- each has its move

  in_nodes : (stand : Stand) (n : ℕ) → has (list_in p.board.standing.lists stand) n ≡ true → n < length g.counted
  in_nodes stand n there = below_from_has (length g.counted) p.board.standing.lists holds.standing.each_once stand n there

  settles_so : (stand : Stand) (n : ℕ) → has (list_in p.board.standing.lists stand) n ≡ true → code stand ≢ 5 → (end : End) → (b : Sheet) × SettlesOn p.board n end b
  settles_so stand n there unsettled end =
      let on = can_settle g (length g.counted) refl p.board.standing holds.standing n (in_nodes stand n there)
      (nowhere_else (length g.counted) p.board.standing.lists holds.standing.each_once stand Settled n unsettled there) end in (
        record p.board { standing = on.0 },
        record {
          rest = refl;
          settles = subst (λ (h : Prerequisites). Settles h n end p.board.standing on.0) (sym holds.edges) on.1;
        },
      )

  can_claim : (n : ℕ) → has p.board.standing.lists.ready n ≡ true → CanMove p claim
  can_claim n there = by (empty_or p.board.standing.lists.ready)
    where
      by : (p.board.standing.lists.ready ≡ []) ⊎ ((m : ℕ) × (ns : List ℕ) × (p.board.standing.lists.ready ≡ m ∷ ns)) → CanMove p claim
      by (inl none) = absurd (true≢false (sym there ∙ ap (λ xs. has xs n) none))
      by (inr some) = (record p { board = relisted some.0 Running p.board }, (some.0, ap (λ xs. slice_get xs 0) some.2, refl, refl))

  can_drain : (n : ℕ) → has p.board.standing.lists.unflushed n ≡ true → CanMove p drain
  can_drain n there = by (empty_or p.board.standing.lists.unflushed)
    where
      by : (p.board.standing.lists.unflushed ≡ []) ⊎ ((m : ℕ) × (ns : List ℕ) × (p.board.standing.lists.unflushed ≡ m ∷ ns)) → CanMove p drain
      by (inl none) = absurd (true≢false (sym there ∙ ap (λ xs. has xs n) none))
      by (inr some) = (record p { board = drained p.board }, (ap holds_any some.2, refl, refl))

  can_submit : (n : ℕ) (note : Record) (run : Option Run) → IsTaken p.board n note run → CanMove p (submit n note run)
  can_submit n note run taken = (record { board = submits n note p.board; taken = p.taken ++ note ∷ [] }, (taken, refl, refl))

  -- the end that a run came to is taken
  end_taken : (n : ℕ) → has p.board.standing.lists.running n ≡ true → (ticket : ℕ) → sent_by p.board n ≡ sent.Begun ticket
      → (run : Run) → run.ticket ≡ ticket → (note : Record) → TellsEnd (name_of p.board n) run note → IsTaken p.board n note (Some run)
  end_taken n there ticket begun run own (records.Begun target) tells = absurd tells
  end_taken n there ticket begun run own (records.Done target commands hidden explicit) tells = record {
    within = subst (λ k. n < k) (sym nodes_are) (in_nodes Running n there);
    runs = there;
    own = tells.0;
    kind = (begun ∙ ap (λ (t : ℕ). sent.Begun t) (sym own), tells.1);
  }
  end_taken n there ticket begun run own (records.Failed target status) tells = record {
    within = subst (λ k. n < k) (sym nodes_are) (in_nodes Running n there);
    runs = there;
    own = tells;
    kind = begun ∙ ap (λ (t : ℕ). sent.Begun t) (sym own);
  }
  end_taken n there ticket begun run own (records.Kept target entry) tells = absurd tells

  can_go_on : (n : ℕ) → has p.board.standing.lists.running n ≡ true → (past : Sent) → sent_by p.board n ≡ past → Fits Running past → CanGoOn p n past
  can_go_on n there sent.Nothing silent fits =
      let settled = settles_so Running n there (λ h. absurd (omega arith)) UpToDate in (
        can_submit n (records.Begun (name_of p.board n)) None (record {
          within = subst (λ k. n < k) (sym nodes_are) (in_nodes Running n there);
          runs = there;
          own = refl;
          kind = (silent, refl);
        }),
        (record p { board = settled.0 }, (record { runs = there; silent = silent; quiet = refl }, settled.1, refl)),
      )
  can_go_on n there (sent.Begun ticket) begun fits = λ run own note tells. can_submit n note (Some run) (end_taken n there ticket begun run own note tells)
  can_go_on n there (sent.End ticket) ended (inl fits) = absurd (no_nothing ticket fits)
    where
      no_nothing : (t : ℕ) → sent.End t ≡ sent.Nothing → ⊥
      no_nothing t e = cc
  can_go_on n there (sent.End ticket) ended (inr fits) = absurd (no_begun ticket fits.0 fits.1)
    where
      no_begun : (t u : ℕ) → sent.End t ≡ sent.Begun u → ⊥
      no_begun t u e = cc

  not_kept : (note : Record) (end : End) → end_noted note ≡ Some end → is_kept note ≡ false
  not_kept (records.Begun target) end e = refl
  not_kept (records.Done target commands hidden explicit) end e = refl
  not_kept (records.Failed target status) end e = refl
  not_kept (records.Kept target entry) end e = absurd (no_end end e)
    where
      no_end : (x : End) → None ≡ Some x → ⊥
      no_end x h = cc

  -- the receipt of its last record takes it on
  can_advance : (n : ℕ) → has p.board.standing.lists.flushing n ≡ true → (past : Sent) → sent_by p.board n ≡ past → StandsAs p.taken past → Fits Flushing past
      → (ticket : ℕ) × (noted : Record) × CanMove p (advance n ticket noted)
  can_advance n there sent.Nothing is stands fits = absurd (no_ticket fits.0 fits.1)
    where
      no_ticket : (t : ℕ) → None ≡ Some t → ⊥
      no_ticket t e = cc
  can_advance n there (sent.Begun ticket) is stands fits = (
    ticket,
    records.Begun stands.0,
    (
      record p { board = relisted n Running p.board },
      (
        record { flushing = there; last = ap last_ticket is; written = refl },
        stands.1,
        (advanced.Cleared (record { told = ticket }), (refl, refl)),
        refl,
      ),
    ),
  )
  can_advance n there (sent.End ticket) is stands fits =
      let settled = settles_so Flushing n there (λ h. absurd (omega arith)) stands.1 in (
        ticket,
        stands.0,
        (
          record p { board = settled.0 },
          (
            record { flushing = there; last = ap last_ticket is; written = not_kept stands.0 stands.1 stands.3 },
            stands.2,
            subst (λ (e : Option End). (a : Advanced ℕ) × Advances p.board n ticket e a settled.0) (sym stands.3) (advanced.Settled ticket, (refl, settled.1)),
            refl,
          ),
        ),
      )

  has_move : (stand : Stand) (n : ℕ) → has (list_in p.board.standing.lists stand) n ≡ true → HasMove p n stand
  has_move Waiting n there = tt
  has_move Ready n there = can_claim n there
  has_move Running n there = can_go_on n there (sent_by p.board n) refl (holds.fit Running n there)
  has_move Unflushed n there = can_drain n there
  has_move Flushing n there = can_advance n there (sent_by p.board n) refl (holds.stands n) (holds.fit Flushing n there)
  has_move Settled n there = tt

  pub is_going_on : AreOrdered g → IsGoingOn p
  is_going_on ordered = record { waits = each_waits_for_one; under_way = some_is_under_way ordered; moves = has_move }

pub never_stuck : (form : Form) → NeverStuckIn form
never_stuck form = λ g names moves p ordered made. is_going_on g p (holds_behind g moves (first_position form g names) p (holds_first form g names) made) ordered

-- ---- each run ends

-- a move that isn't to give up
record Forward (p : Position) : Type 0 where
  move : Move
  next : Position
  made : IsMove p move next
  keeps : GivesUp move → ⊥

module _ (p : Position) (going : IsGoingOn p) (ends : EachRecipeEnds p.board) where
  running_moves : (n : ℕ) → has p.board.standing.lists.running n ≡ true → (past : Sent) → sent_by p.board n ≡ past → CanGoOn p n past → Forward p
  running_moves n there sent.Nothing is can = record { move = settle n UpToDate; next = can.1.0; made = can.1.1; keeps = λ h. h }
  running_moves n there (sent.Begun ticket) is can =
      let run = ends n ticket there is in
      let note : Record = records.Failed (name_of p.board n) 1 in
      let made = can run.0 run.1 note refl in
      record { move = submit n note (Some run.0); next = made.0; made = made.1; keeps = λ h. h }
  running_moves n there (sent.End ticket) is can = absurd can

  some_moves : (stand : Stand) (n : ℕ) → is_under_way stand ≡ true → has (list_in p.board.standing.lists stand) n ≡ true → HasMove p n stand → Forward p
  some_moves Waiting n under there can = absurd (true≢false (sym under))
  some_moves Ready n under there can = record { move = claim; next = can.0; made = can.1; keeps = λ h. h }
  some_moves Running n under there can = running_moves n there (sent_by p.board n) refl can
  some_moves Unflushed n under there can = record { move = drain; next = can.0; made = can.1; keeps = λ h. h }
  some_moves Flushing n under there can = record { move = advance n can.0 can.1; next = can.2.0; made = can.2.1; keeps = λ h. h }
  some_moves Settled n under there can = absurd (true≢false (sym under))

  forward : (n : ℕ) → n < nodes_on p.board → has p.board.standing.lists.settled n ≡ false → Forward p
  forward n lt e =
      let some = going.under_way n lt e in
      some_moves some.1.0 some.0 some.1.1 some.1.2 (going.moves some.1.0 some.0 some.1.2)

  pub have_all_settled : IsOver p → HaveAllSettled p.board
  have_all_settled over n lt = by (has p.board.standing.lists.settled n) refl
    where
      by : (b : Bool) → has p.board.standing.lists.settled n ≡ b → has p.board.standing.lists.settled n ≡ true
      by true e = e
      by false e = let f = forward n lt e in absurd (f.keeps (over f.move f.next f.made))

-- all nodes of a list of settled ones, or one that isn't there
settled_or_not : (settled : List ℕ) (k : ℕ) → ((n : ℕ) → n < k → has settled n ≡ true) ⊎ ((n : ℕ) × (n < k) × (has settled n ≡ false))
settled_or_not settled zero = inl (λ n lt. absurd (omega (arith, lt)))
settled_or_not settled (suc k) = by (settled_or_not settled k) (has settled k) refl
  where
    by : ((n : ℕ) → n < k → has settled n ≡ true) ⊎ ((n : ℕ) × (n < k) × (has settled n ≡ false)) → (b : Bool) → has settled k ≡ b
        → ((n : ℕ) → n < suc k → has settled n ≡ true) ⊎ ((n : ℕ) × (n < suc k) × (has settled n ≡ false))
    by (inr not) b e = let lt = not.1 in inr (not.0, omega arith, not.2)
    by (inl all) false e = inr (k, omega arith, e)
    by (inl all) true e = inl (λ n lt. ⊎_elim (λ below. all n below) (λ past. subst (λ m. has settled m ≡ true) (last n lt past) e) (cases_lt n k))
      where
        last : (n : ℕ) → n < suc k → k ≤ n → k ≡ n
        last n lt past = omega arith

module _ (g : Prerequisites) (ordered : AreOrdered g) (ends : RecipesEnd) where
  ended_from : (fuel : ℕ) (p : Position) → Holds g p → left_on p.board ≤ fuel → CanBeEnded p
  ended_from zero p holds enough = by (settled_or_not p.board.standing.lists.settled (nodes_on p.board))
    where
      by : HaveAllSettled p.board ⊎ ((n : ℕ) × (n < nodes_on p.board) × (has p.board.standing.lists.settled n ≡ false)) → CanBeEnded p
      by (inl all) = ([], p, refl, tt, all)
      by (inr not) =
          let f = forward p (is_going_on g p holds ordered) (λ n ticket there begun. ends ticket) not.0 not.1 not.2 in
          let less = falls g p f.next f.move holds f.made in
          absurd (omega arith)
  ended_from (suc fuel) p holds enough = by (ended_from fuel) (settled_or_not p.board.standing.lists.settled (nodes_on p.board))
    where
      by : ((q : Position) → Holds g q → left_on q.board ≤ fuel → CanBeEnded q)
          → HaveAllSettled p.board ⊎ ((n : ℕ) × (n < nodes_on p.board) × (has p.board.standing.lists.settled n ≡ false)) → CanBeEnded p
      by go (inl all) = ([], p, refl, tt, all)
      by go (inr not) =
          let f = forward p (is_going_on g p holds ordered) (λ n ticket there begun. ends ticket) not.0 not.1 not.2 in
          let less = falls g p f.next f.move holds f.made in
          let rest = go f.next (holds_on g p f.next f.move holds f.made) (omega arith) in
          (f.move ∷ rest.0, rest.1, (f.next, f.made, rest.2), (f.keeps, rest.3), rest.4)

pub every_run_ends : (form : Form) → EveryRunEndsIn form
every_run_ends form = λ g names moves p ordered made.
    let holds = holds_behind g moves (first_position form g names) p (holds_first form g names) made in
    record {
      few = subst (λ (h : Prerequisites). length moves ≤ 7 * length h.counted) (sym holds.edges) (few form g names moves p made);
      all = λ ends over. have_all_settled p (is_going_on g p holds ordered) ends over;
      can = λ ends. ended_from g ordered ends (left_on p.board) p holds (omega arith);
    }
