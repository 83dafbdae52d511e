-- Each move leaves less to be done, so there are few.
use Rattle.std.proofs.Common.{◌≡◌, ◌≢◌, ℕ, ◌+◌, ◌*◌, ◌<◌, ◌≤◌, Bool, true, false, cond, not, List, [], ◌∷◌, length, filter, replicate, get_or, Option, Some, None, refl, sym, ap, subst, inl, inr, ⊎_elim, arith, true≢false, get_or-set_same, get_or-set_other}
use Rattle.std.specs.Prelude.{sum_by}
use Rattle.std.proofs.lemmas.Bool.{cases_lt}
use Rattle.std.proofs.lemmas.List.{length-replicate, get_or-replicate, get_or_past}
use Rattle.std.proofs.lemmas.List.Sums.{sum_by-cons}
use Rattle.std.proofs.lemmas.List.FromFn.{length-range_with_len}
use Rattle.std.specs.List.{range_with_len}
use Rattle.mk_graph.specs.Edges.{has}
use Rattle.st_records.specs.declared.version.Form.{Form}
use Rattle.st_records.specs.declared.record.Record.{Record}
use Rattle.st_records.specs.declared.record.Record.TheVariants as records
use Rattle.bd_links.specs.declared.stand.Stand.{Stand}
use Rattle.bd_links.specs.declared.stand.Stand.TheVariants.{Waiting, Ready, Running, Unflushed, Flushing, Settled}
use Rattle.bd_links.specs.SixLists.{list_in, code}
use Rattle.bd_places.specs.declared.end.End.{End}
use Rattle.bd_places.specs.declared.end.End.TheVariants.{Abandoned}
use Rattle.bd_places.specs.Placed.{is_open, is_ready_first}
use Rattle.bd_places.specs.Settling.{Prerequisites, Settles, ended}
use Rattle.bd_places.proofs.StandingLemmas.{below_from_has, nowhere_else}
use Rattle.bd_places.proofs.SettleLemmas.{has_from_place}
use Rattle.bd_ledger.specs.declared.sent.Sent.{Sent}
use Rattle.bd_ledger.specs.declared.sent.Sent.TheVariants as sent
use Rattle.bd_ledger.specs.Sheet.{Sheet, sent_by, sent_with, relisted, drained, submits, SettlesOn}
use Rattle.bd_lists.specs.declared.board.Advanced.{Advanced}
use Rattle.bd_lists.specs.Admission.{Run, MaySend}
use Rattle.bd_lists.specs.Board.{Advances, end_noted}
use Rattle.bd_progress.specs.Moves.{Position, first_position, Move, claim, submit, drain, advance, settle, abandon, IsMove, AreMoves}
use Rattle.bd_progress.specs.Left.{moves_left, left_on}
use Rattle.bd_progress.specs.NeverStuck.{EachMoveDoesMoreIn}
use Rattle.bd_progress.proofs.WaitLemmas.{standing_ended}
use Rattle.bd_progress.proofs.LeftLemmas.{weight, weight-moved, weight-joined, some_is_there, AreLight, weight-looks}
use Rattle.bd_progress.proofs.HoldLemmas.{Fits, Holds, holds_first, holds_on, holds_behind, open_is_not_settled}

-- what each node weighs that has submitted so much
abbrev weighs : (past : ℕ → Sent) → Stand → ℕ → ℕ
weighs past stand n = moves_left stand (past n)

left_is : (b : Sheet) → left_on b ≡ weight (weighs (sent_by b)) b.standing.lists
left_is b = refl

light : (past : ℕ → Sent) → AreLight (weighs past)
light past = record { ready = λ m. omega arith; settled = λ m. refl }

-- ---- each kind of move

module _ (g : Prerequisites) (p : Position) (holds : Holds g p) (n : ℕ) (from : Stand) (there : has (list_in p.board.standing.lists from) n ≡ true) where
  -- a node that goes to Running is nearer by one
  falls_relisted : (q : Position) → moves_left from (sent_by p.board n) ≡ moves_left Running (sent_by p.board n) + 1 → q.board ≡ relisted n Running p.board
      → left_on q.board < left_on p.board
  falls_relisted q nearer e =
      subst (λ (b : Sheet). left_on b < left_on p.board) (sym e)
      (let goes = weight-moved (length g.counted) p.board.standing.lists holds.standing.each_once n from there
      (weighs (sent_by p.board)) (weighs (sent_by p.board)) (λ s m ne. refl) Running in
      let a = left_is p.board in let b = left_is (relisted n Running p.board) in
      omega arith)

  -- one that settles leaves what was left of it
  falls_settled : (unsettled : code from ≢ 5) (q : Position) (end : End) → 0 < moves_left from (sent_by p.board n) → SettlesOn p.board n end q.board
      → left_on q.board < left_on p.board
  falls_settled unsettled q end some settles =
      let on : Settles g n end p.board.standing q.board.standing
      = subst (λ (h : Prerequisites). Settles h n end p.board.standing q.board.standing) holds.edges settles.settles in
      let same : left_on q.board ≡ weight (weighs (sent_by p.board)) q.board.standing.lists
      = ap (λ (b : Sheet). left_on b) settles.rest in
      let lt = below_from_has (length g.counted) p.board.standing.lists holds.standing.each_once from n there in
      let fresh = nowhere_else (length g.counted) p.board.standing.lists holds.standing.each_once from Settled n unsettled there in
      let looks = weight-looks (weighs (sent_by p.board)) (light (sent_by p.board)) (length g.counted) g (length p.board.standing.lists.settled)
      (ended n end p.board.standing) q.board.standing on (standing_ended g (length g.counted) refl p.board.standing holds.standing n lt fresh end) in
      let goes = weight-moved (length g.counted) p.board.standing.lists holds.standing.each_once n from there
      (weighs (sent_by p.board)) (weighs (sent_by p.board)) (λ s m ne. refl) Settled in
      let a = left_is p.board in
      omega arith

  -- one that submits a record is nearer by one
  falls_submitted : (q : Position) (note : Record) → from ≡ Running → moves_left Unflushed (sent_with note p.board.submitted) + 1 ≡ moves_left Running (sent_by p.board n)
      → q.board ≡ submits n note p.board → left_on q.board < left_on p.board
  falls_submitted q note runs nearer e =
      subst (λ (b : Sheet). left_on b < left_on p.board) (sym e)
      (let lt = below_from_has (length g.counted) p.board.standing.lists holds.standing.each_once from n there in
      let listed = holds.listed in
      let own : sent_by (submits n note p.board) n ≡ sent_with note p.board.submitted
      = get_or-set_same p.board.sent n (sent_with note p.board.submitted) sent.Nothing (omega arith) in
      let goes = weight-moved (length g.counted) p.board.standing.lists holds.standing.each_once n from there
      (weighs (sent_by p.board)) (weighs (sent_by (submits n note p.board)))
      (λ s m ne. ap (moves_left s) (sym (get_or-set_other p.board.sent n m (sent_with note p.board.submitted) sent.Nothing ne))) Unflushed in
      let was : moves_left from (sent_by p.board n) ≡ moves_left Running (sent_by p.board n) = ap (λ (s : Stand). moves_left s (sent_by p.board n)) runs in
      let is : moves_left Unflushed (sent_by (submits n note p.board) n) ≡ moves_left Unflushed (sent_with note p.board.submitted) = ap (moves_left Unflushed) own in
      let a = left_is p.board in let b = left_is (submits n note p.board) in
      omega arith)

-- a record takes one from what is left to submit
one_nearer : (note : Record) (past : Sent) (run : Option Run) (t : ℕ) → MaySend past note run → moves_left Unflushed (sent_with note t) + 1 ≡ moves_left Running past
one_nearer (records.Begun target) past run t may = omega (arith, ap (moves_left Running) may.0)
one_nearer (records.Done target commands hidden explicit) past None t may = absurd may.0
one_nearer (records.Done target commands hidden explicit) past (Some run) t may = omega (arith, ap (moves_left Running) may.0)
one_nearer (records.Failed target status) past None t may = absurd may
one_nearer (records.Failed target status) past (Some run) t may = omega (arith, ap (moves_left Running) may)
one_nearer (records.Kept target entry) past run t may = absurd may

-- something is left of each node that is open
some_left : (stand : Stand) (past : Sent) → is_open stand ≡ true → Fits stand past → 0 < moves_left stand past
some_left Waiting past e fits = omega arith
some_left Ready past e fits = omega arith
some_left Running past e (inl nothing) = omega (arith, ap (moves_left Running) nothing)
some_left Running past e (inr begun) = omega (arith, ap (moves_left Running) begun.1)
some_left Unflushed past e fits = omega arith
some_left Flushing past e fits = omega arith
some_left Settled past e fits = absurd (true≢false (sym e))

falls_drained : (p q : Position) → 1 ≤ length p.board.standing.lists.unflushed → q.board ≡ drained p.board → left_on q.board < left_on p.board
falls_drained p q some e =
    subst (λ (b : Sheet). left_on b < left_on p.board) (sym e)
    (let goes = weight-joined (weighs (sent_by p.board)) p.board.standing.lists (λ m. omega arith) in
    let a = left_is p.board in let b = left_is (drained p.board) in
    omega arith)

pub falls : (g : Prerequisites) (p q : Position) (move : Move) → Holds g p → IsMove p move q → left_on q.board < left_on p.board
falls g p q claim holds made =
    falls_relisted g p holds made.0 Ready (has_from_place p.board.standing.lists.ready 0 made.0 made.1) q (omega arith) made.2
falls g p q (submit n note run) holds made =
    falls_submitted g p holds n Running made.0.runs q note refl (one_nearer note (sent_by p.board n) run p.board.submitted made.0.kind) made.1
falls g p q drain holds made = falls_drained p q (some_is_there p.board.standing.lists.unflushed made.0) made.1
falls g p q (advance n ticket noted) holds made = by (end_noted noted) made.2.0 made.2.1
  where
    by : (e : Option End) (a : Advanced ℕ) → Advances p.board n ticket e a q.board → left_on q.board < left_on p.board
    by None a goes = falls_relisted g p holds n Flushing made.0.flushing q (omega arith) goes.1
    by (Some end) a goes = falls_settled g p holds n Flushing made.0.flushing (λ h. absurd (omega arith)) q end (omega arith) goes.1
falls g p q (settle n end) holds made =
    falls_settled g p holds n Running made.0.runs (λ h. absurd (omega arith)) q end (some_left Running (sent_by p.board n) refl (inl made.0.silent)) made.1
falls g p q (abandon n) holds made =
    falls_settled g p holds n made.0.0 made.0.2 (open_is_not_settled made.0.0 made.0.1) q Abandoned
    (some_left made.0.0 (sent_by p.board n) made.0.1 (holds.fit made.0.0 n made.0.2)) made.1

pub each_move_does_more : (form : Form) → EachMoveDoesMoreIn form
each_move_does_more form = λ g names moves p q move made next.
    falls g p q move (holds_behind g moves (first_position form g names) p (holds_first form g names) made) next

-- ---- so there are few

pub few_from : (g : Prerequisites) (moves : List Move) (p q : Position) → Holds g p → AreMoves p moves q → length moves + left_on q.board ≤ left_on p.board
few_from g [] p q holds made = omega (arith, ap (λ (r : Position). left_on r.board) made)
few_from g (move ∷ moves) p q holds made =
    let first = falls g p made.0 move holds made.1 in
    let rest = few_from g moves made.0 q (holds_on g p made.0 move holds made.1) made.2 in
    omega arith

sum-split : (f : ℕ → ℕ) (may : ℕ → Bool) (xs : List ℕ) → sum_by f (filter (λ n. not (may n)) xs) + sum_by f (filter may xs) ≡ sum_by f xs
sum-split f may [] = omega arith
sum-split f may (x ∷ xs) = by (sum-split f may xs) (may x)
  where
    by : sum_by f (filter (λ n. not (may n)) xs) + sum_by f (filter may xs) ≡ sum_by f xs → (b : Bool)
        → sum_by f (cond (not b) (x ∷ filter (λ n. not (may n)) xs) (filter (λ n. not (may n)) xs)) + sum_by f (cond b (x ∷ filter may xs) (filter may xs)) ≡ sum_by f (x ∷ xs)
    by rest true = let a = sum_by-cons f x (filter may xs) in let b = sum_by-cons f x xs in omega arith
    by rest false = let a = sum_by-cons f x (filter (λ n. not (may n)) xs) in let b = sum_by-cons f x xs in omega arith

sevens : (f : ℕ → ℕ) → ((n : ℕ) → f n ≡ 7) → (xs : List ℕ) → sum_by f xs ≡ 7 * length xs
sevens f each [] = omega arith
sevens f each (x ∷ xs) = let here = each x in let rest = sevens f each xs in let a = sum_by-cons f x xs in omega arith

nothing_sent : (k n : ℕ) → get_or (replicate k sent.Nothing) n sent.Nothing ≡ sent.Nothing
nothing_sent k n = ⊎_elim (λ lt. get_or-replicate k n sent.Nothing sent.Nothing lt)
    (λ le. get_or_past (replicate k sent.Nothing) n sent.Nothing (let l = length-replicate k sent.Nothing in omega arith)) (cases_lt n k)

pub left_first : (form : Form) (g : Prerequisites) (names : List (List ℕ)) → left_on (first_position form g names).board ≡ 7 * length g.counted
left_first form g names =
    let all : List ℕ = range_with_len 0 (length g.counted) in
    let f : ℕ → ℕ = λ n. moves_left Waiting (get_or (replicate (length g.counted) sent.Nothing) n sent.Nothing) in
    let split = sum-split f (is_ready_first g) all in
    let each = sevens f (λ n. ap (moves_left Waiting) (nothing_sent (length g.counted) n)) all in
    let long = length-range_with_len 0 (length g.counted) in
    omega arith

pub few : (form : Form) (g : Prerequisites) (names : List (List ℕ)) (moves : List Move) (p : Position) → AreMoves (first_position form g names) moves p
    → length moves ≤ 7 * length g.counted
few form g names moves p made =
    let so = few_from g moves (first_position form g names) p (holds_first form g names) made in
    let whole = left_first form g names in
    omega arith
