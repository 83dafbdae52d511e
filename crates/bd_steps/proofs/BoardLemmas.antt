-- A board's calls, and what is done with its clearances, are steps.
use Rattle.std.proofs.Common.{◌≡◌, ◌≢◌, ◌⊎◌, ℕ, zero, suc, ◌+◌, ◌<◌, ◌≤◌, Bool, true, false, ◌||◌, List, [], ◌∷◌, ◌++◌, length, get_or, drop, map, replicate, Option, Some, None, slice_get, slice_index_or, Contains, refl, sym, ap, subst, ◌∙◌, inl, inr, ⊎_elim, arith, length-append, length-set, length-drop, get_or-set_same, get_or-set_other}
use Rattle.std.proofs.lemmas.Bool.{cases_eq}
use Rattle.std.proofs.lemmas.List.{length-replicate, map-append}
use Rattle.std.proofs.lemmas.Option.{slice_get_within}
use Rattle.mk_graph.specs.Edges.{has}
use Rattle.mk_graph.proofs.WaitLemmas.{has-append}
use Rattle.st_disk.specs.declared.which.Which.{Which}
use Rattle.st_disk.specs.Moments.{Moments}
use Rattle.st_records.specs.declared.version.Form.{Form}
use Rattle.st_records.specs.declared.record.Record.{Record}
use Rattle.st_records.specs.declared.record.Record.TheVariants as records
use Rattle.st_records.specs.Parts.{target_of}
use Rattle.bd_links.specs.declared.stand.Stand.TheVariants.{Running, Unflushed, Flushing}
use Rattle.bd_places.specs.declared.end.End.{End}
use Rattle.bd_places.specs.Settling.{Standing, IsStanding}
use Rattle.bd_places.proofs.StandingLemmas.{below_from_has, has-moved_other}
use Rattle.bd_ledger.specs.declared.sent.Sent.{Sent}
use Rattle.bd_ledger.specs.declared.sent.Sent.TheVariants as sent
use Rattle.bd_ledger.specs.Sheet.{Sheet, nodes_on, name_of, sent_by, sent_with, last_ticket, is_kept, relisted, submits}
use Rattle.bd_lists.specs.declared.board.Advanced.{Advanced}
use Rattle.bd_lists.specs.Admission.{Run, MaySend}
use Rattle.bd_lists.specs.Board.{CanAdvance, Advances, end_noted}
use Rattle.bd_flusher.specs.declared.site.receipt.Receipt.{Receipt}
use Rattle.bd_flusher.specs.Batches.{StandsAt}
use Rattle.bd_flusher.specs.Turns.{AreInTurn}
use Rattle.bd_flusher.proofs.ListLemmas.{none_is, some_is, at-push, at-push_last, at-push_cases, contains_first, contains_more}
use Rattle.bd_steps.specs.Kind.{kind_of}
use Rattle.bd_steps.specs.Kind as kinds
use Rattle.bd_steps.specs.World.{World}
use Rattle.bd_steps.specs.Event.{Event, submit, drain, compaction_call, commit_call, commit_end, look, advance, start, finish, something_else, power_cut, IsSilentFrom, HasEnded, MayCome, MayHappen, after}
use Rattle.bd_steps.specs.Boards.{IsSent, IsPending, IsBoardBy, IsBoardOf, NewBoardIsOpenedIn, HasEndedRun, SubmitsAreSteps, DrainsAreStepsIn, IsOut, IsAdvance, AdvancesAreSteps, ClaimsAreNoSteps, SettlingsAreNoSteps, IsBesideBoard, StepsKeepBoards, RecipesAreSteps, EndsAreSteps, IsOfRecipe, ClearancesStay}
use Rattle.bd_steps.proofs.RunLemmas.{takes_are_steps}
use Rattle.bd_steps.proofs.MoveLemmas.{moved_under_way, moved_is_not, settles_under_way}

-- ---- lists

contains_cases : (y : ℕ) (xs : List ℕ) (x : ℕ) → Contains (y ∷ xs) x → (y ≡ x) ⊎ Contains xs x
contains_cases y xs x c = by c.0 c.1 c.2
  where
    by : (k : ℕ) → k < length (y ∷ xs) → get_or (y ∷ xs) k x ≡ x → (y ≡ x) ⊎ Contains xs x
    by zero lt e = inl e
    by (suc k) lt e = inr (k, omega (arith, lt), e)

nothing_in : (x : ℕ) → Contains [] x → ⊥
nothing_in x c = absurd (omega (arith, c.1))

drop_front : {X : Type 0} (n : ℕ) (xs ys : List X) → n ≤ length xs → drop n (xs ++ ys) ≡ drop n xs ++ ys
drop_front zero [] ys le = refl
drop_front (suc n) [] ys le = absurd (omega (arith, le))
drop_front zero (x ∷ xs) ys le = refl
drop_front (suc n) (x ∷ xs) ys le = drop_front n xs ys (omega (arith, le))

drop_whole : {X : Type 0} (xs : List X) → drop (length xs) xs ≡ []
drop_whole [] = refl
drop_whole (x ∷ xs) = drop_whole xs

map_long : {X Y : Type 0} (f : X → Y) (xs : List X) → length (map f xs) ≡ length xs
map_long f [] = refl
map_long f (x ∷ xs) = ap suc (map_long f xs)

in_turn-push : (from : ℕ) (xs : List ℕ) (t : ℕ) → AreInTurn from xs → t ≡ from + length xs → AreInTurn from (xs ++ t ∷ [])
in_turn-push from xs t so_far next place ticket at = elim (at-push_cases xs t place ticket at) [
  | inl old ↦ so_far place ticket old
  | inr new ↦ new.1 ∙ next ∙ ap (λ (k : ℕ). from + k) (sym new.0)
]

nothing_sent : (k n : ℕ) → slice_index_or (replicate k sent.Nothing) n sent.Nothing ≡ sent.Nothing
nothing_sent zero n = refl
nothing_sent (suc k) zero = refl
nothing_sent (suc k) (suc n) = nothing_sent k n

some_none : {X : Type 0} (x : X) → Some x ≡ None → ⊥
some_none x e = cc

true_false : true ≡ false → ⊥
true_false e = cc

-- ---- what a node has submitted, with one record more

silent-push : (from : ℕ) (target : List ℕ) (notes : List Record) (note : Record) → IsSilentFrom from target notes → (target_of note ≡ target → ⊥) → IsSilentFrom from target (notes ++ note ∷ [])
silent-push from target notes note silent other ticket n le at same = elim (at-push_cases notes note ticket n at) [
  | inl old ↦ silent ticket n le old same
  | inr new ↦ other (ap target_of (sym new.1) ∙ same)
]

silent_behind : (t : ℕ) (target : List ℕ) (notes : List Record) (note : Record) → t ≡ length notes → IsSilentFrom (t + 1) target (notes ++ note ∷ [])
silent_behind t target notes note is ticket n le at same =
    absurd (omega (arith, is, le, slice_get_within (notes ++ note ∷ []) ticket n at, length-append notes (note ∷ [])))

sent_other : (notes : List Record) (note : Record) (name : List ℕ) (past : Sent) → IsSent notes name past → (target_of note ≡ name → ⊥) → IsSent (notes ++ note ∷ []) name past
sent_other notes note name sent.Nothing is other = silent-push 0 name notes note is other
sent_other notes note name (sent.Begun ticket) is other = (at-push notes note ticket (records.Begun name) is.0, silent-push (ticket + 1) name notes note is.1 other)
sent_other notes note name (sent.End ticket) is other = (is.0, at-push notes note ticket is.0 is.1, is.2)

sent_own : (notes : List Record) (note : Record) (name : List ℕ) (t : ℕ) (past : Sent) (run : Option Run) → t ≡ length notes → target_of note ≡ name → MaySend past note run → IsSent (notes ++ note ∷ []) name (sent_with note t)
sent_own notes (records.Begun target) name t past run is own may = (
  ap (slice_get (notes ++ records.Begun target ∷ [])) is ∙ at-push_last notes (records.Begun target) ∙ ap (λ (n : List ℕ). Some (records.Begun n)) own,
  silent_behind t name notes (records.Begun target) is,
)
sent_own notes (records.Done target commands hidden explicit) name t past run is own may =
    let note : Record = records.Done target commands hidden explicit in
    (note, ap (slice_get (notes ++ note ∷ [])) is ∙ at-push_last notes note, own)
sent_own notes (records.Failed target status) name t past run is own may =
    let note : Record = records.Failed target status in
    (note, ap (slice_get (notes ++ note ∷ [])) is ∙ at-push_last notes note, own)
sent_own notes (records.Kept target entry) name t past run is own may = absurd may

last_sent : (note : Record) (t u : ℕ) → last_ticket (sent_with note t) ≡ Some u → t ≡ u
last_sent (records.Begun target) t u e = some_is t u e
last_sent (records.Done target commands hidden explicit) t u e = some_is t u e
last_sent (records.Failed target status) t u e = some_is t u e
last_sent (records.Kept target entry) t u e = absurd (none_is u e)

-- the record of its last ticket is of its target
stands_for : (notes : List Record) (name : List ℕ) (past : Sent) (t : ℕ) → IsSent notes name past → last_ticket past ≡ Some t → (note : Record) × StandsAt notes t note × (target_of note ≡ name)
stands_for notes name sent.Nothing t is e = absurd (none_is t e)
stands_for notes name (sent.Begun u) t is e = (records.Begun name, subst (λ (k : ℕ). StandsAt notes k (records.Begun name)) (some_is u t e) is.0, refl)
stands_for notes name (sent.End u) t is e = (is.0, subst (λ (k : ℕ). StandsAt notes k is.0) (some_is u t e) is.1, is.2)

-- ---- a submission may come

has_ended : (w : World) (name : List ℕ) (past : Sent) (ticket : ℕ) (target : List ℕ) → IsSent w.submitted name past → past ≡ sent.Begun ticket → target ≡ name → Contains w.ended ticket → HasEnded w target
has_ended w name past ticket target is begun own over =
    let all : IsSent w.submitted name (sent.Begun ticket) = subst (IsSent w.submitted name) begun is in
    record {
      ticket = ticket;
      first = subst (λ (n : List ℕ). StandsAt w.submitted ticket (records.Begun n)) (sym own) all.0;
      over = over;
      silent = subst (λ (n : List ℕ). IsSilentFrom (ticket + 1) n w.submitted) (sym own) all.1;
    }

may_come : (w : World) (name : List ℕ) (past : Sent) (note : Record) (run : Option Run) → IsSent w.submitted name past → MaySend past note run → target_of note ≡ name → HasEndedRun w run → MayCome (kind_of note) w (target_of note)
may_come w name past (records.Begun target) run is may own over =
    subst (λ (n : List ℕ). IsSilentFrom 0 n w.submitted) (sym own) (subst (IsSent w.submitted name) may.0 is)
may_come w name past (records.Done target commands hidden explicit) None is may own over = absurd may.0
may_come w name past (records.Done target commands hidden explicit) (Some run) is may own over = has_ended w name past run.ticket target is may.0 own over
may_come w name past (records.Failed target status) None is may own over = absurd may
may_come w name past (records.Failed target status) (Some run) is may own over = has_ended w name past run.ticket target is may own over
may_come w name past (records.Kept target entry) run is may own over = absurd may

-- ---- the board behind it

behind_submit : (b : Sheet) (w : World) (n : ℕ) (note : Record) (run : Option Run) → IsBoardOf b w → n < nodes_on b → target_of note ≡ name_of b n → MaySend (sent_by b n) note run
    → IsBoardOf (submits n note b) (after w (submit note))
behind_submit b w n note run is lt own may =
    let within : n < length b.sent = omega (arith, lt, is.each_node) in
    let next : b.submitted ≡ w.taken + length (map (λ (x : ℕ × Record). x.0) b.notes) =
    omega (arith, is.count, is.fewer, map_long (λ (x : ℕ × Record). x.0) b.notes, map_long (λ (x : ℕ × Record). x.1) b.notes, ap length is.waiting, length-drop w.taken w.submitted) in
    record {
      own_form = is.own_form;
      own_names = is.own_names;
      each_node = length-set b.sent n (sent_with note b.submitted) ∙ is.each_node;
      count = omega (arith, is.count, length-append w.submitted (note ∷ []));
      fewer = omega (arith, is.fewer, length-append w.submitted (note ∷ []));
      waiting = map-append (λ (x : ℕ × Record). x.1) b.notes ((b.submitted, note) ∷ []) ∙ ap (λ l. l ++ note ∷ []) is.waiting ∙ sym (drop_front w.taken w.submitted (note ∷ []) is.fewer);
      tickets = subst (AreInTurn w.taken) (sym (map-append (λ (x : ℕ × Record). x.0) b.notes ((b.submitted, note) ∷ []))) (in_turn-push w.taken _ b.submitted is.tickets next);
      sent = λ m below. ⊎_elim
          (λ same. subst (IsSent (w.submitted ++ note ∷ []) (name_of b m)) (sym (own_sent m same within))
          (sent_own w.submitted note (name_of b m) b.submitted (sent_by b n) run is.count (own ∙ ap (name_of b) (sym same)) may))
          (λ apart. subst (IsSent (w.submitted ++ note ∷ []) (name_of b m)) (sym (other_sent m apart))
          (sent_other w.submitted note (name_of b m) (sent_by b m) (is.sent m below) (λ named. apart (is.own_names m n below lt (sym named ∙ own)))))
          (cases_eq m n);
      pending = λ m ticket below waits last known. ⊎_elim
          (λ same. omega (arith, is.count, is.below ticket known, last_sent note b.submitted ticket (ap last_ticket (sym (own_sent m same within)) ∙ last)))
          (λ apart. is.pending m ticket below (elim waits [
            | inl there ↦ inl (sym (has-moved_other m n Unflushed b.standing.lists Unflushed apart) ∙ there)
            | inr there ↦ inr (sym (has-moved_other m n Unflushed b.standing.lists Flushing apart) ∙ there)
          ]) (ap last_ticket (sym (other_sent m apart)) ∙ last) known)
          (cases_eq m n);
      below = λ ticket known. omega (arith, is.below ticket known, length-append w.submitted (note ∷ []));
      known = is.known;
    }
  where
    own_sent : (m : ℕ) → m ≡ n → n < length b.sent → sent_by (submits n note b) m ≡ sent_with note b.submitted
    own_sent m same within = ap (sent_by (submits n note b)) same ∙ get_or-set_same b.sent n (sent_with note b.submitted) sent.Nothing within

    other_sent : (m : ℕ) → m ≢ n → sent_by (submits n note b) m ≡ sent_by b m
    other_sent m apart = get_or-set_other b.sent n m (sent_with note b.submitted) sent.Nothing apart

pub submits_are_steps : SubmitsAreSteps
submits_are_steps = λ b w n note run is standing taken good over.
    let lt : n < nodes_on b = below_from_has (nodes_on b) b.standing.lists standing.each_once Running n taken.runs in (
      (good, may_come w (name_of b n) (sent_by b n) note run (is.sent n lt) taken.kind taken.own over),
      behind_submit b w n note run is lt taken.own taken.kind,
    )

pub new_board_is_opened : (form : Form) → NewBoardIsOpenedIn form
new_board_is_opened = λ form g names opening sides own. record {
  own_form = refl;
  own_names = own;
  each_node = length-replicate (length g.counted) sent.Nothing;
  count = refl;
  fewer = omega arith;
  waiting = refl;
  tickets = λ place ticket at. absurd (none_is ticket at);
  sent = λ n lt. subst (IsSent [] (slice_index_or names n [])) (sym (nothing_sent (length g.counted) n)) (λ ticket note le at same. none_is note at);
  pending = λ n ticket lt waits last known. nothing_in ticket known;
  below = λ ticket known. absurd (nothing_in ticket known);
  known = λ ticket used. elim used [ inl c ↦ absurd (nothing_in ticket c) | inr c ↦ absurd (nothing_in ticket c) ];
}

-- ---- what waits is taken in

or_cases : (a b : Bool) → (a || b) ≡ true → (a ≡ true) ⊎ (b ≡ true)
or_cases true b e = inl refl
or_cases false b e = inr e

no_one : (n : ℕ) → has [] n ≡ true → ⊥
no_one n e = true_false (sym e)

pub drains_are_steps : {D : Type 0} (T : Type 0) (honest : Type 0) (moments : D → Moments) (seen : D → Which → List ℕ) (count : D → ℕ) → DrainsAreStepsIn moments
drains_are_steps {D} T honest moments seen count = λ s b w left is none.
    let nothing : length s.held ≡ 0 = ap length none in
    let same : w.taken ≡ w.told = omega (arith, left.count, left.both, nothing) in
    let step = takes_are_steps T honest moments seen count s w b.notes left none (is.waiting ∙ ap (λ (k : ℕ). drop k w.submitted) same) in (
      step.0,
      step.1,
      record {
        own_form = is.own_form;
        own_names = is.own_names;
        each_node = is.each_node;
        count = is.count;
        fewer = omega arith;
        waiting = sym (drop_whole w.submitted);
        tickets = λ place ticket at. absurd (none_is ticket at);
        sent = is.sent;
        pending = λ n ticket lt waits last known. is.pending n ticket lt (elim waits [
          | inl there ↦ absurd (no_one n there)
          | inr there ↦ elim (or_cases _ _ (sym (has-append b.standing.lists.flushing b.standing.lists.unflushed n) ∙ there)) [ inl front ↦ inr front | inr back ↦ inl back ]
        ]) last known;
        below = is.below;
        known = is.known;
      },
    )

-- ---- other moves

restands : (b : Sheet) (standing : Standing) (w : World) → IsBoardOf b w → ((n : ℕ) → IsPending (record b { standing = standing }) n → IsPending b n) → IsBoardOf (record b { standing = standing }) w
restands b standing w is same = record {
  own_form = is.own_form;
  own_names = is.own_names;
  each_node = is.each_node;
  count = is.count;
  fewer = is.fewer;
  waiting = is.waiting;
  tickets = is.tickets;
  sent = is.sent;
  pending = λ n ticket lt waits last known. is.pending n ticket lt (same n waits) last known;
  below = is.below;
  known = is.known;
}

pub claims_are_no_steps : ClaimsAreNoSteps
claims_are_no_steps = λ b w n is. restands b _ w is (λ m waits. moved_under_way m n Running b.standing.lists refl refl waits)

pub settlings_are_no_steps : SettlingsAreNoSteps
settlings_are_no_steps = λ b c w n end is settled.
    subst (λ (x : Sheet). IsBoardOf x w) (sym settled.rest)
    (restands b c.standing w is (λ m waits. settles_under_way b.prerequisites n end b.standing c.standing m settled.settles waits))

-- ---- a receipt with which the board goes on

begun_from : (note : Record) → end_noted note ≡ None → is_kept note ≡ false → kind_of note ≡ kinds.begun
begun_from (records.Begun target) e written = refl
begun_from (records.Done target commands hidden explicit) e written = absurd (some_none _ e)
begun_from (records.Failed target status) e written = absurd (some_none _ e)
begun_from (records.Kept target entry) e written = absurd (true_false written)

-- two nodes have no ticket in common
own_ticket : (b : Sheet) (w : World) (m n ticket : ℕ) → IsBoardOf b w → m < nodes_on b → n < nodes_on b → last_ticket (sent_by b m) ≡ Some ticket → last_ticket (sent_by b n) ≡ Some ticket → m ≡ n
own_ticket b w m n ticket is below lt one other =
    let first = stands_for w.submitted (name_of b m) (sent_by b m) ticket (is.sent m below) one in
    let second = stands_for w.submitted (name_of b n) (sent_by b n) ticket (is.sent n lt) other in
    let note : first.0 ≡ second.0 = some_is first.0 second.0 (sym first.1 ∙ second.1) in
    is.own_names m n below lt (sym first.2 ∙ ap target_of note ∙ second.2)

behind_advance : (b : Sheet) (w : World) (n : ℕ) (receipt : Receipt) → IsBoardOf b w → n < nodes_on b → last_ticket (sent_by b n) ≡ Some receipt.ticket
    → IsBoardOf (relisted n Running b) (after w (advance receipt))
behind_advance b w n receipt is lt last =
    let own = stands_for w.submitted (name_of b n) (sent_by b n) receipt.ticket (is.sent n lt) last in
    record {
      own_form = is.own_form;
      own_names = is.own_names;
      each_node = is.each_node;
      count = is.count;
      fewer = is.fewer;
      waiting = is.waiting;
      tickets = is.tickets;
      sent = is.sent;
      pending = λ m ticket below waits last_of_it known. ⊎_elim
          (λ same. moved_is_not n Running b.standing.lists refl refl (subst (IsPending (relisted n Running b)) same waits))
          (λ apart. elim (contains_cases receipt.ticket w.cleared ticket known) [
            | inl this ↦ apart (own_ticket b w m n receipt.ticket is below lt (last_of_it ∙ ap (λ (k : ℕ). Some k) (sym this)) last)
            | inr earlier ↦ is.pending m ticket below (moved_under_way m n Running b.standing.lists refl refl waits) last_of_it earlier
          ])
          (cases_eq m n);
      below = λ ticket known. elim (contains_cases receipt.ticket w.cleared ticket known) [
        | inl this ↦ omega (arith, this, slice_get_within w.submitted receipt.ticket own.0 own.1)
        | inr earlier ↦ is.below ticket earlier
      ];
      known = λ ticket used. contains_more receipt.ticket w.cleared ticket (is.known ticket used);
    }

pub advances_are_steps : AdvancesAreSteps
advances_are_steps = λ b c w n receipt a is standing can given goes_on. by b c w n receipt a is standing can given (end_noted receipt.noted) refl goes_on
  where
    by : (b c : Sheet) (w : World) (n : ℕ) (receipt : Receipt) (a : Advanced Receipt) → IsBoardOf b w → IsStanding b.prerequisites (nodes_on b) b.standing → CanAdvance b n receipt.ticket receipt.noted
        → Contains w.receipts receipt → (e : Option End) → end_noted receipt.noted ≡ e → Advances b n receipt e a c → IsAdvance w receipt e c
    by b c w n receipt a is standing can given None e goes_on =
        let lt : n < nodes_on b = below_from_has (nodes_on b) b.standing.lists standing.each_once Flushing n can.flushing in
        let fresh : Contains w.cleared receipt.ticket → ⊥ = is.pending n receipt.ticket lt (inr can.flushing) can.last in (
          (given, begun_from receipt.noted e can.written),
          fresh,
          record { cleared = contains_first receipt.ticket w.cleared; unstarted = λ c. fresh (is.known receipt.ticket (inl c)); going = λ c. fresh (is.known receipt.ticket (inr c)) },
          subst (λ (x : Sheet). IsBoardOf x (after w (advance receipt))) (sym goes_on.1) (behind_advance b w n receipt is lt can.last),
        )
    by b c w n receipt a is standing can given (Some end) e goes_on = settlings_are_no_steps b c w n end is goes_on.1

-- ---- steps of others

pub steps_keep_boards : StepsKeepBoards
steps_keep_boards = λ b w event is beside may. by b w event is beside may
  where
    used_more : (b : Sheet) (w : World) (started ended : List ℕ) → IsBoardOf b w → ((ticket : ℕ) → Contains started ticket ⊎ Contains ended ticket → Contains w.cleared ticket)
        → IsBoardBy b w.form w.submitted w.taken w.cleared started ended
    used_more b w started ended is known = record {
      own_form = is.own_form;
      own_names = is.own_names;
      each_node = is.each_node;
      count = is.count;
      fewer = is.fewer;
      waiting = is.waiting;
      tickets = is.tickets;
      sent = is.sent;
      pending = is.pending;
      below = is.below;
      known = known;
    }

    by : (b : Sheet) (w : World) (event : Event) → IsBoardOf b w → IsBesideBoard event → MayHappen w event → IsBoardOf b (after w event)
    by b w (submit note) is beside may = absurd beside
    by b w drain is beside may = absurd beside
    by b w (advance receipt) is beside may = absurd beside
    by b w (power_cut x y) is beside may = absurd beside
    by b w (compaction_call sides failed) is beside may = is
    by b w (commit_call sides failed) is beside may = is
    by b w commit_end is beside may = is
    by b w (look receipt) is beside may = is
    by b w something_else is beside may = is
    by b w (start t) is beside may = used_more b w (t ∷ w.started) w.ended is (λ ticket used. elim used [
      | inl c ↦ elim (contains_cases t w.started ticket c) [ inl this ↦ subst (Contains w.cleared) this may.0 | inr earlier ↦ is.known ticket (inl earlier) ]
      | inr c ↦ is.known ticket (inr c)
    ])
    by b w (finish t) is beside may = used_more b w w.started (t ∷ w.ended) is (λ ticket used. elim used [
      | inl c ↦ is.known ticket (inl c)
      | inr c ↦ elim (contains_cases t w.ended ticket c) [ inl this ↦ subst (Contains w.cleared) this may | inr earlier ↦ is.known ticket (inr earlier) ]
    ])

-- ---- recipes

pub recipes_are_steps : RecipesAreSteps
recipes_are_steps = λ w ticket out. record {
  starts = (out.cleared, out.unstarted, out.going);
  gives_up = out.cleared;
  ends = contains_first ticket w.started;
}

pub ends_are_steps : EndsAreSteps
ends_are_steps = λ b w ticket is started. is.known ticket (inl started)

pub clearances_stay : ClearancesStay
clearances_stay = λ w event ticket out other. by w event ticket out other
  where
    by : (w : World) (event : Event) (ticket : ℕ) → IsOut w ticket → (IsOfRecipe event ticket → ⊥) → IsOut (after w event) ticket
    by w (submit note) ticket out other = record { cleared = out.cleared; unstarted = out.unstarted; going = out.going }
    by w drain ticket out other = record { cleared = out.cleared; unstarted = out.unstarted; going = out.going }
    by w (compaction_call sides failed) ticket out other = record { cleared = out.cleared; unstarted = out.unstarted; going = out.going }
    by w (commit_call sides failed) ticket out other = record { cleared = out.cleared; unstarted = out.unstarted; going = out.going }
    by w commit_end ticket out other = record { cleared = out.cleared; unstarted = out.unstarted; going = out.going }
    by w (look receipt) ticket out other = record { cleared = out.cleared; unstarted = out.unstarted; going = out.going }
    by w (advance receipt) ticket out other = record { cleared = contains_more receipt.ticket w.cleared ticket out.cleared; unstarted = out.unstarted; going = out.going }
    by w (start t) ticket out other = record {
      cleared = out.cleared;
      unstarted = λ c. elim (contains_cases t w.started ticket c) [ inl this ↦ other this | inr earlier ↦ out.unstarted earlier ];
      going = out.going;
    }
    by w (finish t) ticket out other = record {
      cleared = out.cleared;
      unstarted = out.unstarted;
      going = λ c. elim (contains_cases t w.ended ticket c) [ inl this ↦ other this | inr earlier ↦ out.going earlier ];
    }
    by w something_else ticket out other = out
    by w (power_cut x y) ticket out other = record { cleared = out.cleared; unstarted = out.unstarted; going = out.going }
