-- What is true of each position that moves lead to.
use Rattle.std.proofs.Common.{◌≡◌, ◌≢◌, ◌⊎◌, ℕ, zero, suc, ◌+◌, ◌<◌, ◌≤◌, Bool, true, false, not, ◌||◌, eqb, List, [], ◌∷◌, ◌++◌, length, replicate, get_or, slice_get, Option, Some, None, refl, sym, ap, ◌∙◌, subst, inl, inr, ⊎_elim, arith, ne_eqb, true≢false, length-append, length-set, get_or-set_same, get_or-set_other}
use Rattle.std.proofs.lemmas.Bool.{cases_eq, cases_lt, and_parts}
use Rattle.std.proofs.lemmas.List.{length-replicate, get_or-replicate, get_or_past}
use Rattle.std.proofs.lemmas.List.Folds.{list_any-append}
use Rattle.std.specs.List.{list_all, range_with_len}
use Rattle.mk_graph.specs.Edges.{row, has, times}
use Rattle.st_records.specs.declared.version.Form.{Form}
use Rattle.st_records.specs.declared.record.Record.{Record}
use Rattle.st_records.specs.declared.record.Record.TheVariants as records
use Rattle.bd_links.specs.declared.stand.Stand.{Stand}
use Rattle.bd_links.specs.declared.stand.Stand.TheVariants.{Waiting, Ready, Running, Unflushed, Flushing, Settled}
use Rattle.bd_links.specs.SixLists.{SixLists, list_in, code, same_stand, moved, joined}
use Rattle.bd_links.proofs.ListLemmas.{times-cons, times-head}
use Rattle.bd_links.proofs.LinkedLemmas.{same_from_code}
use Rattle.bd_places.specs.declared.end.End.{End}
use Rattle.bd_places.specs.declared.end.End.TheVariants.{Abandoned}
use Rattle.bd_places.specs.Placed.{holds_any, is_open, is_ready_first, first_standing}
use Rattle.bd_places.specs.Settling.{Prerequisites, Standing, is_free, is_doomed, ended, gone_on, all_gone_on, looked_at, LooksOn, Settles, IsStanding}
use Rattle.bd_places.proofs.StartLemmas.{standing_first}
use Rattle.bd_places.proofs.UserLemmas.{has-filter}
use Rattle.bd_places.proofs.SettleLemmas.{has_from_place, freed}
use Rattle.bd_places.proofs.PlaceLemmas.{IsStanding-joined}
use Rattle.bd_places.proofs.StandingLemmas.{has-moved_same, has-moved_other, has_from_times, positive_from_has, nowhere_else, below_from_has, times-gone_on_other, IsStanding-moved, free_wider}
use Rattle.bd_ledger.specs.declared.sent.Sent.{Sent}
use Rattle.bd_ledger.specs.declared.sent.Sent.TheVariants as sent
use Rattle.bd_ledger.specs.Sheet.{Sheet, sent_by, sent_with, last_ticket, relisted, drained, submits, SettlesOn}
use Rattle.bd_lists.specs.declared.board.Advanced.{Advanced}
use Rattle.bd_lists.specs.Admission.{Run, MaySend}
use Rattle.bd_lists.specs.Board.{Advances, end_noted}
use Rattle.bd_progress.specs.Moves.{Position, first_position, Move, claim, submit, drain, advance, settle, abandon, IsMove, AreMoves}
use Rattle.bd_progress.proofs.KnotLemmas.{has-head}
use Rattle.bd_progress.proofs.WaitLemmas.{WaitersWait, settled_looked}
use Rattle.bd_progress.proofs.LeftLemmas.{freed_wait, freed_once}

-- ---- what nodes of a list have submitted

abbrev pub Fits : Stand → Sent → Type 0
Fits Waiting past = past ≡ sent.Nothing
Fits Ready past = past ≡ sent.Nothing
Fits Running past = (past ≡ sent.Nothing) ⊎ ((ticket : ℕ) × (past ≡ sent.Begun ticket))
Fits Unflushed past = (ticket : ℕ) × (last_ticket past ≡ Some ticket)
Fits Flushing past = (ticket : ℕ) × (last_ticket past ≡ Some ticket)
Fits Settled past = Unit {0}

abbrev pub AllFit : (past : ℕ → Sent) → SixLists → Type 0
AllFit past l = (stand : Stand) (n : ℕ) → has (list_in l stand) n ≡ true → Fits stand (past n)

same_code : (a b : Stand) → same_stand a b ≡ true → a ≡ b
same_code a b t = ⊎_elim (λ k. same_from_code a b k) (λ ne. absurd (true≢false (sym t ∙ ne_eqb (code a) (code b) ne))) (cases_eq (code a) (code b))

pub fit-moved : (past later : ℕ → Sent) (n : ℕ) (to : Stand) (l : SixLists) → AllFit past l → ((m : ℕ) → m ≢ n → later m ≡ past m) → Fits to (later n) → AllFit later (moved n to l)
fit-moved past later n to l fit alike fits stand m there = ⊎_elim
    (λ (e : m ≡ n).
    let here : has (list_in (moved n to l) stand) n ≡ true = subst (λ k. has (list_in (moved n to l) stand) k ≡ true) e there in
    let same : to ≡ stand = same_code to stand (sym (has-moved_same n to l stand) ∙ here) in
    subst (λ k. Fits stand (later k)) (sym e) (subst (λ (s : Stand). Fits s (later n)) same fits))
    (λ ne. subst (Fits stand) (sym (alike m ne)) (fit stand m (sym (has-moved_other m n to l stand ne) ∙ there)))
    (cases_eq m n)

pub fit-joined : (past : ℕ → Sent) (l : SixLists) → AllFit past l → AllFit past (joined l)
fit-joined past l fit Waiting m there = fit Waiting m there
fit-joined past l fit Ready m there = fit Ready m there
fit-joined past l fit Running m there = fit Running m there
fit-joined past l fit Unflushed m there = absurd (true≢false (sym there))
fit-joined past l fit Flushing m there = by (has l.flushing m) refl
  where
    by : (b : Bool) → has l.flushing m ≡ b → Fits Flushing (past m)
    by true e = fit Flushing m e
    by false e = fit Unflushed m (ap (λ b. b || has l.unflushed m) (sym e) ∙ sym (list_any-append _ l.flushing l.unflushed) ∙ there)
fit-joined past l fit Settled m there = tt

fit-gone : (past : ℕ → Sent) (b : Bool) (n : ℕ) (s : Standing) → AllFit past s.lists → has s.lists.waiting n ≡ true → AllFit past (gone_on b n s).lists
fit-gone past true n s fit waits = fit-moved past past n Settled s.lists fit (λ m ne. refl) tt
fit-gone past false n s fit waits = fit-moved past past n Ready s.lists fit (λ m ne. refl) (fit Waiting n waits)

or_true : (b : Bool) → (b || true) ≡ true
or_true true = refl
or_true false = refl

fit-all_gone : (past : ℕ → Sent) (d : ℕ → Bool) (xs : List ℕ) (s : Standing) → AllFit past s.lists → ((m : ℕ) → has xs m ≡ true → has s.lists.waiting m ≡ true)
    → ((m : ℕ) → times m xs ≤ 1) → AllFit past (all_gone_on d xs s).lists
fit-all_gone past d [] s fit waits single = fit
fit-all_gone past d (x ∷ xs) s fit waits single =
    fit-all_gone past d xs (gone_on (d x) x s) (fit-gone past (d x) x s fit (waits x (has-head x xs))) still
    (λ m. let h = single m in let k = times-cons m x xs in omega arith)
  where
    apart : (m : ℕ) → has xs m ≡ true → m ≢ x
    apart m there e =
        let twice = single x in
        let head = times-head x xs in
        let one = positive_from_has xs x (subst (λ k. has xs k ≡ true) e there) in
        absurd (omega arith)

    still : (m : ℕ) → has xs m ≡ true → has (gone_on (d x) x s).lists.waiting m ≡ true
    still m there =
        has_from_times (gone_on (d x) x s).lists.waiting s.lists.waiting m (times-gone_on_other (d x) m x s Waiting (apart m there))
        ∙ waits m (ap (λ b. eqb m x || b) there ∙ or_true (eqb m x))

fit-looks : (past : ℕ → Sent) (g : Prerequisites) (k : ℕ) (s t : Standing) → LooksOn g k s t → AllFit past s.lists → AllFit past t.lists
fit-looks past g k s t (LooksOn.all_looked e) fit = fit
fit-looks past g k s t (LooksOn.looks n at on) fit =
    fit-looks past g (k + 1) (looked_at g n s) t on (fit-all_gone past (is_doomed g s) (freed g s n) s fit (freed_wait g s n) (freed_once g s n))

pub fit-settled : (past : ℕ → Sent) (g : Prerequisites) (n : ℕ) (end : End) (s t : Standing) → Settles g n end s t → AllFit past s.lists → AllFit past t.lists
fit-settled past g n end s t settles fit =
    fit-looks past g (length s.lists.settled) (ended n end s) t settles (fit-moved past past n Settled s.lists fit (λ m ne. refl) tt)

-- ---- the records that were taken

-- what a node has submitted stands among them
abbrev pub StandsAs : (taken : List Record) → Sent → Type 0
StandsAs taken sent.Nothing = Unit {0}
StandsAs taken (sent.Begun ticket) = (name : List ℕ) × (slice_get taken ticket ≡ Some (records.Begun name))
StandsAs taken (sent.End ticket) = (note : Record) × (end : End) × (slice_get taken ticket ≡ Some note) × (end_noted note ≡ Some end)

none_is : (x : Record) → None ≡ Some x → ⊥
none_is x e = cc

at-push : (xs : List Record) (y : Record) (k : ℕ) (x : Record) → slice_get xs k ≡ Some x → slice_get (xs ++ y ∷ []) k ≡ Some x
at-push [] y k x e = absurd (none_is x e)
at-push (z ∷ zs) y zero x e = e
at-push (z ∷ zs) y (suc k) x e = at-push zs y k x e

at-push_last : (xs : List Record) (y : Record) → slice_get (xs ++ y ∷ []) (length xs) ≡ Some y
at-push_last [] y = refl
at-push_last (z ∷ zs) y = at-push_last zs y

stands-push : (taken : List Record) (note : Record) (past : Sent) → StandsAs taken past → StandsAs (taken ++ note ∷ []) past
stands-push taken note sent.Nothing is = tt
stands-push taken note (sent.Begun ticket) is = (is.0, at-push taken note ticket (records.Begun is.0) is.1)
stands-push taken note (sent.End ticket) is = (is.0, is.1, at-push taken note ticket is.0 is.2, is.3)

stands_last : (taken : List Record) (note : Record) (t : ℕ) (past : Sent) (run : Option Run) → t ≡ length taken → MaySend past note run → StandsAs (taken ++ note ∷ []) (sent_with note t)
stands_last taken (records.Begun target) t past run e may = (target, ap (slice_get (taken ++ records.Begun target ∷ [])) e ∙ at-push_last taken (records.Begun target))
stands_last taken (records.Done target commands hidden explicit) t past run e may =
    let note : Record = records.Done target commands hidden explicit in
    (note, _, ap (slice_get (taken ++ note ∷ [])) e ∙ at-push_last taken note, refl)
stands_last taken (records.Failed target status) t past run e may =
    let note : Record = records.Failed target status in
    (note, _, ap (slice_get (taken ++ note ∷ [])) e ∙ at-push_last taken note, refl)
stands_last taken (records.Kept target entry) t past run e may = absurd may

-- what a submission leaves a node with fits Unflushed
pub fits_sent : (note : Record) (t : ℕ) (past : Sent) (run : Option Run) → MaySend past note run → Fits Unflushed (sent_with note t)
fits_sent (records.Begun target) t past run may = (t, refl)
fits_sent (records.Done target commands hidden explicit) t past run may = (t, refl)
fits_sent (records.Failed target status) t past run may = (t, refl)
fits_sent (records.Kept target entry) t past run may = absurd may

-- ---- a position

pub record Holds (g : Prerequisites) (p : Position) : Type 0 where
  pub edges : p.board.prerequisites ≡ g
  pub standing : IsStanding g (length g.counted) p.board.standing
  pub wait : WaitersWait g p.board.standing
  pub fit : AllFit (sent_by p.board) p.board.standing.lists
  pub listed : length p.board.sent ≡ length g.counted
  pub counted : p.board.submitted ≡ length p.taken
  pub stands : (n : ℕ) → StandsAs p.taken (sent_by p.board n)

-- ---- at first

no_lists : (past : ℕ → Sent) (l : SixLists) → ((n : ℕ) → past n ≡ sent.Nothing) → l.running ≡ [] → l.unflushed ≡ [] → l.flushing ≡ [] → AllFit past l
no_lists past l none r u f Waiting n there = none n
no_lists past l none r u f Ready n there = none n
no_lists past l none r u f Running n there = inl (none n)
no_lists past l none r u f Unflushed n there = absurd (true≢false (sym there ∙ ap (λ xs. has xs n) u))
no_lists past l none r u f Flushing n there = absurd (true≢false (sym there ∙ ap (λ xs. has xs n) f))
no_lists past l none r u f Settled n there = tt

nothing_sent : (k n : ℕ) → get_or (replicate k sent.Nothing) n sent.Nothing ≡ sent.Nothing
nothing_sent k n = ⊎_elim (λ lt. get_or-replicate k n sent.Nothing sent.Nothing lt)
    (λ le. get_or_past (replicate k sent.Nothing) n sent.Nothing (let l = length-replicate k sent.Nothing in omega arith)) (cases_lt n k)

lacks_something : (xs : List ℕ) → not (not (holds_any xs)) ≡ true → list_all (has []) xs ≡ false
lacks_something [] e = absurd (true≢false (sym e))
lacks_something (x ∷ xs) e = refl

waiters_first : (g : Prerequisites) → WaitersWait g (first_standing g)
waiters_first g n there =
    lacks_something (row g.counted n)
    (and_parts (not (is_ready_first g n)) (has (range_with_len 0 (length g.counted)) n)
    (sym (has-filter (λ m. not (is_ready_first g m)) (range_with_len 0 (length g.counted)) n) ∙ there)).0

pub holds_first : (form : Form) (g : Prerequisites) (names : List (List ℕ)) → Holds g (first_position form g names)
holds_first form g names = record {
  edges = refl;
  standing = standing_first g;
  wait = waiters_first g;
  fit = no_lists (λ n. get_or (replicate (length g.counted) sent.Nothing) n sent.Nothing) (first_standing g).lists (nothing_sent (length g.counted)) refl refl refl;
  listed = length-replicate (length g.counted) sent.Nothing;
  counted = refl;
  stands = λ n. subst (StandsAs []) (sym (nothing_sent (length g.counted) n)) tt;
}

-- ---- a move

-- who waits still does where nothing settles and nobody comes to Waiting
wait-moved : (g : Prerequisites) (s : Standing) (n : ℕ) (to : Stand) → same_stand to Waiting ≡ false → same_stand to Settled ≡ false → has s.lists.settled n ≡ false
    → WaitersWait g s → WaitersWait g (record s { lists = moved n to s.lists })
wait-moved g s n to not_waiting not_settled fresh wait u waits = sure (is_free g (record s { lists = moved n to s.lists }) u) refl
  where
    waited : has s.lists.waiting u ≡ true
    waited = ⊎_elim
        (λ (e : u ≡ n). absurd (true≢false (sym waits ∙ ap (has (moved n to s.lists).waiting) e ∙ has-moved_same n to s.lists Waiting ∙ not_waiting)))
        (λ ne. sym (has-moved_other u n to s.lists Waiting ne) ∙ waits) (cases_eq u n)

    was_settled : (m : ℕ) → has (moved n to s.lists).settled m ≡ true → has s.lists.settled m ≡ true
    was_settled m there = ⊎_elim
        (λ (e : m ≡ n). absurd (true≢false (sym there ∙ ap (has (moved n to s.lists).settled) e ∙ has-moved_same n to s.lists Settled ∙ not_settled)))
        (λ ne. sym (has-moved_other m n to s.lists Settled ne) ∙ there) (cases_eq m n)

    sure : (b : Bool) → is_free g (record s { lists = moved n to s.lists }) u ≡ b → b ≡ false
    sure true free = absurd (true≢false (sym (free_wider g (record s { lists = moved n to s.lists }) s u was_settled free) ∙ wait u waited))
    sure false free = refl

-- a node that is under way goes to another such list
module _ (g : Prerequisites) (p : Position) (holds : Holds g p) (n : ℕ) (from : Stand) (there : has (list_in p.board.standing.lists from) n ≡ true)
    (unsettled : code from ≢ 5) where
  in_nodes : n < length g.counted
  in_nodes = below_from_has (length g.counted) p.board.standing.lists holds.standing.each_once from n there

  fresh : has p.board.standing.lists.settled n ≡ false
  fresh = nowhere_else (length g.counted) p.board.standing.lists holds.standing.each_once from Settled n unsettled there

  -- it settles
  pub holds_settled : (q : Position) (end : End) → SettlesOn p.board n end q.board → q.taken ≡ p.taken → Holds g q
  holds_settled q end settles same =
      let on : Settles g n end p.board.standing q.board.standing
      = subst (λ (h : Prerequisites). Settles h n end p.board.standing q.board.standing) holds.edges settles.settles in
      let looked = settled_looked g (length g.counted) refl p.board.standing holds.standing n in_nodes fresh end q.board.standing holds.wait on in
      let sent_same : q.board.sent ≡ p.board.sent = ap (λ (b : Sheet). b.sent) settles.rest in
      record {
        edges = ap (λ (b : Sheet). b.prerequisites) settles.rest ∙ holds.edges;
        standing = looked.standing;
        wait = looked.wait;
        fit = subst (λ (xs : List Sent). AllFit (λ m. get_or xs m sent.Nothing) q.board.standing.lists) (sym sent_same)
            (fit-settled (sent_by p.board) g n end p.board.standing q.board.standing on holds.fit);
        listed = ap length sent_same ∙ holds.listed;
        counted = ap (λ (b : Sheet). b.submitted) settles.rest ∙ holds.counted ∙ sym (ap length same);
        stands = λ m. subst (λ (xs : List Sent). StandsAs q.taken (get_or xs m sent.Nothing)) (sym sent_same)
            (subst (λ (xs : List Record). StandsAs xs (sent_by p.board m)) (sym same) (holds.stands m));
      }

  -- it goes to Running, with what it has submitted
  pub holds_relisted : (q : Position) → is_free g p.board.standing n ≡ true → Fits Running (sent_by p.board n) → q.board ≡ relisted n Running p.board → q.taken ≡ p.taken → Holds g q
  holds_relisted q free fits e same =
      subst (Holds g) (λ i. record { board = sym e i; taken = sym same i }) now
    where
      now : Holds g (record { board = relisted n Running p.board; taken = p.taken })
      now = record {
        edges = holds.edges;
        standing = IsStanding-moved g (length g.counted) p.board.standing holds.standing n in_nodes Running fresh (λ h. absurd (omega arith)) free;
        wait = wait-moved g p.board.standing n Running refl refl fresh holds.wait;
        fit = fit-moved (sent_by p.board) (sent_by p.board) n Running p.board.standing.lists holds.fit (λ m ne. refl) fits;
        listed = holds.listed;
        counted = holds.counted;
        stands = holds.stands;
      }

  -- it submits a record
  pub holds_submitted : (q : Position) (note : Record) (run : Option Run) → is_free g p.board.standing n ≡ true → MaySend (sent_by p.board n) note run
      → q.board ≡ submits n note p.board → q.taken ≡ p.taken ++ note ∷ [] → Holds g q
  holds_submitted q note run free may e same =
      subst (Holds g) (λ i. record { board = sym e i; taken = sym same i }) now
    where
      its_own : sent_by (submits n note p.board) n ≡ sent_with note p.board.submitted
      its_own = get_or-set_same p.board.sent n (sent_with note p.board.submitted) sent.Nothing (let l = holds.listed in let lt = in_nodes in omega arith)

      others : (m : ℕ) → m ≢ n → sent_by (submits n note p.board) m ≡ sent_by p.board m
      others m ne = get_or-set_other p.board.sent n m (sent_with note p.board.submitted) sent.Nothing ne

      now : Holds g (record { board = submits n note p.board; taken = p.taken ++ note ∷ [] })
      now = record {
        edges = holds.edges;
        standing = IsStanding-moved g (length g.counted) p.board.standing holds.standing n in_nodes Unflushed fresh (λ h. absurd (omega arith)) free;
        wait = wait-moved g p.board.standing n Unflushed refl refl fresh holds.wait;
        fit = fit-moved (sent_by p.board) (sent_by (submits n note p.board)) n Unflushed p.board.standing.lists holds.fit others
            (subst (Fits Unflushed) (sym its_own) (fits_sent note p.board.submitted (sent_by p.board n) run may));
        listed = length-set p.board.sent n (sent_with note p.board.submitted) ∙ holds.listed;
        counted = (let l = length-append p.taken (note ∷ []) in let c = holds.counted in omega arith);
        stands = λ m. ⊎_elim
            (λ (e : m ≡ n). subst (λ k. StandsAs (p.taken ++ note ∷ []) (sent_by (submits n note p.board) k)) (sym e)
            (subst (StandsAs (p.taken ++ note ∷ [])) (sym its_own) (stands_last p.taken note p.board.submitted (sent_by p.board n) run holds.counted may)))
            (λ ne. subst (StandsAs (p.taken ++ note ∷ [])) (sym (others m ne)) (stands-push p.taken note (sent_by p.board m) (holds.stands m)))
            (cases_eq m n);
      }

-- all of Unflushed is drained
pub holds_drained : (g : Prerequisites) (p q : Position) → Holds g p → q.board ≡ drained p.board → q.taken ≡ p.taken → Holds g q
holds_drained g p q holds e same = subst (Holds g) (λ i. record { board = sym e i; taken = sym same i }) now
  where
    now : Holds g (record { board = drained p.board; taken = p.taken })
    now = record {
      edges = holds.edges;
      standing = IsStanding-joined g (length g.counted) p.board.standing holds.standing;
      wait = holds.wait;
      fit = fit-joined (sent_by p.board) p.board.standing.lists holds.fit;
      listed = holds.listed;
      counted = holds.counted;
      stands = holds.stands;
    }

-- ---- a receipt

no_ticket : (t : ℕ) → None ≡ Some t → ⊥
no_ticket t e = cc

same_ticket : (a b : ℕ) → Some a ≡ Some b → a ≡ b
same_ticket a b e = cc

same_note : (a b : Record) → Some a ≡ Some b → a ≡ b
same_note a b e = cc

no_end : (e : End) → None ≡ Some e → ⊥
no_end e h = cc

-- who goes on with the receipt of a 'begun' has submitted its 'begun' last
pub has_begun : (taken : List Record) (past : Sent) (ticket : ℕ) (noted : Record) → StandsAs taken past → last_ticket past ≡ Some ticket → slice_get taken ticket ≡ Some noted
    → end_noted noted ≡ None → Fits Running past
has_begun taken sent.Nothing ticket noted stands last told begun = absurd (no_ticket ticket last)
has_begun taken (sent.Begun t) ticket noted stands last told begun = inr (t, refl)
has_begun taken (sent.End t) ticket noted stands last told begun =
    let same : noted ≡ stands.0 = same_note noted stands.0 (sym told ∙ ap (slice_get taken) (sym (same_ticket t ticket last)) ∙ stands.2) in
    absurd (no_end stands.1 (sym begun ∙ ap end_noted same ∙ stands.3))

-- ---- so each move keeps it

first_of : (xs : List ℕ) (n : ℕ) → slice_get xs 0 ≡ Some n → has xs n ≡ true
first_of xs n e = has_from_place xs 0 n e

pub open_is_not_settled : (s : Stand) → is_open s ≡ true → code s ≢ 5
open_is_not_settled Waiting e = λ h. absurd (omega arith)
open_is_not_settled Ready e = λ h. absurd (omega arith)
open_is_not_settled Running e = λ h. absurd (omega arith)
open_is_not_settled Unflushed e = absurd (true≢false (sym e))
open_is_not_settled Flushing e = λ h. absurd (omega arith)
open_is_not_settled Settled e = absurd (true≢false (sym e))

pub holds_on : (g : Prerequisites) (p q : Position) (move : Move) → Holds g p → IsMove p move q → Holds g q
holds_on g p q claim holds made =
    let there = first_of p.board.standing.lists.ready made.0 made.1 in
    holds_relisted g p holds made.0 Ready there (λ h. absurd (omega arith)) q (holds.standing.free Ready made.0 refl there) (inl (holds.fit Ready made.0 there)) made.2 made.3
holds_on g p q (submit n note run) holds made =
    holds_submitted g p holds n Running made.0.runs (λ h. absurd (omega arith)) q note run (holds.standing.free Running n refl made.0.runs) made.0.kind made.1 made.2
holds_on g p q drain holds made = holds_drained g p q holds made.1 made.2
holds_on g p q (advance n ticket noted) holds made = by (end_noted noted) refl made.2.0 made.2.1
  where
    by : (e : Option End) → end_noted noted ≡ e → (a : Advanced ℕ) → Advances p.board n ticket e a q.board → Holds g q
    by None begun a goes =
        holds_relisted g p holds n Flushing made.0.flushing (λ h. absurd (omega arith)) q (holds.standing.free Flushing n refl made.0.flushing)
        (has_begun p.taken (sent_by p.board n) ticket noted (holds.stands n) made.0.last made.1 begun) goes.1 made.3
    by (Some end) begun a goes = holds_settled g p holds n Flushing made.0.flushing (λ h. absurd (omega arith)) q end goes.1 made.3
holds_on g p q (settle n end) holds made = holds_settled g p holds n Running made.0.runs (λ h. absurd (omega arith)) q end made.1 made.2
holds_on g p q (abandon n) holds made = holds_settled g p holds n made.0.0 made.0.2 (open_is_not_settled made.0.0 made.0.1) q Abandoned made.1 made.2

pub holds_behind : (g : Prerequisites) (moves : List Move) (p q : Position) → Holds g p → AreMoves p moves q → Holds g q
holds_behind g [] p q holds made = subst (Holds g) made holds
holds_behind g (move ∷ moves) p q holds made = holds_behind g moves made.0 q (holds_on g p made.0 move holds made.1) made.2
