-- What the moves of a board keep of its tables.
use Rattle.std.proofs.Common.{◌≡◌, ◌≢◌, ℕ, ◌+◌, ◌<◌, ◌≤◌, Bool, true, false, nat_eq, List, [], ◌∷◌, ◌++◌, length, filter, sum_by, set, get_or, refl, sym, ap, ◌∙◌, subst, arith, true≢false, get_or-set_same, get_or-set_other, Some, eq-eqb, ◌||◌, append-nil, length-append, length-set, vec_capacity}
use Rattle.std.proofs.lemmas.List.Sums.{sum_by-cons, sum_by-set}
use Rattle.mk_graph.specs.Edges.{has, times}
use Rattle.st_records.specs.Parts.{target_of}
use Rattle.st_records.specs.declared.record.Record.{Record}
use Rattle.st_records.specs.declared.record.Record.TheVariants as records
use Rattle.st_records.specs.declared.version.Form.{Form}
use Rattle.bd_places.specs.declared.end.End.{End}
use Rattle.bd_ledger.specs.declared.ledger.Ledger.TheInside.{Inside}
use Rattle.bd_ledger.specs.declared.sent.Sent.{Sent}
use Rattle.bd_ledger.specs.declared.sent.Sent.TheVariants as sent
use Rattle.bd_links.specs.declared.stand.Stand.{Stand}
use Rattle.bd_links.specs.declared.stand.Stand.TheVariants.{Waiting, Ready, Running, Unflushed, Flushing, Settled}
use Rattle.bd_ledger.specs.Ledger.{IsLedger}
use Rattle.bd_places.specs.Placed.{Placed, nodes_of, placed_in, IsOpen}
use Rattle.bd_places.specs.Settling.{Prerequisites, Standing, ended, gone_on, all_gone_on, is_doomed, can_go_on, users_of, looked_at, LooksOn, Settles, IsStanding}
use Rattle.bd_ledger.specs.Sheet.{AreDistinct, sent_count, sent_with, last_ticket, is_kept, IsWritableIn, AreWritableIn, AreOf}
use Rattle.bd_links.specs.SixLists.{SixLists, code, moved}
use Rattle.bd_links.proofs.ListLemmas.{without-none, apart}
use Rattle.bd_places.proofs.StandingLemmas.{nowhere_else, none_from_has, below_from_has, IsStanding-ended, IsEachOnce-moved}
use Rattle.bd_places.proofs.PlaceLemmas.{open_below, open_unsettled, open_flushed}
use Rattle.bd_places.proofs.SettleLemmas.{length_within, after_look, freed_apart}

-- ---- a node that isn't in Unflushed moves past it

pub unflushed-moved : (n : ℕ) (to : Stand) (l : SixLists) → code to ≢ 3 → has l.unflushed n ≡ false → (moved n to l).unflushed ≡ l.unflushed
unflushed-moved n Waiting l other none = append-nil _ ∙ without-none n l.unflushed (none_from_has l.unflushed n none)
unflushed-moved n Ready l other none = append-nil _ ∙ without-none n l.unflushed (none_from_has l.unflushed n none)
unflushed-moved n Running l other none = append-nil _ ∙ without-none n l.unflushed (none_from_has l.unflushed n none)
unflushed-moved n Unflushed l other none = absurd (other refl)
unflushed-moved n Flushing l other none = append-nil _ ∙ without-none n l.unflushed (none_from_has l.unflushed n none)
unflushed-moved n Settled l other none = append-nil _ ∙ without-none n l.unflushed (none_from_has l.unflushed n none)

pub put_ledger : (a : Inside) → IsLedger a → (n : ℕ) (to : Stand) → code to ≢ 3 → has a.places.standing.lists.unflushed n ≡ false
    → (places : Placed) → places ≡ placed_in n to a.places → IsLedger (record a { places = places })
put_ledger a is n to other none places e = subst (λ (p : Placed). IsLedger (record a { places = p })) (sym e) (record {
  names = is.names;
  distinct = is.distinct;
  sent = is.sent;
  own = subst (λ xs. AreOf a.names.items a.sent.items xs a.notes.items) (sym (unflushed-moved n to a.places.standing.lists other none)) is.own;
  notes = is.notes ∙ ap length (sym (unflushed-moved n to a.places.standing.lists other none));
  writable = is.writable;
  room = is.room;
  few = is.few;
  submitted = is.submitted;
  joins = is.joins;
})

-- ---- what settles with a node was in Waiting

all_gone_on_past : (d : ℕ → Bool) (xs : List ℕ) (s : Standing)
    → ((m : ℕ) → has xs m ≡ true → has s.lists.unflushed m ≡ false) → (all_gone_on d xs s).lists.unflushed ≡ s.lists.unflushed
all_gone_on_past d [] s apart_from = refl
all_gone_on_past d (x ∷ xs) s apart_from =
    all_gone_on_past d xs (gone_on (d x) x s) (λ m there. ap (λ ys. has ys m) here ∙ apart_from m (behind m there)) ∙ here
  where
    or_true : (b : Bool) → (b || true) ≡ true
    or_true true = refl
    or_true false = refl

    behind : (m : ℕ) → has xs m ≡ true → has (x ∷ xs) m ≡ true
    behind m there = ap (λ b. nat_eq m x || b) there ∙ or_true (nat_eq m x)

    by : (b : Bool) → has s.lists.unflushed x ≡ false → (gone_on b x s).lists.unflushed ≡ s.lists.unflushed
    by true none = unflushed-moved x Settled s.lists (λ e. absurd (omega arith)) none
    by false none = unflushed-moved x Ready s.lists (λ e. absurd (omega arith)) none

    here : (gone_on (d x) x s).lists.unflushed ≡ s.lists.unflushed
    here = by (d x) (apart_from x (ap (λ b. b || has xs x) (eq-eqb x x refl)))

module _ (g : Prerequisites) (nodes : ℕ) where
  -- a look keeps Unflushed, and that each node stands in one list
  looks_past : (k : ℕ) (s t : Standing) → IsStanding g nodes s → LooksOn g k s t → t.lists.unflushed ≡ s.lists.unflushed
  looks_past k s t is (LooksOn.all_looked e) = refl
  looks_past k s t is (LooksOn.looks n there on) =
      looks_past (k + 1) (looked_at g n s) t (after_look g nodes s is n).standing on
      ∙ all_gone_on_past (is_doomed g s) (filter (can_go_on g s) (users_of g n)) s
      (freed_apart g nodes s is n Unflushed (λ e. absurd (omega arith)))

  pub settles_past : (n : ℕ) (end : End) (s t : Standing) → IsStanding g nodes s → n < nodes → has s.lists.settled n ≡ false
      → has s.lists.unflushed n ≡ false → Settles g n end s t → t.lists.unflushed ≡ s.lists.unflushed
  settles_past n end s t is in_n fresh none settling =
      looks_past (length s.lists.settled) (ended n end s) t (IsStanding-ended g nodes s is n in_n end fresh) settling
      ∙ unflushed-moved n Settled s.lists (λ e. absurd (omega arith)) none

pub settle_ledger : (a : Inside) → IsLedger a → (n : ℕ) (end : End) → IsStanding a.places.prerequisites (nodes_of a.places) a.places.standing
    → IsOpen a.places.standing.lists n → (places : Placed) → places ≡ record a.places { standing = places.standing }
    → Settles a.places.prerequisites n end a.places.standing places.standing → IsLedger (record a { places = places })
settle_ledger a is n end standing open_ places e settles = subst (λ (p : Placed). IsLedger (record a { places = p })) (sym e) (record {
  names = is.names;
  distinct = is.distinct;
  sent = is.sent;
  own = subst (λ xs. AreOf a.names.items a.sent.items xs a.notes.items) (sym same) is.own;
  notes = is.notes ∙ ap length (sym same);
  writable = is.writable;
  room = is.room;
  few = is.few;
  submitted = is.submitted;
  joins = is.joins;
})
  where
    same : places.standing.lists.unflushed ≡ a.places.standing.lists.unflushed
    same =
        settles_past a.places.prerequisites (nodes_of a.places) n end a.places.standing places.standing standing
        (open_below (nodes_of a.places) a.places.standing.lists standing.each_once n open_)
        (open_unsettled (nodes_of a.places) a.places.standing.lists standing.each_once n open_)
        (open_flushed (nodes_of a.places) a.places.standing.lists standing.each_once n open_) settles

-- ---- a node submits a record

writable_more : (form : Form) (notes : List (ℕ × Record)) (n : ℕ × Record) → AreWritableIn form notes → IsWritableIn form n.1
    → AreWritableIn form (notes ++ n ∷ [])
writable_more form [] n all is = (is, tt)
writable_more form (m ∷ notes) n all is = (all.0, writable_more form notes n all.1 is)

own_more : (names : List (List ℕ)) (past : List Sent) (nodes : List ℕ) (notes : List (ℕ × Record)) (n : ℕ) (what : Sent) (note : ℕ × Record)
    → AreOf names past nodes notes → times n nodes ≡ 0 → n < length past → last_ticket what ≡ Some note.0 → target_of note.1 ≡ get_or names n []
    → AreOf names (set past n what) (nodes ++ n ∷ []) (notes ++ note ∷ [])
own_more names past [] [] n what note are none below ticket target = (ap last_ticket (get_or-set_same past n what sent.Nothing below) ∙ ticket, target, tt)
own_more names past [] (x ∷ notes) n what note are none below ticket target = absurd are
own_more names past (m ∷ nodes) [] n what note are none below ticket target = absurd are
own_more names past (m ∷ nodes) (x ∷ notes) n what note are none below ticket target =
    let h = apart n m nodes none in (
      ap last_ticket (get_or-set_other past n m what sent.Nothing (λ e. h.0 (sym e))) ∙ are.0,
      are.1,
      own_more names past nodes notes n what note are.2 h.1 below ticket target,
    )

-- a record that can be written has its ticket
pub ticket_of_sent : (note : Record) (ticket : ℕ) → is_kept note ≡ false → last_ticket (sent_with note ticket) ≡ Some ticket
ticket_of_sent (records.Begun target) ticket fresh = refl
ticket_of_sent (records.Done target commands hidden explicit) ticket fresh = refl
ticket_of_sent (records.Failed target status) ticket fresh = refl
ticket_of_sent (records.Kept target entry) ticket fresh = absurd (true≢false fresh)

count_at_most : (s : Sent) → sent_count s ≤ 2
count_at_most sent.Nothing = omega arith
count_at_most (sent.Begun ticket) = omega arith
count_at_most (sent.End ticket) = omega arith

counts_at_most : (xs : List Sent) → sum_by sent_count xs ≤ length xs + length xs
counts_at_most [] = omega arith
counts_at_most (x ∷ xs) = let rest = counts_at_most xs in let one = count_at_most x in let all = sum_by-cons sent_count x xs in omega arith

pub submitted_room : (a : Inside) → IsLedger a → a.submitted + 1 ≤ 0xFFFF_FFFF_FFFF_FFFF
submitted_room a is =
    let most = counts_at_most a.sent.items in let nodes = is.sent in let all = is.submitted in let few = is.few in omega arith

module _ (p : Placed) (is : IsStanding p.prerequisites (nodes_of p) p.standing) (n : ℕ) (runs : has p.standing.lists.running n ≡ true) where
  pub runs_below : n < nodes_of p
  runs_below = below_from_has (nodes_of p) p.standing.lists is.each_once Running n runs

  pub runs_past : has p.standing.lists.unflushed n ≡ false
  runs_past = nowhere_else (nodes_of p) p.standing.lists is.each_once Running Unflushed n (λ e. absurd (omega arith)) runs

  pub unflushed_more : (moved n Unflushed p.standing.lists).unflushed ≡ p.standing.lists.unflushed ++ n ∷ []
  unflushed_more = ap (λ xs. xs ++ n ∷ []) (without-none n p.standing.lists.unflushed (none_from_has p.standing.lists.unflushed n runs_past))

  pub one_more : length (moved n Unflushed p.standing.lists).unflushed ≡ length p.standing.lists.unflushed + 1
  one_more = ap length unflushed_more ∙ length-append p.standing.lists.unflushed (n ∷ [])

  pub unflushed_room : length p.standing.lists.unflushed < nodes_of p
  unflushed_room =
      let most = length_within (nodes_of p) (moved n Unflushed p.standing.lists) (IsEachOnce-moved (nodes_of p) p.standing.lists is.each_once n Unflushed runs_below) Unflushed in
      let more = one_more in
      omega arith

-- the invariant field by field, once the node has submitted
module _ (a : Inside) (is : IsLedger a) (standing : IsStanding a.places.prerequisites (nodes_of a.places) a.places.standing) (n : ℕ)
    (runs : has a.places.standing.lists.running n ≡ true) (next : Inside) (form : next.form ≡ a.form)
    (places : next.places ≡ placed_in n Unflushed a.places) (names : next.names ≡ a.names) (what : Sent)
    (sents : next.sent.items ≡ set a.sent.items n what) (turn : sent_count what ≡ sent_count (get_or a.sent.items n sent.Nothing) + 1)
    (ticket : ℕ) (note : Record) (notes : next.notes.items ≡ a.notes.items ++ (ticket, note) ∷ [])
    (last : last_ticket what ≡ Some ticket) (target : target_of note ≡ get_or a.names.items n []) (writable : IsWritableIn a.form note) (room : vec_capacity a.notes ≤ vec_capacity next.notes) (submitted : next.submitted ≡ a.submitted + 1) where
  nodes_same : nodes_of next.places ≡ nodes_of a.places
  nodes_same = ap nodes_of places

  now : next.places.standing.lists.unflushed ≡ a.places.standing.lists.unflushed ++ n ∷ []
  now = ap (λ (p : Placed). p.standing.lists.unflushed) places ∙ unflushed_more a.places standing n runs

  longer : length next.notes.items ≡ length a.notes.items + 1
  longer = ap length notes ∙ length-append a.notes.items ((ticket, note) ∷ [])

  pub submit_ledger : IsLedger next
  submit_ledger = record {
    names = ap (λ v. length v.items) names ∙ is.names ∙ sym nodes_same;
    distinct = subst (λ v. AreDistinct v.items) (sym names) is.distinct;
    sent = ap length sents ∙ length-set a.sent.items n what ∙ is.sent ∙ sym nodes_same;
    own = subst (λ xs. AreOf next.names.items next.sent.items xs next.notes.items) (sym now)
        (subst (λ v. AreOf v.items next.sent.items (a.places.standing.lists.unflushed ++ n ∷ []) next.notes.items) (sym names)
        (subst (λ xs. AreOf a.names.items xs (a.places.standing.lists.unflushed ++ n ∷ []) next.notes.items) (sym sents)
        (subst (AreOf a.names.items (set a.sent.items n what) (a.places.standing.lists.unflushed ++ n ∷ [])) (sym notes)
        (own_more a.names.items a.sent.items a.places.standing.lists.unflushed a.notes.items n what (ticket, note) is.own
        (none_from_has a.places.standing.lists.unflushed n (runs_past a.places standing n runs))
        (let below = runs_below a.places standing n runs in let l = is.sent in omega arith) last target))));
    notes = longer ∙ ap (λ k. k + 1) is.notes ∙ sym (one_more a.places standing n runs)
        ∙ ap (λ (p : Placed). length p.standing.lists.unflushed) (sym places);
    writable = subst (λ (f : Form). AreWritableIn f next.notes.items) (sym form)
        (subst (AreWritableIn a.form) (sym notes) (writable_more a.form a.notes.items (ticket, note) is.writable writable));
    room = let same = nodes_same in let enough = is.room in omega arith;
    few = subst (λ k. k + k < 0xFFFF_FFFF_FFFF_FFFF) (sym nodes_same) is.few;
    submitted =
        let changed = sum_by-set sent_count a.sent.items n what sent.Nothing (let below = runs_below a.places standing n runs in let l = is.sent in omega arith) in
        let was = is.submitted in
        let now = ap (sum_by sent_count) sents in
        omega arith;
    joins = let was = is.joins in let more = longer in let same : next.places.joins ≡ a.places.joins = ap (λ (p : Placed). p.joins) places in omega arith;
  }

-- ---- at first
