-- What a board has taken, told by what its nodes have submitted.
use Rattle.std.proofs.Common.{◌≡◌, ◌≢◌, ◌⊎◌, ℕ, zero, suc, ◌+◌, ◌<◌, replicate, List, [], ◌∷◌, ◌++◌, length, set, get_or, slice_get, Option, Some, None, refl, sym, ap, ◌∙◌, subst, inl, inr, ⊎_elim, arith, length-append, length-set, get_or-set_same, get_or-set_other}
use Rattle.std.proofs.lemmas.Bool.{cases_eq}
use Rattle.std.proofs.lemmas.List.{length-replicate, get_or-replicate}
use Rattle.st_records.specs.declared.record.Record.{Record}
use Rattle.st_records.specs.declared.record.Record.TheVariants as records
use Rattle.st_records.specs.Parts.{target_of}
use Rattle.st_records.specs.declared.version.Form.{Form}
use Rattle.bd_ledger.specs.declared.sent.Sent.{Sent}
use Rattle.bd_ledger.specs.declared.sent.Sent.TheVariants as sent
use Rattle.bd_ledger.specs.Sheet.{Sheet, nodes_on, name_of, sent_by, AreDistinct, sent_with}
use Rattle.bd_lists.specs.Admission.{Run, MaySend}
use Rattle.bd_lists.specs.Board.{IsTaken}
use Rattle.bd_lists.specs.InTurn.{HasTakenIn, none_yet, one_more, no_more, LackTarget, HaveOnlyBegun, IsInTurn}

-- ---- places in a list that has one more at its end

none_is : (x : Record) → None ≡ Some x → ⊥
none_is x e = cc

at-push : (xs : List Record) (y : Record) (k : ℕ) (x : Record) → slice_get xs k ≡ Some x → slice_get (xs ++ y ∷ []) k ≡ Some x
at-push [] y k x e = absurd (none_is x e)
at-push (z ∷ zs) y zero x e = e
at-push (z ∷ zs) y (suc k) x e = at-push zs y k x e

at-push_last : (xs : List Record) (y : Record) → slice_get (xs ++ y ∷ []) (length xs) ≡ Some y
at-push_last [] y = refl
at-push_last (z ∷ zs) y = at-push_last zs y

some_is : (x y : Record) → Some x ≡ Some y → x ≡ y
some_is x y e = cc

at-push_cases : (xs : List Record) (y : Record) (k : ℕ) (x : Record) → slice_get (xs ++ y ∷ []) k ≡ Some x
    → (slice_get xs k ≡ Some x) ⊎ ((k ≡ length xs) × (x ≡ y))
at-push_cases [] y zero x e = inr (refl, sym (some_is y x e))
at-push_cases [] y (suc k) x e = absurd (none_is x e)
at-push_cases (z ∷ zs) y zero x e = inl e
at-push_cases (z ∷ zs) y (suc k) x e = ⊎_elim (λ old. inl old) (λ new. inr (ap suc new.0, new.1)) (at-push_cases zs y k x e)

-- ---- what a node has submitted, and the places of its records

nothing_begun : (ticket : ℕ) → sent.Nothing ≡ sent.Begun ticket → ⊥
nothing_begun ticket e = cc

end_begun : (a ticket : ℕ) → sent.End a ≡ sent.Begun ticket → ⊥
end_begun a ticket e = cc

same_ticket : (a ticket : ℕ) → sent.Begun a ≡ sent.Begun ticket → a ≡ ticket
same_ticket a ticket e = cc

-- a node that has submitted so much may have a record at this place
abbrev pub MayStand : Sent → (place : ℕ) → Type 0
MayStand sent.Nothing place = ⊥
MayStand (sent.Begun ticket) place = place ≡ ticket
MayStand (sent.End ticket) place = Unit {0}

earlier_may : (note : Record) (run : Option Run) (past : Sent) (ticket place : ℕ) → MaySend past note run → MayStand past place
    → MayStand (sent_with note ticket) place
earlier_may (records.Begun target) run past ticket place may stands = absurd (subst (λ (s : Sent). MayStand s place) may.0 stands)
earlier_may (records.Done target commands hidden explicit) run past ticket place may stands = tt
earlier_may (records.Failed target status) run past ticket place may stands = tt
earlier_may (records.Kept target entry) run past ticket place may stands = absurd may

last_may : (note : Record) (run : Option Run) (past : Sent) (ticket : ℕ) → MaySend past note run → MayStand (sent_with note ticket) ticket
last_may (records.Begun target) run past ticket may = refl
last_may (records.Done target commands hidden explicit) run past ticket may = tt
last_may (records.Failed target status) run past ticket may = tt
last_may (records.Kept target entry) run past ticket may = absurd may

-- where a node's last record is a 'begun', so is this one, which it has just submitted
last_begun : (note : Record) (run : Option Run) (past : Sent) (last ticket : ℕ) (name : List ℕ) → MaySend past note run → target_of note ≡ name
    → sent_with note last ≡ sent.Begun ticket → (ticket ≡ last) × (note ≡ records.Begun name)
last_begun (records.Begun target) run past last ticket name may own e = (sym (same_ticket last ticket e), ap (λ (t : List ℕ). records.Begun t) own)
last_begun (records.Done target commands hidden explicit) run past last ticket name may own e = absurd (end_begun last ticket e)
last_begun (records.Failed target status) run past last ticket name may own e = absurd (end_begun last ticket e)
last_begun (records.Kept target entry) run past last ticket name may own e = absurd may

-- ---- the records of a board

-- the record at this place is of a node, which may have it there
record IsOfNode (names : List (List ℕ)) (past : List Sent) (place : ℕ) (note : Record) : Type 0 where
  node : ℕ
  within : node < length names
  own : target_of note ≡ get_or names node []
  stands : MayStand (get_or past node sent.Nothing) place

-- the records are of nodes with distinct names; and where a node has submitted a 'begun' alone, that stands at its ticket
record AreTaken (nodes : ℕ) (names : List (List ℕ)) (past : List Sent) (submitted : ℕ) (notes : List Record) : Type 0 where
  distinct : AreDistinct names
  named : length names ≡ nodes
  listed : length past ≡ nodes
  counted : length notes ≡ submitted
  of_nodes : (place : ℕ) (note : Record) → slice_get notes place ≡ Some note → IsOfNode names past place note
  begun : (n ticket : ℕ) → n < nodes → get_or past n sent.Nothing ≡ sent.Begun ticket
      → slice_get notes ticket ≡ Some (records.Begun (get_or names n []))

none_taken : (nodes : ℕ) (names : List (List ℕ)) → length names ≡ nodes → AreDistinct names
    → AreTaken nodes names (replicate nodes sent.Nothing) 0 []
none_taken nodes names long distinct = record {
  distinct = distinct;
  named = long;
  listed = length-replicate nodes sent.Nothing;
  counted = refl;
  of_nodes = λ place note at. absurd (none_is note at);
  begun = λ n ticket within e. absurd (nothing_begun ticket (sym (get_or-replicate nodes n sent.Nothing sent.Nothing within) ∙ e));
}

-- a node submits a record
module _ (nodes : ℕ) (names : List (List ℕ)) (past : List Sent) (submitted : ℕ) (notes : List Record) (are : AreTaken nodes names past submitted notes)
    (n : ℕ) (within : n < nodes) (note : Record) (run : Option Run) (own : target_of note ≡ get_or names n [])
    (may : MaySend (get_or past n sent.Nothing) note run) where
  abbrev sent_now : List Sent
  sent_now = set past n (sent_with note submitted)

  of_it : get_or sent_now n sent.Nothing ≡ sent_with note submitted
  of_it = get_or-set_same past n (sent_with note submitted) sent.Nothing (omega (arith, within, are.listed))

  of_others : (m : ℕ) → m ≢ n → get_or sent_now m sent.Nothing ≡ get_or past m sent.Nothing
  of_others m apart = get_or-set_other past n m (sent_with note submitted) sent.Nothing apart

  still_stands : (m place : ℕ) → MayStand (get_or past m sent.Nothing) place → MayStand (get_or sent_now m sent.Nothing) place
  still_stands m place stands = ⊎_elim its others (cases_eq m n)
    where
      its : m ≡ n → MayStand (get_or sent_now m sent.Nothing) place
      its e =
          let before : MayStand (get_or past n sent.Nothing) place = subst (λ (k : ℕ). MayStand (get_or past k sent.Nothing) place) e stands in
          subst (λ (k : ℕ). MayStand (get_or sent_now k sent.Nothing) place) (sym e)
          (subst (λ (s : Sent). MayStand s place) (sym of_it) (earlier_may note run (get_or past n sent.Nothing) submitted place may before))

      others : m ≢ n → MayStand (get_or sent_now m sent.Nothing) place
      others apart = subst (λ (s : Sent). MayStand s place) (sym (of_others m apart)) stands

  of_nodes_now : (place : ℕ) (x : Record) → slice_get (notes ++ note ∷ []) place ≡ Some x → IsOfNode names sent_now place x
  of_nodes_now place x at = ⊎_elim old new (at-push_cases notes note place x at)
    where
      old : slice_get notes place ≡ Some x → IsOfNode names sent_now place x
      old before =
          let of = are.of_nodes place x before in
          record { node = of.node; within = of.within; own = of.own; stands = still_stands of.node place of.stands }

      new : (place ≡ length notes) × (x ≡ note) → IsOfNode names sent_now place x
      new is = record {
        node = n;
        within = omega (arith, within, are.named);
        own = ap target_of is.1 ∙ own;
        stands = subst (λ (s : Sent). MayStand s place) (sym of_it)
            (subst (MayStand (sent_with note submitted)) (sym (is.0 ∙ are.counted)) (last_may note run (get_or past n sent.Nothing) submitted may));
      }

  begun_now : (m ticket : ℕ) → m < nodes → get_or sent_now m sent.Nothing ≡ sent.Begun ticket
      → slice_get (notes ++ note ∷ []) ticket ≡ Some (records.Begun (get_or names m []))
  begun_now m ticket there e = ⊎_elim its others (cases_eq m n)
    where
      its : m ≡ n → slice_get (notes ++ note ∷ []) ticket ≡ Some (records.Begun (get_or names m []))
      its same =
          let begun : sent_with note submitted ≡ sent.Begun ticket = sym of_it ∙ ap (λ (k : ℕ). get_or sent_now k sent.Nothing) (sym same) ∙ e in
          let is = last_begun note run (get_or past n sent.Nothing) submitted ticket (get_or names m []) may
          (own ∙ ap (λ (k : ℕ). get_or names k []) (sym same)) begun in
          ap (slice_get (notes ++ note ∷ [])) (is.0 ∙ sym are.counted) ∙ at-push_last notes note ∙ ap Some is.1

      others : m ≢ n → slice_get (notes ++ note ∷ []) ticket ≡ Some (records.Begun (get_or names m []))
      others apart = at-push notes note ticket (records.Begun (get_or names m [])) (are.begun m ticket there (sym (of_others m apart) ∙ e))

  one_more_taken : AreTaken nodes names sent_now (submitted + 1) (notes ++ note ∷ [])
  one_more_taken = record {
    distinct = are.distinct;
    named = are.named;
    listed = length-set past n (sent_with note submitted) ∙ are.listed;
    counted = length-append notes (note ∷ []) ∙ ap (λ k. k + 1) are.counted;
    of_nodes = of_nodes_now;
    begun = begun_now;
  }

-- so it is of each board
are_taken : (form : Form) (now : Sheet) (notes : List Record) → HasTakenIn form now notes → AreTaken (nodes_on now) now.names now.sent now.submitted notes
are_taken form now notes (none_yet g names long distinct e) =
    subst (λ (b : Sheet). AreTaken (nodes_on b) b.names b.sent b.submitted []) (sym e) (none_taken (length g.counted) names long distinct)
are_taken form now notes (one_more {before = before} {now = after} {notes = earlier} n note run taken is e) =
    subst (λ (b : Sheet). AreTaken (nodes_on b) b.names b.sent b.submitted (earlier ++ note ∷ [])) (sym e)
    (one_more_taken (nodes_on before) before.names before.sent before.submitted earlier (are_taken form before earlier taken) n is.within note run is.own is.kind)
are_taken form now notes (no_more {before = before} {now = after} {notes = same} taken e) =
    subst (λ (b : Sheet). AreTaken (nodes_on b) b.names b.sent b.submitted same) (sym e) (are_taken form before same taken)

-- ---- a record in its turn

module _ (nodes : ℕ) (names : List (List ℕ)) (past : List Sent) (submitted : ℕ) (notes : List Record) (are : AreTaken nodes names past submitted notes)
    (n : ℕ) (within : n < nodes) where
  -- of the node's target are its own records alone
  own_stands : (place : ℕ) (x : Record) → slice_get notes place ≡ Some x → target_of x ≡ get_or names n [] → MayStand (get_or past n sent.Nothing) place
  own_stands place x at same =
      let of = are.of_nodes place x at in
      let here : of.node ≡ n = are.distinct of.node n of.within (omega (arith, within, are.named)) (sym of.own ∙ same) in
      subst (λ (k : ℕ). MayStand (get_or past k sent.Nothing) place) here of.stands

  begun_in_turn : (target : List ℕ) → target ≡ get_or names n [] → get_or past n sent.Nothing ≡ sent.Nothing → LackTarget notes target
  begun_in_turn target own silent = λ place x at same. subst (λ (s : Sent). MayStand s place) silent (own_stands place x at (same ∙ own))

  end_in_turn : (target : List ℕ) (ticket : ℕ) → target ≡ get_or names n [] → get_or past n sent.Nothing ≡ sent.Begun ticket
      → HaveOnlyBegun notes target ticket
  end_in_turn target ticket own begun = record {
    begun = are.begun n ticket within begun ∙ ap (λ (t : List ℕ). Some (records.Begun t)) (sym own);
    only = λ place x at same. subst (λ (s : Sent). MayStand s place) begun (own_stands place x at (same ∙ own));
  }

pub in_turn : (form : Form) (b : Sheet) (notes : List Record) (n : ℕ) (note : Record) (run : Option Run) → HasTakenIn form b notes → IsTaken b n note run
    → IsInTurn notes note run
in_turn form b notes n note run taken is = by note run is.own is.kind
  where
    are : AreTaken (nodes_on b) b.names b.sent b.submitted notes
    are = are_taken form b notes taken

    by : (x : Record) (with_run : Option Run) → target_of x ≡ name_of b n → MaySend (sent_by b n) x with_run → IsInTurn notes x with_run
    by (records.Begun target) with_run own may = begun_in_turn (nodes_on b) b.names b.sent b.submitted notes are n is.within target own may.0
    by (records.Done target commands hidden explicit) None own may = absurd may.0
    by (records.Done target commands hidden explicit) (Some r) own may = end_in_turn (nodes_on b) b.names b.sent b.submitted notes are n is.within target r.ticket own may.0
    by (records.Failed target status) None own may = absurd may
    by (records.Failed target status) (Some r) own may = end_in_turn (nodes_on b) b.names b.sent b.submitted notes are n is.within target r.ticket own may
    by (records.Kept target entry) with_run own may = may
