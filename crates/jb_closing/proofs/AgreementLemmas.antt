-- Receipts taken in one by one, and what their marks come to.
use Rattle.std.proofs.Common.{◌≡◌, ◌≢◌, ℕ, zero, suc, ◌<◌, ◌≤◌, Bool, true, false, cond, nat_eq, List, [], ◌∷◌, ◌++◌, length, map, filter, set, length-set, Option, Some, None, slice_get, MatchOption, replicate, get_or, position, refl, sym, ap, subst, ◌∙◌, ⊎_elim, arith, eq-eqb, ne_eqb, lt-ltb}
use Rattle.std.proofs.lemmas.Bool.{cases_eq, cases_lt}
use Rattle.std.specs.List.{position_or_len}
use Rattle.std.proofs.lemmas.List.Quantifiers.{position-Some}
use Rattle.std.proofs.lemmas.List.{length-replicate, map-append, append_assoc, append-nil}
use Rattle.std.proofs.lemmas.List.Elements.{filter-append}
use Rattle.std.proofs.lemmas.List.Sums.{fails_before_first}
use Rattle.std.proofs.lemmas.Option.{slice_get_past, slice_get_within, same_Some}
use Rattle.st_records.specs.declared.record.Record.{Record}
use Rattle.bd_flusher.specs.declared.site.receipt.Receipt.{Receipt}
use Rattle.jb_closing.specs.declared.agreement.Mark.{Mark}
use Rattle.jb_closing.specs.declared.agreement.Mark.TheVariants.{Missing, Right, Wrong}
use Rattle.jb_closing.specs.Agreement.{noted_at, as_list, Agrees, AreThoseOf, IsFirstDifference, IsWrong, IsMark}
use Rattle.jb_closing.specs.Marking.{AreMarks, IsLeastBeyond, IsFirstUnmarked, is_unmarked}
use Rattle.jb_closing.proofs.ListLemmas.{at_set, at_set_other}

-- ---- one receipt more

pub noted-push : (receipts : List Receipt) (receipt : Receipt) (ticket : ℕ)
    → noted_at (receipts ++ receipt ∷ []) ticket ≡ noted_at receipts ticket ++ cond (nat_eq receipt.ticket ticket) (receipt.noted ∷ []) []
noted-push receipts receipt ticket =
    ap (map (λ r. r.noted)) (filter-append (λ r. nat_eq r.ticket ticket) receipts (receipt ∷ []))
    ∙ map-append (λ r. r.noted) (filter (λ r. nat_eq r.ticket ticket) receipts) (filter (λ r. nat_eq r.ticket ticket) (receipt ∷ []))
    ∙ ap (λ xs. noted_at receipts ticket ++ xs) (one (nat_eq receipt.ticket ticket) receipt)
  where
    one : (b : Bool) (r : Receipt) → map (λ r. r.noted) (cond b (r ∷ []) []) ≡ cond b (r.noted ∷ []) []
    one true r = refl
    one false r = refl

pub noted-own : (receipts : List Receipt) (receipt : Receipt)
    → noted_at (receipts ++ receipt ∷ []) receipt.ticket ≡ noted_at receipts receipt.ticket ++ receipt.noted ∷ []
noted-own receipts receipt =
    noted-push receipts receipt receipt.ticket
    ∙ ap (λ b. noted_at receipts receipt.ticket ++ cond b (receipt.noted ∷ []) []) (eq-eqb receipt.ticket receipt.ticket refl)

pub noted-other : (receipts : List Receipt) (receipt : Receipt) (ticket : ℕ) → receipt.ticket ≢ ticket
    → noted_at (receipts ++ receipt ∷ []) ticket ≡ noted_at receipts ticket
noted-other receipts receipt ticket apart =
    noted-push receipts receipt ticket
    ∙ ap (λ b. noted_at receipts ticket ++ cond b (receipt.noted ∷ []) []) (ne_eqb receipt.ticket ticket apart)
    ∙ append-nil (noted_at receipts ticket)

-- ---- marks

-- what isn't the told record alone, whatever follows, isn't it behind one more either
pub wrong_more : (told : Record) (noted : List Record) (note : Record) → IsWrong told noted → IsWrong told (noted ++ note ∷ [])
wrong_more told noted note wrong = λ more same. wrong (note ∷ more) (sym (append_assoc noted (note ∷ []) more) ∙ same)

-- a second receipt, or one of another record, makes a mark wrong
pub right_more : (told note : Record) → IsWrong told (told ∷ note ∷ [])
right_more told note = λ more same. cc

pub other_first : (told note : Record) → note ≢ told → IsWrong told (note ∷ [])
other_first told note apart = λ more same. absurd (apart (same_Some note told (ap (λ xs. slice_get xs 0) same)))

-- the first receipt decides where none was before
pub missing_then : (mark m : Mark) (told note : Record) (noted : List Record) → mark ≡ Missing → IsMark m told (note ∷ [])
    → IsMark mark told noted → IsMark m told (noted ++ note ∷ [])
missing_then mark m told note noted is first was =
    subst (λ (xs : List Record). IsMark m told (xs ++ note ∷ [])) (sym (subst (λ (k : Mark). IsMark k told noted) is was)) first

-- a further one makes the mark wrong
pub made_wrong : (mark : Mark) (told note : Record) (noted : List Record) → mark ≢ Missing
    → IsMark mark told noted → IsWrong told (noted ++ note ∷ [])
made_wrong Missing told note noted other is = absurd (other refl)
made_wrong Right told note noted other is = subst (λ (xs : List Record). IsWrong told (xs ++ note ∷ [])) (sym is) (right_more told note)
made_wrong Wrong told note noted other is = wrong_more told noted note is

-- ---- the first difference

-- a right mark: the receipts agree with told at its ticket; another mark: they don't
pub agrees_by_mark : (m : Mark) (told : Record) (noted : List Record) → IsMark m told noted → m ≡ Right → noted ≡ told ∷ []
agrees_by_mark Missing told noted is right = cc
agrees_by_mark Right told noted is right = is
agrees_by_mark Wrong told noted is right = cc

pub differs_by_mark : (m : Mark) (told : Record) (noted : List Record) → IsMark m told noted → (m ≡ Right → ⊥) → noted ≡ told ∷ [] → ⊥
differs_by_mark Missing told noted is other same = let none : told ∷ [] ≡ [] = sym same ∙ is in cc
differs_by_mark Right told noted is other same = other refl
differs_by_mark Wrong told noted is other same = is [] (append-nil noted ∙ same)

-- below told's length a ticket agrees where its mark is right
pub agrees_below : (told : List Record) (receipts : List Receipt) (marks : List Mark) (ticket : ℕ) → AreMarks told receipts marks
    → ticket < length told → slice_get marks ticket ≡ Some Right → Agrees told receipts ticket
agrees_below told receipts marks ticket are below right =
    let there = slice_get_at told ticket below in
    agrees_by_mark Right there.0 (noted_at receipts ticket) (are.mark ticket there.0 Right there.1 right) refl
    ∙ sym (ap as_list there.1)
  where
    slice_get_at : (xs : List Record) (i : ℕ) → i < length xs → (x : Record) × (slice_get xs i ≡ Some x)
    slice_get_at [] i lt = absurd (omega (arith, lt))
    slice_get_at (x ∷ xs) zero lt = (x, refl)
    slice_get_at (x ∷ xs) (suc i) lt = slice_get_at xs i (omega (arith, lt))

-- past told's length one does where no receipt has the ticket
pub agrees_beyond : (told : List Record) (receipts : List Receipt) (ticket : ℕ) → length told ≤ ticket → noted_at receipts ticket ≡ []
    → Agrees told receipts ticket
agrees_beyond told receipts ticket beyond none = none ∙ sym (ap as_list (slice_get_past told ticket beyond))

pub differs_beyond : (told : List Record) (receipts : List Receipt) (ticket : ℕ) → length told ≤ ticket
    → (noted_at receipts ticket ≡ [] → ⊥) → Agrees told receipts ticket → ⊥
differs_beyond told receipts ticket beyond some same = some (same ∙ ap as_list (slice_get_past told ticket beyond))

-- where all marks are right and no receipt lies beyond, the receipts are those of told
pub all_agree : (told : List Record) (receipts : List Receipt) (marks : List Mark) → AreMarks told receipts marks
    → IsFirstUnmarked marks None → IsLeastBeyond (length told) receipts None → AreThoseOf told receipts
all_agree told receipts marks are right beyond = λ ticket. ⊎_elim
    (λ below. agrees_below told receipts marks ticket are below (right ticket (omega (arith, below, are.each_one))))
    (λ past. agrees_beyond told receipts ticket past (beyond ticket past)) (cases_lt ticket (length told))

-- the first mark that isn't right is at the first difference
pub first_by_mark : (told : List Record) (receipts : List Receipt) (marks : List Mark) (ticket : ℕ) → AreMarks told receipts marks
    → IsFirstUnmarked marks (Some ticket) → IsFirstDifference told receipts ticket
first_by_mark told receipts marks ticket are found = record {
  differs = λ same. differs_here same;
  first = λ earlier before. agrees_below told receipts marks earlier are (omega (arith, before, found.0, are.each_one)) (found.2 earlier before);
}
  where
    below : ticket < length told
    below = omega (arith, found.0, are.each_one)

    mark_at : (xs : List Mark) (i : ℕ) → i < length xs → (x : Mark) × (slice_get xs i ≡ Some x)
    mark_at [] i lt = absurd (omega (arith, lt))
    mark_at (x ∷ xs) zero lt = (x, refl)
    mark_at (x ∷ xs) (suc i) lt = mark_at xs i (omega (arith, lt))

    note_at : (xs : List Record) (i : ℕ) → i < length xs → (x : Record) × (slice_get xs i ≡ Some x)
    note_at [] i lt = absurd (omega (arith, lt))
    note_at (x ∷ xs) zero lt = (x, refl)
    note_at (x ∷ xs) (suc i) lt = note_at xs i (omega (arith, lt))

    differs_here : Agrees told receipts ticket → ⊥
    differs_here same =
        let m = mark_at marks ticket found.0 in
        let t = note_at told ticket below in
        differs_by_mark m.0 t.0 (noted_at receipts ticket) (are.mark ticket t.0 m.0 t.1 m.1)
        (λ is_right. found.1 (m.1 ∙ ap Some is_right)) (same ∙ ap as_list t.1)

-- where all marks are right, the least ticket beyond is the first difference
pub first_beyond : (told : List Record) (receipts : List Receipt) (marks : List Mark) (ticket : ℕ) → AreMarks told receipts marks
    → IsFirstUnmarked marks None → IsLeastBeyond (length told) receipts (Some ticket) → IsFirstDifference told receipts ticket
first_beyond told receipts marks ticket are right beyond = record {
  differs = differs_beyond told receipts ticket beyond.0 beyond.1;
  first = λ earlier before. ⊎_elim
      (λ below. agrees_below told receipts marks earlier are below (right earlier (omega (arith, below, are.each_one))))
      (λ past. agrees_beyond told receipts earlier past (beyond.2 earlier past before)) (cases_lt earlier (length told));
}

-- ---- the loop's steps

-- before the first receipt all marks are missing
pub marks_first : (told : List Record) (marks : List Mark) → length marks ≡ length told
    → ((place : ℕ) (m : Mark) → slice_get marks place ≡ Some m → m ≡ Missing) → AreMarks told [] marks
marks_first told marks count missing = record {
  each_one = count;
  mark = λ ticket note m there has. subst (λ k. IsMark k note (noted_at [] ticket)) (sym (missing ticket m has)) refl;
}

-- no receipt beyond, and none before
pub beyond_first : (limit : ℕ) → IsLeastBeyond limit [] None
beyond_first limit ticket past = refl

-- one more receipt of a told ticket: its mark is set to what it is behind that receipt, and the others stay
pub marks-push : (told : List Record) (receipts : List Receipt) (receipt : Receipt) (marks : List Mark) (m : Mark) (note : Record)
    → AreMarks told receipts marks → slice_get told receipt.ticket ≡ Some note
    → IsMark m note (noted_at receipts receipt.ticket ++ receipt.noted ∷ [])
    → AreMarks told (receipts ++ receipt ∷ []) (set marks receipt.ticket m)
marks-push told receipts receipt marks m note are there new = record {
  each_one = length-set marks receipt.ticket m ∙ are.each_one;
  mark = λ ticket other k told_there has. ⊎_elim (same ticket other k told_there has) (apart ticket other k told_there has) (cases_eq receipt.ticket ticket);
}
  where
    below : receipt.ticket < length marks
    below = omega (arith, slice_get_within told receipt.ticket note there, are.each_one)

    same : (ticket : ℕ) (other : Record) (k : Mark) → slice_get told ticket ≡ Some other
        → slice_get (set marks receipt.ticket m) ticket ≡ Some k → receipt.ticket ≡ ticket
        → IsMark k other (noted_at (receipts ++ receipt ∷ []) ticket)
    same ticket other k told_there has e =
        let is_m : m ≡ k = same_Some m k (sym (at_set marks receipt.ticket m below) ∙ ap (λ t. slice_get (set marks receipt.ticket m) t) e ∙ has) in
        let is_note : note ≡ other = same_Some note other (sym there ∙ ap (slice_get told) e ∙ told_there) in
        subst (λ t. IsMark k other (noted_at (receipts ++ receipt ∷ []) t)) e
        (subst (λ xs. IsMark k other xs) (sym (noted-own receipts receipt))
        (subst (λ x. IsMark x other (noted_at receipts receipt.ticket ++ receipt.noted ∷ [])) is_m
        (subst (λ n. IsMark m n (noted_at receipts receipt.ticket ++ receipt.noted ∷ [])) is_note new)))

    apart : (ticket : ℕ) (other : Record) (k : Mark) → slice_get told ticket ≡ Some other
        → slice_get (set marks receipt.ticket m) ticket ≡ Some k → receipt.ticket ≢ ticket
        → IsMark k other (noted_at (receipts ++ receipt ∷ []) ticket)
    apart ticket other k told_there has ne =
        subst (λ xs. IsMark k other xs) (sym (noted-other receipts receipt ticket ne))
        (are.mark ticket other k told_there (sym (at_set_other marks receipt.ticket ticket m ne) ∙ has))

-- one more receipt beyond: the marks stay
pub marks-beyond : (told : List Record) (receipts : List Receipt) (receipt : Receipt) (marks : List Mark) → AreMarks told receipts marks
    → length told ≤ receipt.ticket → AreMarks told (receipts ++ receipt ∷ []) marks
marks-beyond told receipts receipt marks are beyond = record {
  each_one = are.each_one;
  mark = λ ticket note m there has.
      subst (λ xs. IsMark m note xs) (sym (noted-other receipts receipt ticket (λ e. omega (arith, e, beyond, slice_get_within told ticket note there))))
      (are.mark ticket note m there has);
}

-- the mark of a told record is set to what it is behind one receipt more
pub marks-set : (told : List Record) (receipts : List Receipt) (receipt : Receipt) (marks : List Mark) (old m : Mark) (note noted : Record)
    (ticket : ℕ) → ticket ≡ receipt.ticket → noted ≡ receipt.noted → slice_get told ticket ≡ Some note → slice_get marks ticket ≡ Some old
    → ((before : List Record) → IsMark old note before → IsMark m note (before ++ noted ∷ []))
    → AreMarks told receipts marks → AreMarks told (receipts ++ receipt ∷ []) (set marks ticket m)
marks-set told receipts receipt marks old m note noted ticket of_it notes there has marked are =
    subst (λ (t : ℕ). AreMarks told (receipts ++ receipt ∷ []) (set marks t m)) (sym of_it)
    (marks-push told receipts receipt marks m note are there_too
    (subst (λ (n : Record). IsMark m note (noted_at receipts receipt.ticket ++ n ∷ [])) notes
    (marked (noted_at receipts receipt.ticket) (are.mark receipt.ticket note old there_too (ap (slice_get marks) (sym of_it) ∙ has)))))
  where
    there_too : slice_get told receipt.ticket ≡ Some note
    there_too = ap (slice_get told) (sym of_it) ∙ there

-- marks that are all missing
pub missing_marks : (n place : ℕ) (m : Mark) → slice_get (replicate n Missing) place ≡ Some m → m ≡ Missing
missing_marks zero place m has = cc
missing_marks (suc n) zero m has = sym (same_Some Missing m has)
missing_marks (suc n) (suc place) m has = missing_marks n place m has

pub marks_at_first : (told : List Record) (marks : List Mark) → marks ≡ replicate (length told) Missing → AreMarks told [] marks
marks_at_first told marks are =
    marks_first told marks (ap length are ∙ length-replicate (length told) Missing)
    (λ place m has. missing_marks (length told) place m (ap (λ xs. slice_get xs place) (sym are) ∙ has))

-- ---- what the search for the first mark gives

unmarked_not : (m : Mark) → is_unmarked m ≡ true → m ≡ Right → ⊥
unmarked_not Missing not_right is = cc
unmarked_not Right not_right is = cc
unmarked_not Wrong not_right is = cc

marked_right : (m : Mark) → is_unmarked m ≡ false → m ≡ Right
marked_right Missing is = cc
marked_right Right is = refl
marked_right Wrong is = cc

at : (marks : List Mark) (place : ℕ) → place < length marks → slice_get marks place ≡ Some (get_or marks place Missing)
at [] place lt = absurd (omega (arith, lt))
at (m ∷ marks) zero lt = refl
at (m ∷ marks) (suc place) lt = at marks place (omega (arith, lt))

pub found_unmarked : (marks : List Mark) (found : ℕ) → position is_unmarked marks ≡ Some found → IsFirstUnmarked marks (Some found)
found_unmarked marks found is =
    let p = position-Some is_unmarked marks found Missing is in (
      p.0,
      (λ right. unmarked_not (get_or marks found Missing) p.1 (same_Some (get_or marks found Missing) Right (sym (at marks found p.0) ∙ right))),
      (λ place before. at marks place (omega (arith, before, p.0)) ∙ ap Some (marked_right (get_or marks place Missing) (p.2 place before))),
    )

pub none_unmarked : (marks : List Mark) → position is_unmarked marks ≡ None → IsFirstUnmarked marks None
none_unmarked marks none place lt =
    at marks place lt
    ∙ ap Some (marked_right (get_or marks place Missing) (fails_before_first is_unmarked marks place Missing (omega (arith, lt, long))))
  where
    some_first : position_or_len is_unmarked marks < length marks → ⊥
    some_first below =
        let some : Some (position_or_len is_unmarked marks) ≡ None =
        sym (ap (λ b. cond b (Some (position_or_len is_unmarked marks)) None) (lt-ltb (position_or_len is_unmarked marks) (length marks) below)) ∙ none in cc

    long : length marks ≤ position_or_len is_unmarked marks
    long = ⊎_elim (λ below. absurd (some_first below)) (λ past. past) (cases_lt (position_or_len is_unmarked marks) (length marks))

-- ---- what is answered

-- where all marks are right, the least ticket beyond decides
pub by_beyond : (told : List Record) (receipts : List Receipt) (marks : List Mark) (beyond : Option ℕ) → AreMarks told receipts marks
    → IsFirstUnmarked marks None → IsLeastBeyond (length told) receipts beyond
    → MatchOption beyond (AreThoseOf told receipts) (λ ticket. IsFirstDifference told receipts ticket)
by_beyond told receipts marks None are right beyond = all_agree told receipts marks are right beyond
by_beyond told receipts marks (Some ticket) are right beyond = first_beyond told receipts marks ticket are right beyond
