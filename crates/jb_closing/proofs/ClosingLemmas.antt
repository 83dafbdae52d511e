-- From told records, receipts and the site's fact to what a report says.
use Rattle.std.proofs.Common.{◌≡◌, ℕ, suc, ◌+◌, ◌<◌, ◌≤◌, Bool, true, false, cond, not, nat_eq, List, [], ◌∷◌, length, map, filter, get_or, Option, Some, None, slice_get, MatchOption, is_some, IsTrue, ◌↔◌, inl, inr, refl, sym, ap, subst, ◌∙◌, ⊎_elim, arith}
use Rattle.std.specs.List.{Contains}
use Rattle.std.proofs.Math.Logic.{∥∥₁_map}
use Rattle.std.proofs.lemmas.Bool.{cases_lt}
use Rattle.std.proofs.lemmas.Option.{slice_get_cases, slice_get_within}
use Rattle.mk_names.specs.Names.{name_at}
use Rattle.st_disk.specs.Crash.{Sides}
use Rattle.st_records.specs.declared.version.Form.{Form}
use Rattle.st_records.specs.declared.record.Record.{Record}
use Rattle.st_records.specs.Parts.{commands_of}
use Rattle.st_state.specs.State.{StateMap, replay}
use Rattle.st_recovery.specs.Stored.{AllRecoverIn}
use Rattle.bd_places.specs.declared.end.End.{End}
use Rattle.bd_places.specs.declared.end.End.TheVariants.{Built}
use Rattle.bd_flusher.specs.declared.site.receipt.Receipt.{Receipt}
use Rattle.jb_closing.specs.Agreement.{noted_at, as_list, AreThoseOf}
use Rattle.jb_closing.specs.Last.{IsLast, IsLastPlace, ArePlaces, IsDoneRecord, EndsDone}
use Rattle.jb_closing.specs.Closing.{IsNamed, IsBuilt, IsDoneOnDisk, IsTrueOf, AreTrueOf, AllEndDone, LacksDone, LacksDoneAt}
use Rattle.jb_closing.proofs.LastLemmas.{last_done}

-- every pair recovers the state by what was told: so in each the target is done with its last record's commands
pub done_on_disk : (newest : Form) (opening : StateMap) (told : List Record) (sides : Sides) (name : List ℕ) (note : Record)
    → AllRecoverIn newest (replay opening told) sides → IsLast told name note → IsDoneRecord note → IsDoneOnDisk newest name (commands_of note) sides
done_on_disk newest opening told sides name note recovers last done = λ a b image_a image_b.
    ∥∥₁_map (recovers a b image_a image_b) (λ r. (replay opening told, r, last_done opening told name note last done))

-- a receipt of these that notes the record
abbrev pub Found : List Receipt → Record → Type 0
Found receipts note = (receipt : Receipt) × Contains receipts receipt × (receipt.noted ≡ note)

found_later : (r : Receipt) (receipts : List Receipt) (note : Record) → Found receipts note → Found (r ∷ receipts) note
found_later r receipts note found =
    let there = found.1 in
    (found.0, (suc there.0, omega (arith, there.1), there.2), found.2)

found_by : (b : Bool) (r : Receipt) (receipts : List Receipt) (ticket : ℕ) (note : Record)
    → (noted_at receipts ticket ≡ note ∷ [] → Found receipts note)
    → map (λ x. x.noted) (cond b (r ∷ filter (λ x. nat_eq x.ticket ticket) receipts) (filter (λ x. nat_eq x.ticket ticket) receipts)) ≡ note ∷ []
    → Found (r ∷ receipts) note
found_by true r receipts ticket note rest noted = (r, (0, omega arith, refl), ap (λ xs. get_or xs 0 note) noted)
found_by false r receipts ticket note rest noted = found_later r receipts note (rest noted)

-- a receipt notes what is noted under its ticket
pub receipt_of : (receipts : List Receipt) (ticket : ℕ) (note : Record) → noted_at receipts ticket ≡ note ∷ [] → Found receipts note
receipt_of [] ticket note noted = cc
receipt_of (r ∷ receipts) ticket note noted =
    found_by (nat_eq r.ticket ticket) r receipts ticket note (receipt_of receipts ticket note) noted

-- what a report says of one built node
pub true_of : (newest : Form) (opening : StateMap) (told : List Record) (receipts : List Receipt) (sound : Type 0) (sides : Sides) (name : List ℕ)
    → AreThoseOf told receipts → (sound → AllRecoverIn newest (replay opening told) sides) → EndsDone told name
    → IsTrueOf newest told receipts sound sides name
true_of newest opening told receipts sound sides name agree recovers ends =
    let note = ends.0 in
    let last = ends.1 in
    let found = receipt_of receipts last.0 note (agree last.0 ∙ ap as_list (last.1).stands) in
    record {
      note = note;
      last = last;
      done = ends.2;
      receipt = found.0;
      gathered = found.1;
      notes = found.2;
      on_disk = λ is_sound. done_on_disk newest opening told sides name note (recovers is_sound) last ends.2;
    }

-- and of all of them
pub all_true : (newest : Form) (opening : StateMap) (told : List Record) (receipts : List Receipt) (sound : Type 0) (sides : Sides)
    (names : List (List ℕ)) (ends : List End) → AreThoseOf told receipts → (sound → AllRecoverIn newest (replay opening told) sides)
    → AllEndDone told names ends → AreTrueOf newest told receipts sound sides names ends
all_true newest opening told receipts sound sides names ends agree recovers done = λ node built.
    let at = done node built in
    (at.0, at.1, true_of newest opening told receipts sound sides at.0 agree recovers at.2)

-- ---- which node lacks a 'done'

-- of the nodes before this number each built one ends with a 'done'
abbrev pub AllDoneBefore : (told : List Record) → (names : List (List ℕ)) → (ends : List End) → (from : ℕ) → Type 0
AllDoneBefore told names ends from =
    (node : ℕ) → node < from → IsBuilt ends node → (name : List ℕ) × IsNamed names node name × EndsDone told name

-- one node more, which isn't built or ends so
pub done_more : (told : List Record) (names : List (List ℕ)) (ends : List End) (from : ℕ) → AllDoneBefore told names ends from
    → (IsBuilt ends from → (from < length names) × EndsDone told (name_at names from)) → AllDoneBefore told names ends (from + 1)
done_more told names ends from before here = λ node within built.
    ⊎_elim (λ earlier. before node earlier built)
    (λ later.
    let same : from ≡ node = omega (arith, later, within) in
    subst (λ (n : ℕ). (name : List ℕ) × IsNamed names n name × EndsDone told name) same
    (let found = here (subst (IsBuilt ends) (sym same) built) in (name_at names from, (found.0, refl), found.1)))
    (cases_lt node from)

-- all of them
pub all_done : (told : List Record) (names : List (List ℕ)) (ends : List End) (from : ℕ) → length ends ≤ from
    → AllDoneBefore told names ends from → AllEndDone told names ends
all_done told names ends from all before = λ node built. before node (omega (arith, all, slice_get_within ends node Built built)) built

-- one that doesn't
pub lacks_at : (told : List Record) (names : List (List ℕ)) (ends : List End) (node : ℕ) → IsBuilt ends node
    → ((node < length names) × EndsDone told (name_at names node) → ⊥) → LacksDoneAt told names ends node
lacks_at told names ends node built not_done =
    (built, ⊎_elim (λ within. inr (name_at names node, (within, refl), (λ done. not_done (within, done)))) (λ past. inl past) (cases_lt node (length names)))

pub lacks_by : (b : Bool) (A : Type 0) → (IsTrue b ↔ A) → not b ≡ true → A → ⊥
lacks_by true A decides lacks done = cc
lacks_by false A decides lacks done = let yes : false ≡ true = decides.1 done in cc

pub done_by : (b : Bool) (A : Type 0) → (IsTrue b ↔ A) → not b ≡ false → A
done_by true A decides is = decides.0 refl
done_by false A decides is = cc

-- by a node's place
pub node_done : (told : List Record) (names : List (List ℕ)) (places : List (Option ℕ)) (node : ℕ) (place : Option ℕ) (b : Bool)
    → slice_get places node ≡ Some place → ((name : List ℕ) → IsLastPlace told name place → IsTrue b ↔ EndsDone told name)
    → ArePlaces told names places → IsTrue b ↔ ((node < length names) × EndsDone told (name_at names node))
node_done told names places node place b has decides are =
    let within : node < length names = omega (arith, slice_get_within places node place has, are.each_one) in
    let by = decides (name_at names node) (are.place node place has) in
    ((λ yes. (within, by.0 yes)), (λ both. by.1 both.1))

pub node_beyond : (told : List Record) (names : List (List ℕ)) (places : List (Option ℕ)) (node : ℕ) → slice_get places node ≡ None
    → ArePlaces told names places → (node < length names) × EndsDone told (name_at names node) → ⊥
node_beyond told names places node none are both =
    let some = slice_get_cases places node in
    ⊎_elim (λ there. let two : Some there.0 ≡ None = sym there.2 ∙ none in cc) (λ past. absurd (omega (arith, past.0, both.0, are.each_one))) some.1

-- ---- the refusal

pub lacks_some : (told : List Record) (names : List (List ℕ)) (ends : List End) (found : Option ℕ)
    → MatchOption found (AllEndDone told names ends) (λ node. LacksDoneAt told names ends node) → is_some found ≡ true → LacksDone told names ends
lacks_some told names ends None lacks some = cc
lacks_some told names ends (Some node) lacks some = (node, lacks)

pub lacks_none : (told : List Record) (names : List (List ℕ)) (ends : List End) (found : Option ℕ)
    → MatchOption found (AllEndDone told names ends) (λ node. LacksDoneAt told names ends node) → is_some found ≡ false → AllEndDone told names ends
lacks_none told names ends None all none = all
lacks_none told names ends (Some node) all none = cc
