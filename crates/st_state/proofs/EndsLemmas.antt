-- What the first and last bytes of a state's names tell, as names are added.
use Rattle.std.proofs.Common.{◌≡◌, ◌∙◌, ℕ, List, Bool, true, false, cond, true≢false, Option, Some, None, Result, Ok, Err, OnOk, OnErr, refl, sym, ap, subst}
use Rattle.std.specs.FinMap as map
use Rattle.std.specs.FinMap.{get-insert}
use Rattle.std.specs.Ordering.{eq_by_cmp}
use Rattle.std.specs.Cmp.Lexicographic.{nat_list_cmp_total}
use Rattle.name_keys.specs.Ends.{may_have}
use Rattle.name_keys.specs.declared.ends.NameEnds.{NameEnds}
use Rattle.st_records.specs.declared.record.Entry.{Entry}
use Rattle.st_packed.specs.Event.{record_from}
use Rattle.st_packed.specs.declared.packed_record.Event.{Event}
use Rattle.st_packed.specs.declared.packed_record.Event.TheVariants.{Begun, Done, Failed, Kept}
use Rattle.st_state.specs.State.{StateMap, apply_record}
use Rattle.st_state.specs.Ends.{AreEndsOf}
use Rattle.st_state.proofs.StateLemmas.{by_bytes, same_bytes}

unmarked : (old new : Bool) → (old ≡ true → new ≡ true) → new ≡ false → old ≡ false
unmarked true new kept h = absurd (true≢false (sym (kept refl) ∙ h))
unmarked false new kept h = refl

-- more was marked
pub ends_marked : (old new : NameEnds) (m : StateMap) → ((name : List ℕ) → may_have old name ≡ true → may_have new name ≡ true) → AreEndsOf old m → AreEndsOf new m
ends_marked old new m kept are = λ name h. are name (unmarked (may_have old name) (may_have new name) (kept name) h)

other : (same : Bool) (x : Entry) (o : Option Entry) → (same ≡ true → ⊥) → o ≡ None → cond same (Some x) o ≡ None
other true x o apart none = absurd (apart refl)
other false x o apart none = none

-- a name that was marked is added
pub ends_inserted : (ends : NameEnds) (m : StateMap) (name : List ℕ) (entry : Entry) → may_have ends name ≡ true → AreEndsOf ends m → AreEndsOf ends (map.insert m name entry)
ends_inserted ends m name entry marked are = λ q h.
    get-insert nat_list_cmp_total m name entry q
    ∙ other (eq_by_cmp by_bytes q name) entry (map.get m q)
    (λ same. true≢false (sym marked ∙ ap (may_have ends) (sym (same_bytes q name same)) ∙ h)) (are q h)

-- a name that wasn't marked is added
pub ends_set : (old new : NameEnds) (before after : StateMap) (name : List ℕ) (entry : Entry) → ((other : List ℕ) → may_have old other ≡ true → may_have new other ≡ true)
    → may_have new name ≡ true → AreEndsOf old before → after ≡ map.insert before name entry → AreEndsOf new after
ends_set old new before after name entry kept marked are is =
    subst (AreEndsOf new) (sym is) (ends_inserted new before name entry marked (ends_marked old new before kept are))

-- a record is taken in whose target was marked
ends_applied : (ends : NameEnds) (m : StateMap) (name : List ℕ) (event : Event) → may_have ends name ≡ true → AreEndsOf ends m → AreEndsOf ends (apply_record m (record_from name event))
ends_applied ends m name Begun marked are = ends_inserted ends m name _ marked are
ends_applied ends m name (Done entry) marked are = ends_inserted ends m name _ marked are
ends_applied ends m name (Failed status) marked are = ends_inserted ends m name _ marked are
ends_applied ends m name (Kept entry) marked are = ends_inserted ends m name _ marked are

-- a record is taken in, or the state stays as it was
pub ends_taken : {T E : Type 0} (r : Result T E) (ends : NameEnds) (before after : StateMap) (name : List ℕ) (event : Event) → may_have ends name ≡ true → AreEndsOf ends before
    → OnOk r (after ≡ apply_record before (record_from name event)) → OnErr r (after ≡ before) → AreEndsOf ends after
ends_taken (Ok done) ends before after name event marked are ok err = subst (AreEndsOf ends) (sym ok) (ends_applied ends before name event marked are)
ends_taken (Err fault) ends before after name event marked are ok err = subst (AreEndsOf ends) (sym err) are
