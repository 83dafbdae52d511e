-- The state: what is known of each target, and what a record makes of it.
use Rattle.std.specs.Prelude.{◌≡◌, ℕ, List, [], ◌∷◌, Option, None, Some, refl}
use Rattle.std.specs.Ordering.{nat_cmp}
use Rattle.std.specs.Cmp.Lexicographic.{slice_cmp}
use Rattle.std.specs.Coded.{Coded, code_by, coded×, coded_list, coded_ℕ, coded_option}
use Rattle.std.specs.FinMap as map
use Rattle.std.proofs.lemmas.Map.Lookups.{map_keys}
use Rattle.st_records.specs.declared.record.Phase.{Phase}
use Rattle.st_records.specs.declared.record.Phase.TheVariants as phases
use Rattle.st_records.specs.declared.record.Explicit.{Explicit}
use Rattle.st_records.specs.declared.record.Explicit.TheVariants.{Unknown, Known, Marked}
use Rattle.st_records.specs.declared.record.Entry.{Entry}
use Rattle.st_records.specs.declared.record.Record.{Record}
use Rattle.st_records.specs.declared.record.Record.TheVariants as records
pub use Rattle.st_unfinished.specs.Unfinished.{unfinished}

-- a finite map from names to entries, in byte order of the names (own)
abbrev pub StateMap : Type 0
StateMap = map.FinMap (slice_cmp nat_cmp) Entry

abbrev pub hidden_in : Option Entry → List (List ℕ)
hidden_in None = []
hidden_in (Some entry) = entry.hidden

-- the hidden names that a state has of a target: none of a new name
abbrev pub known_hidden : StateMap → List ℕ → List (List ℕ)
known_hidden m name = hidden_in (map.get m name)

-- the state after one more record, which sets its target's entry and leaves every other name (make(1S), .KEEP_STATE:
-- what the state remembers; own: a begun takes a done away, and the explicit names with it)
abbrev pub apply_record : StateMap → Record → StateMap
apply_record m (records.Begun target) = map.insert m target (unfinished phases.Begun (known_hidden m target))
apply_record m (records.Done target commands hidden explicit) =
    map.insert m target (record { phase = phases.Done; commands = commands; hidden = hidden; explicit = explicit })
apply_record m (records.Failed target status) =
    map.insert m target (unfinished (phases.Failed status) (known_hidden m target))
apply_record m (records.Kept target entry) = map.insert m target entry

-- a record that says all of its target's entry, strings among it
abbrev pub SetsEntry : Record → Type 0
SetsEntry (records.Begun target) = ⊥
SetsEntry (records.Done target commands hidden explicit) = Unit {0}
SetsEntry (records.Failed target status) = ⊥
SetsEntry (records.Kept target entry) = Unit {0}

-- the state after these records, taken in from the first to the last (own)
abbrev pub replay : StateMap → List Record → StateMap
replay m [] = m
replay m (r ∷ rs) = replay (apply_record m r) rs

-- the map of these entries, each name by its bytes; of two under one name the first counts
abbrev pub by_name : {K : Type 0} → (K → List ℕ) → List (K × Entry) → StateMap
by_name bytes_of es = map.from_entries (map_keys bytes_of es)

-- a phase as a number or none, so that the proofs can store it
abbrev pub phase_number : Phase → Option (Option ℕ)
phase_number phases.Begun = None
phase_number phases.Done = Some None
phase_number (phases.Failed status) = Some (Some status)

abbrev pub numbered_phase : Option (Option ℕ) → Phase
numbered_phase None = phases.Begun
numbered_phase (Some None) = phases.Done
numbered_phase (Some (Some status)) = phases.Failed status

pub numbered_phase-phase_number : (p : Phase) → numbered_phase (phase_number p) ≡ p
numbered_phase-phase_number phases.Begun = refl
numbered_phase-phase_number phases.Done = refl
numbered_phase-phase_number (phases.Failed status) = refl

-- explicit names, and their marks, as strings or none
abbrev pub known_names : Explicit → Option (List (List ℕ) × Option (List ℕ))
known_names Unknown = None
known_names (Known names) = Some (names, None)
known_names (Marked names marks) = Some (names, Some marks)

abbrev pub named_explicit : Option (List (List ℕ) × Option (List ℕ)) → Explicit
named_explicit None = Unknown
named_explicit (Some (names, None)) = Known names
named_explicit (Some (names, Some marks)) = Marked names marks

pub named_explicit-known_names : (e : Explicit) → named_explicit (known_names e) ≡ e
named_explicit-known_names Unknown = refl
named_explicit-known_names (Known names) = refl
named_explicit-known_names (Marked names marks) = refl

abbrev pub entry_code : Coded Entry
entry_code =
    code_by (Option (Option ℕ) × (List (List ℕ) × (List (List ℕ) × Option (List (List ℕ) × Option (List ℕ)))))
    (coded× (coded_option (coded_option coded_ℕ)) (coded× (coded_list (coded_list coded_ℕ)) (coded× (coded_list (coded_list coded_ℕ)) (coded_option (coded× (coded_list (coded_list coded_ℕ)) (coded_option (coded_list coded_ℕ)))))))
    (λ e. (phase_number e.phase, (e.commands, (e.hidden, known_names e.explicit))))
    (λ p. record { phase = numbered_phase p.0; commands = (p.1).0; hidden = ((p.1).1).0; explicit = named_explicit ((p.1).1).1 })
    (λ e i. record { phase = numbered_phase-phase_number e.phase i; commands = e.commands; hidden = e.hidden; explicit = named_explicit-known_names e.explicit i })

abbrev pub state_code : Coded StateMap
state_code = map.code (coded_list coded_ℕ) entry_code
