-- Each entry that good records leave can be written as a good kept record, in their form or a later one.
use Rattle.std.proofs.Common.{◌≡◌, ◌∙◌, ℕ, ◌+◌, ◌<◌, ◌≤◌, inl, inr, true, false, cond, List, [], ◌∷◌, ◌++◌, length, Option, Some, None, refl, sym, ap, subst, arith}
use Rattle.std.specs.List.{flat_map, AllByRecursion, Any}
use Rattle.std.specs.declared.cmp.Ordering.{Ordering}
use Rattle.std.specs.declared.cmp.Ordering.TheVariants.{Less, Equal, Greater}
use Rattle.std.specs.Ordering.{is_eq, eq_by_cmp}
use Rattle.std.specs.Cmp.Lexicographic.{nat_list_cmp_total}
use Rattle.std.specs.FinMap as map
use Rattle.std.specs.FinMap.{get-insert, get-empty}
use Rattle.std.proofs.lemmas.Bool.{cases_lt}
use Rattle.std.proofs.lemmas.List.{length-append, append-nil, get_or_append_left}
use Rattle.st_records.specs.declared.version.Version.{Version}
use Rattle.st_records.specs.declared.version.Version.TheVariants.{One, Two}
use Rattle.st_records.specs.declared.version.Form.{Form}
use Rattle.st_records.specs.declared.version.Form.TheVariants as forms
use Rattle.st_records.specs.Forms.{form_of}
use Rattle.st_records.specs.declared.limits.RecordFault.TheVariants.{EmptyName, BadByte, TooLong, TooMany}
use Rattle.st_records.specs.declared.record.Phase.{Phase}
use Rattle.st_records.specs.declared.record.Phase.TheVariants as phases
use Rattle.st_records.specs.declared.record.Explicit.{Explicit}
use Rattle.st_records.specs.declared.record.Explicit.TheVariants.{Unknown, Known, Marked}
use Rattle.st_records.specs.declared.record.Entry.{Entry}
use Rattle.st_records.specs.declared.record.Record.{Record}
use Rattle.st_records.specs.declared.record.Record.TheVariants as records
use Rattle.st_records.specs.Parts.{names_of, names_known, commands_of, phase_status, IsUnmarked}
use Rattle.st_records.specs.Encoding.{string, strings, marked_fields, phase_fields, kept_explicit_in, entry_fields_in}
use Rattle.st_records.specs.Limits.{max_name_bytes_in, max_record_bytes_in, uncounted, counted_length_in, HasTooMany, SaysExplicitIn, IsWithinIn, IsGood, IsGoodIn}
use Rattle.st_state.specs.State.{StateMap, hidden_in, unfinished, apply_record, replay}
use Rattle.st_state.specs.Keepable.{CanBeKeptIn, AllCanBeKeptIn, AllCanBeKept, SaysAllOf}
use Rattle.st_state.proofs.StateLemmas.{by_bytes, by_bytes-exact}

-- ---- some element

any_within : (P Q : List ℕ → Type 0) → ((x : List ℕ) → P x → Q x) → (xs : List (List ℕ)) → Any P xs → Any Q xs
any_within P Q f xs h = (h.0, h.1, h.2, h.3, f h.1 h.4)

any_front : (P : List ℕ → Type 0) (xs ys : List (List ℕ)) → Any P xs → Any P (xs ++ ys)
any_front P xs ys h =
    (h.0, h.1, omega (arith, h.2, length-append xs ys), get_or_append_left xs ys h.1 h.0 h.2 ∙ h.3, h.4)

any_none : {A : Type 0} (P : List ℕ → Type 0) → Any P [] → A
any_none P h = absurd (omega (arith, h.2))

-- ---- the bytes that count

-- the bytes of explicit names and marks, without the one that says which are known
abbrev explicit_length : Explicit → ℕ
explicit_length Unknown = 0
explicit_length (Known names) = 4 + length (flat_map string names)
explicit_length (Marked names marks) = 8 + length (flat_map string names) + length marks

-- the bytes that count of a record with a target and lists
abbrev list_bytes : List ℕ → (commands hidden : List (List ℕ)) → Explicit → ℕ
list_bytes target commands hidden explicit =
    13 + length target + length (flat_map string commands) + length (flat_map string hidden) + explicit_length explicit

length-phase_fields : (p : Phase) → length (phase_fields p) ≡ 5
length-phase_fields phases.Begun = refl
length-phase_fields phases.Done = refl
length-phase_fields (phases.Failed status) = refl

length-marked_fields : (names : List (List ℕ)) (marks : List ℕ) → length (marked_fields names marks) ≡ 8 + length (flat_map string names) + length marks
length-marked_fields names marks = omega (arith, length-append (strings names) (string marks))

-- the bytes of a kept record that don't count are those of its phase, and the one that says which names and marks are known
length-kept_explicit : (form : Form) (target : List ℕ) (e : Entry) → SaysExplicitIn form (records.Kept target e) → length (kept_explicit_in form e.explicit) + 5 ≡ explicit_length e.explicit + uncounted form (records.Kept target e)
length-kept_explicit forms.Old target e says = omega (arith, ap explicit_length says)
length-kept_explicit forms.Plain target e says = by_plain e.explicit says
  where
    by_plain : (explicit : Explicit) → IsUnmarked explicit → length (kept_explicit_in forms.Plain explicit) + 5 ≡ explicit_length explicit + 6
    by_plain Unknown unmarked = refl
    by_plain (Known names) unmarked = omega arith
    by_plain (Marked names marks) unmarked = absurd unmarked
length-kept_explicit forms.Marked target e says = by_marked e.explicit
  where
    by_marked : (explicit : Explicit) → length (kept_explicit_in forms.Marked explicit) + 5 ≡ explicit_length explicit + 6
    by_marked Unknown = refl
    by_marked (Known names) = omega arith
    by_marked (Marked names marks) = omega (arith, length-marked_fields names marks)

length-lists : (commands hidden : List (List ℕ)) (last : List ℕ) → length (strings commands ++ (strings hidden ++ last)) ≡ 8 + length (flat_map string commands) + length (flat_map string hidden) + length last
length-lists commands hidden last =
    let after_commands = length-append (flat_map string commands) (strings hidden ++ last) in
    let after_hidden = length-append (flat_map string hidden) last in
    omega (arith, after_commands, after_hidden)

counted-kept : (form : Form) (target : List ℕ) (e : Entry) → SaysExplicitIn form (records.Kept target e) → counted_length_in form (records.Kept target e) ≡ list_bytes target e.commands e.hidden e.explicit
counted-kept form target e says =
    let lists = strings e.commands ++ (strings e.hidden ++ kept_explicit_in form e.explicit) in
    let after_target = length-append target (entry_fields_in form e) in
    let after_phase = length-append (phase_fields e.phase) lists in
    omega (arith, after_target, after_phase, length-phase_fields e.phase, length-lists e.commands e.hidden (kept_explicit_in form e.explicit), length-kept_explicit form target e says)

-- of a done record with marks the byte counts that says that they are known
counted-done : (form : Form) (target : List ℕ) (commands hidden : List (List ℕ)) (explicit : Explicit) → SaysExplicitIn form (records.Done target commands hidden explicit)
    → list_bytes target commands hidden explicit ≤ counted_length_in form (records.Done target commands hidden explicit)
counted-done forms.Old target commands hidden explicit says =
    let after_target = length-append target (strings commands ++ (strings hidden ++ [])) in
    omega (arith, after_target, length-lists commands hidden [], ap explicit_length says)
counted-done forms.Plain target commands hidden Unknown says = absurd says
counted-done forms.Plain target commands hidden (Known names) says =
    let after_target = length-append target (strings commands ++ (strings hidden ++ strings names)) in
    omega (arith, after_target, length-lists commands hidden (strings names))
counted-done forms.Plain target commands hidden (Marked names marks) says = absurd says
counted-done forms.Marked target commands hidden Unknown says = absurd says
counted-done forms.Marked target commands hidden (Known names) says = absurd says
counted-done forms.Marked target commands hidden (Marked names marks) says =
    let last = 2 ∷ marked_fields names marks in
    let after_target = length-append target (strings commands ++ (strings hidden ++ last)) in
    omega (arith, after_target, length-lists commands hidden last, length-marked_fields names marks)

-- ---- what a kept record can say of explicit names

itself_says : (form : Form) → SaysAllOf form form
itself_says forms.Old = tt
itself_says forms.Plain = tt
itself_says forms.Marked = tt

unmarked_unknown : {explicit : Explicit} → explicit ≡ Unknown → IsUnmarked explicit
unmarked_unknown is = subst IsUnmarked (sym is) tt

-- what a done record can say a kept one can
said_done : (written form : Form) → SaysAllOf written form → (target : List ℕ) (commands hidden : List (List ℕ)) (explicit : Explicit) → SaysExplicitIn form (records.Done target commands hidden explicit)
    → SaysExplicitIn written (records.Kept target (record { phase = phases.Done; commands = commands; hidden = hidden; explicit = explicit }))
said_done forms.Old forms.Old all target commands hidden explicit says = says
said_done forms.Old forms.Plain all target commands hidden explicit says = absurd all
said_done forms.Old forms.Marked all target commands hidden explicit says = absurd all
said_done forms.Plain forms.Old all target commands hidden explicit says = unmarked_unknown says
said_done forms.Plain forms.Plain all target commands hidden Unknown says = tt
said_done forms.Plain forms.Plain all target commands hidden (Known names) says = tt
said_done forms.Plain forms.Plain all target commands hidden (Marked names marks) says = absurd says
said_done forms.Plain forms.Marked all target commands hidden explicit says = absurd all
said_done forms.Marked form all target commands hidden explicit says = tt

-- and what a kept one can another can
said_kept : (written form : Form) → SaysAllOf written form → (target : List ℕ) (e : Entry) → SaysExplicitIn form (records.Kept target e) → SaysExplicitIn written (records.Kept target e)
said_kept forms.Old forms.Old all target e says = says
said_kept forms.Old forms.Plain all target e says = absurd all
said_kept forms.Old forms.Marked all target e says = absurd all
said_kept forms.Plain forms.Old all target e says = unmarked_unknown says
said_kept forms.Plain forms.Plain all target e says = says
said_kept forms.Plain forms.Marked all target e says = absurd all
said_kept forms.Marked form all target e says = tt

said_unfinished : (written : Form) (target : List ℕ) (phase : Phase) (hidden : List (List ℕ)) → SaysExplicitIn written (records.Kept target (unfinished phase hidden))
said_unfinished forms.Old target phase hidden = refl
said_unfinished forms.Plain target phase hidden = tt
said_unfinished forms.Marked target phase hidden = tt

-- ---- limits

name_limits : (written form : Form) → SaysAllOf written form → max_name_bytes_in form ≤ max_name_bytes_in written
name_limits forms.Old forms.Old all = omega arith
name_limits forms.Old forms.Plain all = absurd all
name_limits forms.Old forms.Marked all = absurd all
name_limits forms.Plain forms.Old all = omega arith
name_limits forms.Plain forms.Plain all = omega arith
name_limits forms.Plain forms.Marked all = absurd all
name_limits forms.Marked forms.Old all = omega arith
name_limits forms.Marked forms.Plain all = omega arith
name_limits forms.Marked forms.Marked all = omega arith

record_limits : (written form : Form) → SaysAllOf written form → max_record_bytes_in form ≤ max_record_bytes_in written
record_limits forms.Old forms.Old all = omega arith
record_limits forms.Old forms.Plain all = absurd all
record_limits forms.Old forms.Marked all = absurd all
record_limits forms.Plain forms.Old all = omega arith
record_limits forms.Plain forms.Plain all = omega arith
record_limits forms.Plain forms.Marked all = absurd all
record_limits forms.Marked forms.Old all = omega arith
record_limits forms.Marked forms.Plain all = omega arith
record_limits forms.Marked forms.Marked all = omega arith

-- a name fits into a record
name_in_record : (form : Form) → 13 + max_name_bytes_in form ≤ max_record_bytes_in form
name_in_record forms.Old = omega arith
name_in_record forms.Plain = omega arith
name_in_record forms.Marked = omega arith

counted_within : (form : Form) (r : Record) → IsWithinIn form r → counted_length_in form r ≤ max_record_bytes_in form
counted_within form r within =
    elim (cases_lt (max_record_bytes_in form) (counted_length_in form r)) [
      | inl long ↦ absurd (within TooLong (inr (inr long)))
      | inr le ↦ le
    ]

-- a record is within the limits of the form that is written where its names and commands are among those of a record within
-- the limits of its form, and it is not too long itself
within_by : (written form : Form) → SaysAllOf written form → (r k : Record) → IsWithinIn form r → ((P : List ℕ → Type 0) → Any P (names_of k) → Any P (names_of r)) → ((P : List ℕ → Type 0) → Any P (commands_of k) → Any P (commands_of r))
    → counted_length_in written k ≤ max_record_bytes_in written → (HasTooMany k → HasTooMany r) → IsWithinIn written k
within_by written form all r k within names commands short many EmptyName h = within EmptyName (names _ h)
within_by written form all r k within names commands short many BadByte (inl h) = within BadByte (inl (names _ h))
within_by written form all r k within names commands short many BadByte (inr h) = within BadByte (inr (commands _ h))
within_by written form all r k within names commands short many TooLong (inl h) =
    let longer : (name : List ℕ) → max_name_bytes_in written < length name → max_name_bytes_in form < length name = λ name long. omega (arith, long, name_limits written form all) in
    within TooLong (inl (any_within (λ name. max_name_bytes_in written < length name) (λ name. max_name_bytes_in form < length name) longer (names_of r) (names _ h)))
within_by written form all r k within names commands short many TooLong (inr (inl h)) = within TooLong (inr (inl (commands _ h)))
within_by written form all r k within names commands short many TooLong (inr (inr h)) = omega (arith, h, short)
within_by written form all r k within names commands short many TooMany h = within TooMany (many h)

-- ---- the entry of one record

kept_from_done : (written form : Form) → SaysAllOf written form → (target : List ℕ) (commands hidden : List (List ℕ)) (explicit : Explicit) → IsGoodIn form (records.Done target commands hidden explicit)
    → CanBeKeptIn written target (record { phase = phases.Done; commands = commands; hidden = hidden; explicit = explicit })
kept_from_done written form all target commands hidden explicit good =
    let r = records.Done target commands hidden explicit in
    let entry : Entry = record { phase = phases.Done; commands = commands; hidden = hidden; explicit = explicit } in
    let said = said_done written form all target commands hidden explicit good.explicit in
    let short : counted_length_in written (records.Kept target entry) ≤ max_record_bytes_in written =
    omega (arith, counted-kept written target entry said, counted-done form target commands hidden explicit good.explicit, counted_within form r good.within, record_limits written form all) in
    record {
      within = within_by written form all r (records.Kept target entry) good.within (λ P h. h) (λ P h. h) short (λ h. h);
      status = omega arith;
      explicit = said;
    }

kept_from_kept : (written form : Form) → SaysAllOf written form → (target : List ℕ) (e : Entry) → IsGoodIn form (records.Kept target e) → CanBeKeptIn written target e
kept_from_kept written form all target e good =
    let r = records.Kept target e in
    let said = said_kept written form all target e good.explicit in
    let short : counted_length_in written r ≤ max_record_bytes_in written =
    omega (arith, counted-kept written target e said, counted-kept form target e good.explicit, counted_within form r good.within, record_limits written form all) in
    record { within = within_by written form all r r good.within (λ P h. h) (λ P h. h) short (λ h. h); status = good.status; explicit = said }

-- a target whose recipe is not done, with the hidden names that were known of it
module _ (written form : Form) (all : SaysAllOf written form) (r : Record) (target : List ℕ) (phase : Phase) (within : IsWithinIn form r) (names : (P : List ℕ → Type 0) → Any P (target ∷ []) → Any P (names_of r)) (status : phase_status phase ≤ 256) where
  short_target : length target ≤ max_name_bytes_in written
  short_target =
      elim (cases_lt (max_name_bytes_in form) (length target)) [
        | inl long ↦ absurd (within TooLong (inl (names (λ name. max_name_bytes_in form < length name) (0, target, omega arith, refl, long))))
        | inr le ↦ omega (arith, le, name_limits written form all)
      ]

  none_too_many : HasTooMany (records.Kept target (unfinished phase [])) → HasTooMany r
  none_too_many (inl h) = absurd (omega (arith, h))
  none_too_many (inr (inl h)) = absurd (omega (arith, h))
  none_too_many (inr (inr h)) = absurd (omega (arith, h))

  some_too_many : (e : Entry) → HasTooMany (records.Kept target (unfinished phase e.hidden)) → HasTooMany (records.Kept target e)
  some_too_many e (inl h) = absurd (omega (arith, h))
  some_too_many e (inr (inl h)) = inr (inl h)
  some_too_many e (inr (inr h)) = absurd (omega (arith, h))

  kept_unfinished : (known : Option Entry) → ((e : Entry) → known ≡ Some e → CanBeKeptIn written target e) → CanBeKeptIn written target (unfinished phase (hidden_in known))
  kept_unfinished None old =
      let k = records.Kept target (unfinished phase []) in
      let said = said_unfinished written target phase [] in
      let short : counted_length_in written k ≤ max_record_bytes_in written = omega (arith, counted-kept written target (unfinished phase []) said, short_target, name_in_record written) in
      record { within = within_by written form all r k within names (λ P h. any_none P h) short none_too_many; status = status; explicit = said }
  kept_unfinished (Some e) old =
      let before = old e refl in
      let k = records.Kept target (unfinished phase e.hidden) in
      let said = said_unfinished written target phase e.hidden in
      let short : counted_length_in written k ≤ max_record_bytes_in written =
      omega (arith, counted-kept written target (unfinished phase e.hidden) said, counted-kept written target e before.explicit, counted_within written (records.Kept target e) before.within) in
      let longer : (P : List ℕ → Type 0) → Any P (target ∷ (e.hidden ++ [])) → Any P (names_of (records.Kept target e)) =
      λ P h. any_front P (target ∷ e.hidden) (names_known e.explicit) (subst (λ (l : List (List ℕ)). Any P (target ∷ l)) (append-nil e.hidden) h) in
      record {
        within = within_by written written (itself_says written) (records.Kept target e) k before.within longer (λ P h. any_none P h) short (some_too_many e);
        status = status;
        explicit = said;
      }

-- ---- the entries of a state

tied : (r : Ordering) → is_eq r ≡ true → r ≡ Equal
tied Less e = absurd cc
tied Equal e = refl
tied Greater e = absurd cc

same_entry : (e f : Entry) → Some e ≡ Some f → f ≡ e
same_entry e f is = cc

nothing_found : {A : Type 0} (e : Entry) → None ≡ Some e → A
nothing_found e is = absurd cc

pub kept_in_empty_in : (written : Form) → AllCanBeKeptIn written map.empty
kept_in_empty_in written target entry found = nothing_found entry (sym (get-empty by_bytes target) ∙ found)

kept_insert : (written : Form) (m : StateMap) (target : List ℕ) (entry : Entry) → AllCanBeKeptIn written m → CanBeKeptIn written target entry → AllCanBeKeptIn written (map.insert m target entry)
kept_insert written m target entry all one q e found =
    let at : Some e ≡ cond (eq_by_cmp by_bytes q target) (Some entry) (map.get m q) = sym found ∙ get-insert nat_list_cmp_total m target entry q in
    elim (eq_by_cmp by_bytes q target) as (λ b. eq_by_cmp by_bytes q target ≡ b → Some e ≡ cond b (Some entry) (map.get m q) → CanBeKeptIn written q e) [
      | true ↦ λ same is.
          let names : target ≡ q = sym (by_bytes-exact q target (tied _ same)) in
          subst (λ n. CanBeKeptIn written n e) names (subst (CanBeKeptIn written target) (same_entry e entry is) one)
      | false ↦ λ other is. all q e (sym is)
    ] refl at

pub kept_step_in : (written form : Form) → SaysAllOf written form → (m : StateMap) (r : Record) → AllCanBeKeptIn written m → IsGoodIn form r → AllCanBeKeptIn written (apply_record m r)
kept_step_in written form says m (records.Begun target) all good =
    kept_insert written m target _ all (kept_unfinished written form says (records.Begun target) target phases.Begun good.within (λ P h. h) (omega arith) (map.get m target) (all target))
kept_step_in written form says m (records.Done target commands hidden explicit) all good =
    kept_insert written m target _ all (kept_from_done written form says target commands hidden explicit good)
kept_step_in written form says m (records.Failed target status) all good =
    kept_insert written m target _ all (kept_unfinished written form says (records.Failed target status) target (phases.Failed status) good.within (λ P h. h) good.status (map.get m target) (all target))
kept_step_in written form says m (records.Kept target entry) all good =
    kept_insert written m target entry all (kept_from_kept written form says target entry good)

pub kept_replay_in : (written form : Form) → SaysAllOf written form → (m : StateMap) (rs : List Record) → AllCanBeKeptIn written m → AllByRecursion (IsGoodIn form) rs → AllCanBeKeptIn written (replay m rs)
kept_replay_in written form says m [] all good = all
kept_replay_in written form says m (r ∷ rs) all good = kept_replay_in written form says (apply_record m r) rs (kept_step_in written form says m r all good.0) good.1

-- ---- in a file of version 2

plain_says : (version : Version) → SaysAllOf forms.Plain (form_of version)
plain_says One = tt
plain_says Two = tt

pub kept_in_empty : AllCanBeKept map.empty
kept_in_empty = kept_in_empty_in forms.Plain

pub kept_step : (version : Version) (m : StateMap) (r : Record) → AllCanBeKept m → IsGood version r → AllCanBeKept (apply_record m r)
kept_step version = kept_step_in forms.Plain (form_of version) (plain_says version)

pub kept_replay : (version : Version) (m : StateMap) (rs : List Record) → AllCanBeKept m → AllByRecursion (IsGood version) rs → AllCanBeKept (replay m rs)
kept_replay version = kept_replay_in forms.Plain (form_of version) (plain_says version)
