-- The tests, one after the other, give the verdict.
use Rattle.std.proofs.Common.{◌≡◌, ◌∙◌, ℕ, ◌≤◌, inl, inr, ℤ, Bool, true, false, cond, List, Option, Some, None, refl, sym, ap, subst, arith}
use Rattle.std.specs.Prelude.{is_none, IsTrue, IsSomeAnd, slice_get, option_map, position}
use Rattle.std.specs.List.{list_any}
use Rattle.st_records.specs.declared.record.Entry.{Entry}
use Rattle.st_records.specs.declared.record.Phase.{Phase}
use Rattle.st_records.specs.declared.record.Phase.TheVariants as phase
use Rattle.st_records.specs.Parts.{names_recorded}
use Rattle.mk_verdict.specs.declared.verdict.Target.{Target}
use Rattle.mk_verdict.specs.declared.verdict.Reason.{Reason}
use Rattle.mk_verdict.specs.declared.verdict.Reason.TheVariants.{NoEntry, WasBegun, WasFailed, CommandsChanged, PrerequisitesChanged, Absent, TargetChanged, Newer, Changed, HiddenGone, Remade}
use Rattle.mk_verdict.specs.declared.verdict.Verdict.{Verdict}
use Rattle.mk_verdict.specs.declared.verdict.Verdict.TheVariants.{UpToDate, OutOfDate}
use Rattle.mk_verdict.specs.Marks.{mark_of, Differs}
use Rattle.mk_verdict.specs.Verdict.{rank, place, Precedes, HasOtherNames, Holds, IsNewer, IsGone, IsRemade, IsVerdict}
use Rattle.mk_verdict.specs.Tests.{same_strings, is_newer, is_changed, is_gone, is_replaced, counts_as_remade, phase_reason, explicit_reason, names_reason, changed_reason, recorded_reason, timed_reason, replaced_reason, present_reason, first_reason, gone_at, or_else}
use Rattle.mk_verdict.proofs.FirstLemmas.{reason_at, reason_at-rank, From, from_first, from_next, IsAnswer, found_at, none_left, IsLeast, step, least_position}
use Rattle.mk_verdict.proofs.MarkLemmas.{replaced_decides}
use Rattle.mk_verdict.proofs.ReasonLemmas.{strings_decide, is_newer-decides, is_changed-decides, is_gone-decides, counts_as_remade-decides}

zero_least : (i : ℕ) → 0 ≤ i
zero_least i = omega arith

apart : (b : Bool) → b ≡ true → b ≡ false → ⊥
apart b e f = cc

least_of_same : (P Q : ℕ → Type 0) → ((i : ℕ) → P i → Q i) → ((i : ℕ) → Q i → P i) → (found : Option ℕ) → IsLeast P found → IsLeast Q found
least_of_same P Q there back None least = λ i h. least i (back i h)
least_of_same P Q there back (Some i) least = (there i least.0, λ j h. least.1 j (back j h))

-- ---- files, and this run

alone : (H : Reason → Type 0) (answer : Option Reason) → IsAnswer H (or_else answer None) → IsAnswer H answer
alone H None h = h
alone H (Some r) h = h

remade_step : (keeping : Bool) (entry : Option Entry) (target : Target) → From (Holds keeping entry target) 11
    → IsAnswer (Holds keeping entry target) (option_map Remade (position (counts_as_remade target.orders_hidden) target.prerequisites.now))
remade_step keeping entry target from =
    alone (Holds keeping entry target) (option_map Remade (position (counts_as_remade target.orders_hidden) target.prerequisites.now))
    (step (Holds keeping entry target) 11 Remade (λ i. refl) (λ i. refl) (λ i. refl)
    (position (counts_as_remade target.orders_hidden) target.prerequisites.now) None from
    (least_position (counts_as_remade target.orders_hidden) (IsRemade target.orders_hidden) (counts_as_remade-decides target.orders_hidden) target.prerequisites.now)
    (none_left (Holds keeping entry target)))

no_keeping : false ≡ true → ⊥
no_keeping e = cc

gone_step : (keeping : Bool) (entry : Option Entry) (target : Target) → From (Holds keeping entry target) 10
    → IsAnswer (Holds keeping entry target) (or_else (option_map HiddenGone (gone_at keeping target.prerequisites.now))
    (option_map Remade (position (counts_as_remade target.orders_hidden) target.prerequisites.now)))
gone_step true entry target from =
    step (Holds true entry target) 10 HiddenGone (λ i. refl) (λ i. refl) (λ i. refl)
    (position is_gone target.prerequisites.now) (option_map Remade (position (counts_as_remade target.orders_hidden) target.prerequisites.now)) from
    (least_of_same (λ i. IsSomeAnd (slice_get target.prerequisites.now i) IsGone) (λ i. IsTrue true × IsSomeAnd (slice_get target.prerequisites.now i) IsGone)
    (λ i h. (refl, h)) (λ i h. h.1) (position is_gone target.prerequisites.now)
    (least_position is_gone IsGone is_gone-decides target.prerequisites.now))
    (remade_step true entry target)
gone_step false entry target from =
    remade_step false entry target (from_next (Holds false entry target) 10 from (λ i h. no_keeping h.0))

changed_step : (keeping : Bool) (entry : Option Entry) (target : Target) → From (Holds keeping entry target) 9
    → IsAnswer (Holds keeping entry target) (or_else (option_map Changed (position (is_changed keeping) target.prerequisites.now))
    (or_else (option_map HiddenGone (gone_at keeping target.prerequisites.now))
    (option_map Remade (position (counts_as_remade target.orders_hidden) target.prerequisites.now))))
changed_step keeping entry target from =
    step (Holds keeping entry target) 9 Changed (λ i. refl) (λ i. refl) (λ i. refl)
    (position (is_changed keeping) target.prerequisites.now)
    (or_else (option_map HiddenGone (gone_at keeping target.prerequisites.now)) (option_map Remade (position (counts_as_remade target.orders_hidden) target.prerequisites.now)))
    from
    (least_position (is_changed keeping) (λ p. Differs (mark_of keeping p.mark) p.look) (is_changed-decides keeping) target.prerequisites.now)
    (gone_step keeping entry target)

newer_step : (keeping : Bool) (entry : Option Entry) (target : Target) → From (Holds keeping entry target) 8
    → IsAnswer (Holds keeping entry target) (timed_reason keeping target)
newer_step keeping entry target from =
    step (Holds keeping entry target) 8 Newer (λ i. refl) (λ i. refl) (λ i. refl)
    (position (is_newer keeping target.stamp) target.prerequisites.now)
    (or_else (option_map Changed (position (is_changed keeping) target.prerequisites.now))
    (or_else (option_map HiddenGone (gone_at keeping target.prerequisites.now)) (option_map Remade (position (counts_as_remade target.orders_hidden) target.prerequisites.now))))
    from
    (least_position (is_newer keeping target.stamp) (IsNewer keeping target.stamp) (is_newer-decides keeping target.stamp) target.prerequisites.now)
    (changed_step keeping entry target)

replaced_by : (keeping : Bool) (entry : Option Entry) (target : Target) (replaced : Bool) → list_any (is_replaced keeping) target.files.now ≡ replaced
    → From (Holds keeping entry target) 7 → IsAnswer (Holds keeping entry target) (cond replaced (Some TargetChanged) (timed_reason keeping target))
replaced_by keeping entry target true e from =
    found_at (Holds keeping entry target) 7 TargetChanged from refl ((replaced_decides keeping target.files.now).0 e) (λ i h. zero_least i)
replaced_by keeping entry target false e from =
    newer_step keeping entry target (from_next (Holds keeping entry target) 7 from
    (λ i h. apart (list_any (is_replaced keeping) target.files.now) ((replaced_decides keeping target.files.now).1 h) e))

replaced_step : (keeping : Bool) (entry : Option Entry) (target : Target) → From (Holds keeping entry target) 7
    → IsAnswer (Holds keeping entry target) (replaced_reason keeping target)
replaced_step keeping entry target from = replaced_by keeping entry target (list_any (is_replaced keeping) target.files.now) refl from

some_time : (t : ℤ) → Some t ≡ None → ⊥
some_time t e = cc

stamp_step : (keeping : Bool) (entry : Option Entry) (target : Target) (s : Option ℤ) → target.stamp ≡ s → From (Holds keeping entry target) 6
    → IsAnswer (Holds keeping entry target) (cond (is_none s) (Some Absent) (replaced_reason keeping target))
stamp_step keeping entry target None e from = found_at (Holds keeping entry target) 6 Absent from refl e (λ i h. zero_least i)
stamp_step keeping entry target (Some t) e from =
    replaced_step keeping entry target (from_next (Holds keeping entry target) 6 from (λ i h. some_time t (sym e ∙ h)))

present_step : (keeping : Bool) (entry : Option Entry) (target : Target) → From (Holds keeping entry target) 6
    → IsAnswer (Holds keeping entry target) (present_reason keeping target)
present_step keeping entry target from = stamp_step keeping entry target target.stamp refl from

-- what was found of each kind gives the reason
pub timed_is : (keeping : Bool) (target : Target) (newer changed gone remade : Option ℕ) → newer ≡ position (is_newer keeping target.stamp) target.prerequisites.now
    → changed ≡ position (is_changed keeping) target.prerequisites.now
    → gone ≡ gone_at keeping target.prerequisites.now → remade ≡ position (counts_as_remade target.orders_hidden) target.prerequisites.now
    → or_else (option_map Newer newer) (or_else (option_map Changed changed) (or_else (option_map HiddenGone gone) (option_map Remade remade))) ≡ timed_reason keeping target
timed_is keeping target newer changed gone remade h c k l = rw (h, c, k, l) refl

-- ---- the state

-- what is known so far, of a target that has an entry
abbrev Kept : Entry → Target → Reason → Type 0
Kept entry target = Holds true (Some entry) target

none_some : (names : List (List ℕ)) → None ≡ Some names → ⊥
none_some names e = cc

known_is : (a b : List (List ℕ)) → Some a ≡ Some b → a ≡ b
known_is a b e = cc

known_step : (entry : Entry) (target : Target) (names : List (List ℕ)) (same : Bool) → target.source_changed ≡ false
    → names_recorded entry.explicit ≡ Some names → same_strings names target.explicit.now ≡ same
    → From (Kept entry target) 5 → (rest : Option Reason) → (From (Kept entry target) 6 → IsAnswer (Kept entry target) rest)
    → IsAnswer (Kept entry target) (or_else (cond same None (Some PrerequisitesChanged)) rest)
known_step entry target names true source known e from rest more =
    more (from_next (Kept entry target) 5 from (λ i (kept, h). others_none h))
  where
    others_none : HasOtherNames target entry → ⊥
    others_none (inl changed) = apart target.source_changed changed source
    others_none (inr (others, is, differ)) = differ (known_is others names (sym is ∙ known) ∙ (strings_decide names target.explicit.now).0 e)
known_step entry target names false source known e from rest more =
    found_at (Kept entry target) 5 PrerequisitesChanged from refl
    (refl, inr (names, known, λ h. apart (same_strings names target.explicit.now) ((strings_decide names target.explicit.now).1 h) e))
    (λ i h. zero_least i)

explicit_step : (entry : Entry) (target : Target) (x : Option (List (List ℕ))) → target.source_changed ≡ false → names_recorded entry.explicit ≡ x
    → From (Kept entry target) 5 → (rest : Option Reason) → (From (Kept entry target) 6 → IsAnswer (Kept entry target) rest)
    → IsAnswer (Kept entry target) (or_else (explicit_reason x target.explicit.now) rest)
explicit_step entry target None source known from rest more =
    more (from_next (Kept entry target) 5 from (λ i (kept, h). others_none h))
  where
    others_none : HasOtherNames target entry → ⊥
    others_none (inl changed) = apart target.source_changed changed source
    others_none (inr (others, is, differ)) = none_some others (sym known ∙ is)
explicit_step entry target (Some names) source known from rest more =
    known_step entry target names (same_strings names target.explicit.now) source known refl from rest more

names_step : (entry : Entry) (target : Target) (changed : Bool) → target.source_changed ≡ changed
    → From (Kept entry target) 5 → (rest : Option Reason) → (From (Kept entry target) 6 → IsAnswer (Kept entry target) rest)
    → IsAnswer (Kept entry target) (or_else (cond changed (Some PrerequisitesChanged) (explicit_reason (names_recorded entry.explicit) target.explicit.now)) rest)
names_step entry target true source from rest more =
    found_at (Kept entry target) 5 PrerequisitesChanged from refl (refl, inl source) (λ i h. zero_least i)
names_step entry target false source from rest more = explicit_step entry target (names_recorded entry.explicit) source refl from rest more

commands_step : (entry : Entry) (target : Target) (same : Bool) → same_strings entry.commands target.commands.now ≡ same
    → From (Kept entry target) 4 → (rest : Option Reason) → (From (Kept entry target) 6 → IsAnswer (Kept entry target) rest)
    → IsAnswer (Kept entry target) (or_else (cond same (names_reason entry target) (Some CommandsChanged)) rest)
commands_step entry target true e from rest more =
    names_step entry target target.source_changed refl
    (from_next (Kept entry target) 4 from (λ i h. h.1 ((strings_decide entry.commands target.commands.now).0 e))) rest more
commands_step entry target false e from rest more =
    found_at (Kept entry target) 4 CommandsChanged from refl
    (refl, λ h. apart (same_strings entry.commands target.commands.now) ((strings_decide entry.commands target.commands.now).1 h) e)
    (λ i h. zero_least i)

done_begun : phase.Done ≡ phase.Begun → ⊥
done_begun e = cc

done_failed : (status : ℕ) → phase.Done ≡ phase.Failed status → ⊥
done_failed status e = cc

failed_begun : (status : ℕ) → phase.Failed status ≡ phase.Begun → ⊥
failed_begun status e = cc

phase_step : (entry : Entry) (target : Target) (ph : Phase) → entry.phase ≡ ph
    → From (Kept entry target) 2 → (rest : Option Reason) → (From (Kept entry target) 6 → IsAnswer (Kept entry target) rest)
    → IsAnswer (Kept entry target) (or_else (or_else (phase_reason ph) (changed_reason entry target)) rest)
phase_step entry target phase.Begun e from rest more =
    found_at (Kept entry target) 2 WasBegun from refl (refl, e) (λ i h. zero_least i)
phase_step entry target phase.Done e from rest more =
    let begun = from_next (Kept entry target) 2 from (λ i h. done_begun (sym e ∙ h.1)) in
    let failed = from_next (Kept entry target) 3 begun (λ i (kept, (status, is)). done_failed status (sym e ∙ is)) in
    commands_step entry target (same_strings entry.commands target.commands.now) refl failed rest more
phase_step entry target (phase.Failed status) e from rest more =
    found_at (Kept entry target) 3 WasFailed (from_next (Kept entry target) 2 from (λ i h. failed_begun status (sym e ∙ h.1))) refl
    (refl, (status, e)) (λ i h. zero_least i)

some_entry : (e : Entry) → Some e ≡ None → ⊥
some_entry e h = cc

recorded_step : (entry : Option Entry) (target : Target) (rest : Option Reason)
    → (From (Holds true entry target) 6 → IsAnswer (Holds true entry target) rest) → IsAnswer (Holds true entry target) (or_else (recorded_reason entry target) rest)
recorded_step None target rest more =
    found_at (Holds true None target) 1 NoEntry (from_first (Holds true None target)) refl (refl, refl) (λ i h. zero_least i)
recorded_step (Some entry) target rest more =
    phase_step entry target entry.phase refl
    (from_next (Kept entry target) 1 (from_first (Kept entry target)) (λ i h. some_entry entry h.1)) rest more

-- ---- all of it

-- without keeping no reason that the state gives holds
without_keeping : (entry : Option Entry) (target : Target) → From (Holds false entry target) 6
without_keeping entry target =
    let H : Reason → Type 0 = Holds false entry target in
    let one = from_next H 1 (from_first H) (λ i h. no_keeping h.0) in
    let two = from_next H 2 one (λ i h. no_keeping h.0) in
    let three = from_next H 3 two (λ i h. no_keeping h.0) in
    let four = from_next H 4 three (λ i h. no_keeping h.0) in
    from_next H 5 four (λ i h. no_keeping h.0)

-- the tests give the first reason that holds, if one does
pub answered : (keeping : Bool) (entry : Option Entry) (target : Target) → IsAnswer (Holds keeping entry target) (first_reason keeping entry target)
answered true entry target = recorded_step entry target (present_reason true target) (present_step true entry target)
answered false entry target = present_step false entry target (without_keeping entry target)

-- the verdict with this reason, or with none
abbrev pub verdict_of : Option Reason → Verdict
verdict_of None = UpToDate
verdict_of (Some reason) = OutOfDate reason

verdict_is : (keeping : Bool) (entry : Option Entry) (target : Target) (answer : Option Reason) → IsAnswer (Holds keeping entry target) answer → IsVerdict keeping entry target (verdict_of answer)
verdict_is keeping entry target None h = λ (r, k). h r k
verdict_is keeping entry target (Some r) h = record { holds = h.0; first = h.1 }

-- the verdict of what the tests answer
pub judged : (keeping : Bool) (entry : Option Entry) (target : Target) (answer : Option Reason) → answer ≡ first_reason keeping entry target → IsVerdict keeping entry target (verdict_of answer)
judged keeping entry target answer e =
    verdict_is keeping entry target answer
    (subst (λ (o : Option Reason). IsAnswer (Holds keeping entry target) o) (sym e) (answered keeping entry target))

-- ---- one verdict

same_reason : (a b : Reason) → Precedes a b → Precedes b a → a ≡ b
same_reason a b one other =
    let ranks : rank a ≡ rank b = elim one [
      | inl lt ↦ elim other [ inl gt ↦ absurd (omega arith) | inr (e, p) ↦ absurd (omega arith) ]
      | inr (e, p) ↦ e
    ] in
    let places : place a ≡ place b = elim one [
      | inl lt ↦ absurd (omega arith)
      | inr (e, p) ↦ elim other [ inl gt ↦ absurd (omega arith) | inr (f, q) ↦ omega arith ]
    ] in
    let placed : reason_at (rank a) (place a) ≡ reason_at (rank b) (place b) =
    subst (λ (n : ℕ). reason_at (rank a) (place a) ≡ reason_at n (place b)) ranks (ap (reason_at (rank a)) places) in
    sym (reason_at-rank a) ∙ placed ∙ reason_at-rank b

pub same_verdict : (keeping : Bool) (entry : Option Entry) (target : Target) (a b : Verdict) → IsVerdict keeping entry target a → IsVerdict keeping entry target b → a ≡ b
same_verdict keeping entry target UpToDate UpToDate h k = refl
same_verdict keeping entry target UpToDate (OutOfDate r) h k = absurd (h (r, k.holds))
same_verdict keeping entry target (OutOfDate r) UpToDate h k = absurd (k (r, h.holds))
same_verdict keeping entry target (OutOfDate r) (OutOfDate s) h k = ap OutOfDate (same_reason r s (h.first s k.holds) (k.first r h.holds))

-- a recipe that was begun is the reason, whatever the files say
pub begun_verdict : (entry : Entry) (target : Target) (a : Verdict) → entry.phase ≡ phase.Begun → IsVerdict true (Some entry) target a → a ≡ OutOfDate WasBegun
begun_verdict entry target a e h =
    let first = from_next (Kept entry target) 1 (from_first (Kept entry target)) (λ i k. some_entry entry k.1) in
    same_verdict true (Some entry) target a (OutOfDate WasBegun) h
    (verdict_is true (Some entry) target (Some WasBegun) (found_at (Kept entry target) 2 WasBegun first refl (refl, e) (λ i k. zero_least i)))
