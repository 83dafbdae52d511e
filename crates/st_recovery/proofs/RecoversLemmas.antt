-- A pair has one outcome: what comes of the one reading of each side.
use Rattle.std.specs.Prelude.{IfSome, IfNone, IsErrOf}
use Rattle.std.proofs.Common.{◌≡◌, ◌⊎◌, ℕ, ◌<◌, ◌≤◌, true, false, cond, ltb, List, Option, Some, None, Result, Err, refl, sym, ap, subst, ◌∙◌, arith, inl, inr, rules, tests}
use Rattle.std.proofs.lemmas.Bool.{cases_lt}
use Rattle.std.specs.FinMap as map
use Rattle.st_disk.specs.declared.which.Which.{Which}
use Rattle.st_disk.specs.declared.which.Which.TheVariants as sides
use Rattle.st_records.specs.declared.version.Version.{Version}
use Rattle.st_records.specs.Forms.{form_of}
use Rattle.st_records.specs.declared.version.Form.{Form}
use Rattle.st_records.specs.declared.version.Form.TheVariants.{Plain}
use Rattle.st_records.specs.declared.record.Record.{Record}
use Rattle.st_state.specs.State.{StateMap, replay}
use Rattle.st_file.specs.declared.fault.OpenFault.{OpenFault}
use Rattle.st_file.specs.declared.fault.OpenFault.TheVariants as faults
use Rattle.st_file.specs.Layout.{IsReadIn}
use Rattle.st_file.specs.Side as side
use Rattle.st_file.specs.declared.side.ExtentIn.{ExtentIn}
use Rattle.st_file.specs.Side.{IsVoid, HoldsUpToIn, HoldsRecordsIn, IsRefusedIn, ReadingIn, ReadsIn}
use Rattle.st_records.proofs.Fields.{IsBytes}
use Rattle.st_file.proofs.ReadingLemmas.{one_reading_in}
use Rattle.st_file.proofs.TotalLemmas.{every_reading_in}
use Rattle.st_recovery.specs.Recovers.{WinsIn, WasReadIn, IsChosen, IsChosenIn, RecoversIn, IsWholeIn, HaveOneGenerationIn, RefusesWithIn, Outcome, recovered, refused, HasOutcome, HasOutcomeIn, outcome_of}

-- what comes of two sides that hold records
abbrev of_two : ℕ → List Record → ℕ → List Record → Outcome
of_two g rs h ss =
    cond (ltb h g) (recovered (replay map.empty rs)) (cond (ltb g h) (recovered (replay map.empty ss)) (refused faults.SameGeneration))

below_ltb : (m n : ℕ) → m < n → ltb m n ≡ true
below_ltb m n lt = search (rules, tests)

not_below_ltb : (m n : ℕ) → (m < n → ⊥) → ltb m n ≡ false
not_below_ltb m n h = search (rules, tests)

first_counts : (g h : ℕ) (rs ss : List Record) → h < g → of_two g rs h ss ≡ recovered (replay map.empty rs)
first_counts g h rs ss lt = rw (below_ltb h g lt) refl

second_counts : (g h : ℕ) (rs ss : List Record) → g < h → of_two g rs h ss ≡ recovered (replay map.empty ss)
second_counts g h rs ss lt = rw (not_below_ltb h g (λ (more : h < g). omega arith), below_ltb g h lt) refl

neither_counts : (g : ℕ) (rs ss : List Record) → of_two g rs g ss ≡ refused faults.SameGeneration
neither_counts g rs ss = rw (not_below_ltb g g (λ (more : g < g). omega arith)) refl

-- what comes of two sides that are read so
abbrev outcome : ReadingIn → ReadingIn → Outcome
outcome (side.refused_in f) r = refused f
outcome side.blank_in side.blank_in = recovered map.empty
outcome side.blank_in (side.holding_in other h ss d) = recovered (replay map.empty ss)
outcome side.blank_in (side.refused_in f) = refused f
outcome (side.holding_in form g rs e) side.blank_in = recovered (replay map.empty rs)
outcome (side.holding_in form g rs e) (side.holding_in other h ss d) = of_two g rs h ss
outcome (side.holding_in form g rs e) (side.refused_in f) = refused f

record BothRead (newest : Form) (b : List ℕ) (of_a : ReadingIn) (o : Outcome) : Type 0 where
  of_b : ReadingIn
  reads : ReadsIn newest sides.B b of_b
  outcome_is : o ≡ outcome of_a of_b

-- side B is looked at only where side A isn't refused
abbrev FollowsA : (newest : Form) → List ℕ → ReadingIn → Outcome → Type 0
FollowsA newest b (side.refused_in f) o = o ≡ refused f
FollowsA newest b side.blank_in o = BothRead newest b side.blank_in o
FollowsA newest b (side.holding_in form g rs e) o = BothRead newest b (side.holding_in form g rs e) o

record ComesOf (newest : Form) (a b : List ℕ) (o : Outcome) : Type 0 where
  of_a : ReadingIn
  reads : ReadsIn newest sides.A a of_a
  follows_a : FollowsA newest b of_a o

by_first : (newest : Form) (a b : List ℕ) (m : StateMap) → WinsIn newest a b m → ComesOf newest a b (recovered m)
by_first newest a b m wins =
    let c = wins.counts in
    elim c.over [
      | inl void ↦ record {
        of_a = side.holding_in wins.form wins.generation c.held wins.end;
        reads = (c.is_read, c.holds);
        follows_a = record { of_b = side.blank_in; reads = void; outcome_is = ap recovered c.state_is };
      }
      | inr less ↦ record {
        of_a = side.holding_in wins.form wins.generation c.held wins.end;
        reads = (c.is_read, c.holds);
        follows_a = record {
          of_b = side.holding_in less.1.1.0 less.0 less.1.0 less.1.1.2;
          reads = (less.1.1.1, less.1.1.3);
          outcome_is = ap recovered c.state_is ∙ sym (first_counts wins.generation less.0 c.held less.1.0 less.2);
        };
      }
    ]

by_second : (newest : Form) (a b : List ℕ) (m : StateMap) → WinsIn newest b a m → ComesOf newest a b (recovered m)
by_second newest a b m wins =
    let c = wins.counts in
    elim c.over [
      | inl void ↦ record {
        of_a = side.blank_in;
        reads = void;
        follows_a = record {
          of_b = side.holding_in wins.form wins.generation c.held wins.end;
          reads = (c.is_read, c.holds);
          outcome_is = ap recovered c.state_is;
        };
      }
      | inr less ↦ record {
        of_a = side.holding_in less.1.1.0 less.0 less.1.0 less.1.1.2;
        reads = (less.1.1.1, less.1.1.3);
        follows_a = record {
          of_b = side.holding_in wins.form wins.generation c.held wins.end;
          reads = (c.is_read, c.holds);
          outcome_is = ap recovered c.state_is ∙ sym (second_counts less.0 wins.generation less.1.0 c.held less.2);
        };
      }
    ]

by_state : (newest : Form) (a b : List ℕ) (m : StateMap) → RecoversIn newest a b m → ComesOf newest a b (recovered m)
by_state newest a b m (inl none) = record {
  of_a = side.blank_in;
  reads = none.0;
  follows_a = record { of_b = side.blank_in; reads = none.1; outcome_is = ap recovered none.2 };
}
by_state newest a b m (inr (inl wins)) = by_first newest a b m wins
by_state newest a b m (inr (inr wins)) = by_second newest a b m wins

by_other : (newest : Form) (a b : List ℕ) (f : OpenFault) → IsWholeIn newest a → IsRefusedIn newest sides.B b f → ComesOf newest a b (refused f)
by_other newest a b f (inl void) of_b = record {
  of_a = side.blank_in;
  reads = void;
  follows_a = record { of_b = side.refused_in f; reads = of_b; outcome_is = refl };
}
by_other newest a b f (inr holds) of_b = record {
  of_a = side.holding_in holds.1.1.0 holds.0 holds.1.0 holds.1.1.2;
  reads = (holds.1.1.1, holds.1.1.3);
  follows_a = record { of_b = side.refused_in f; reads = of_b; outcome_is = refl };
}

by_generation : (newest : Form) (a b : List ℕ) → HaveOneGenerationIn newest a b → ComesOf newest a b (refused faults.SameGeneration)
by_generation newest a b same = record {
  of_a = side.holding_in same.1.1.0 same.0 same.1.0 same.1.1.2;
  reads = (same.1.1.1, same.1.1.3);
  follows_a = record {
    of_b = side.holding_in same.2.1.0 same.0 same.2.0 same.2.1.2;
    reads = (same.2.1.1, same.2.1.3);
    outcome_is = sym (neither_counts same.0 same.1.0 same.2.0);
  };
}

by_refusal : (newest : Form) (a b : List ℕ) (f : OpenFault) → RefusesWithIn newest a b f → ComesOf newest a b (refused f)
by_refusal newest a b f (inl of_a) = record { of_a = side.refused_in f; reads = of_a; follows_a = refl }
by_refusal newest a b f (inr (inl of_b)) = by_other newest a b f of_b.0 of_b.1
by_refusal newest a b f (inr (inr same)) =
    let P : OpenFault → Type 0 = λ g. ComesOf newest a b (refused g) in
    subst P (sym same.0) (by_generation newest a b same.1)

comes_of : (newest : Form) (a b : List ℕ) (o : Outcome) → HasOutcomeIn newest a b o → ComesOf newest a b o
comes_of newest a b (recovered m) h = by_state newest a b m h
comes_of newest a b (refused f) h = by_refusal newest a b f h

one_both_read : (newest : Form) (b : List ℕ) (of_a : ReadingIn) (o p : Outcome) → BothRead newest b of_a o → BothRead newest b of_a p → o ≡ p
one_both_read newest b of_a o p h k =
    h.outcome_is ∙ ap (outcome of_a) (one_reading_in newest sides.B b h.of_b k.of_b h.reads k.reads) ∙ sym k.outcome_is

one_follows : (newest : Form) (b : List ℕ) (of_a : ReadingIn) (o p : Outcome) → FollowsA newest b of_a o → FollowsA newest b of_a p → o ≡ p
one_follows newest b (side.refused_in f) o p h k = h ∙ sym k
one_follows newest b side.blank_in o p h k = one_both_read newest b side.blank_in o p h k
one_follows newest b (side.holding_in form g rs e) o p h k = one_both_read newest b (side.holding_in form g rs e) o p h k

-- a pair recovers one state or is refused with one fault, and only one of these
pub one_recovery_in : (newest : Form) (a b : List ℕ) (o p : Outcome) → HasOutcomeIn newest a b o → HasOutcomeIn newest a b p → o ≡ p
one_recovery_in newest a b o p h k =
    let c = comes_of newest a b o h in
    let d = comes_of newest a b p k in
    let same : c.of_a ≡ d.of_a = one_reading_in newest sides.A a c.of_a d.of_a c.reads d.reads in
    let P : ReadingIn → Type 0 = λ r. FollowsA newest b r o in
    one_follows newest b d.of_a o p (subst P same c.follows_a) d.follows_a

-- also where versions 1 and 2 are read
pub one_recovery : (a b : List ℕ) (o p : Outcome) → HasOutcome a b o → HasOutcome a b p → o ≡ p
one_recovery = one_recovery_in Plain

-- so what was answered is the one outcome there is
pub IfSome-one : (newest : Form) (a b : List ℕ) (answered : Option Outcome) → IfSome answered (HasOutcomeIn newest a b) → (o : Outcome) → HasOutcomeIn newest a b o → IfSome answered (λ p. p ≡ o)
IfSome-one newest a b None found o h = tt
IfSome-one newest a b (Some p) found o h = one_recovery_in newest a b p o found h

-- no pair is refused for a device
no_device : (newest : Form) (a b : List ℕ) → RefusesWithIn newest a b faults.Device → ⊥
no_device newest a b (inl of_a) = of_a
no_device newest a b (inr (inl of_b)) = of_b.1
no_device newest a b (inr (inr same)) =
    let none : faults.Device ≡ faults.SameGeneration = same.0 in absurd cc

-- so none is answered
pub never_of_a_device : (newest : Form) (a b : List ℕ) (answered : Result StateMap OpenFault) → IfSome (outcome_of answered) (HasOutcomeIn newest a b)
    → IsErrOf answered faults.Device → ⊥
never_of_a_device newest a b answered found is = no_device newest a b (subst (λ r. IfSome (outcome_of r) (HasOutcomeIn newest a b)) is found)

-- ---- a pair has an outcome: what comes of a reading of each side

abbrev HasSome : (newest : Form) → List ℕ → List ℕ → Type 0
HasSome newest a b = (o : Outcome) × HasOutcomeIn newest a b o

counting : (newest : Form) (x other : List ℕ) (form : Form) (g : ℕ) (rs : List Record) (e : ℕ) → ReadsIn newest sides.A x (side.holding_in form g rs e) → IsVoid other ⊎ ((smaller : ℕ) × ((held : List Record) × HoldsRecordsIn newest other smaller held) × (smaller < g)) → WinsIn newest x other (replay map.empty rs)
counting newest x other form g rs e holds over =
    record { form = form; generation = g; end = e; counts = record { is_read = holds.0; held = rs; holds = holds.1; over = over; state_is = refl } }

some_of_two : (newest : Form) (a b : List ℕ) (form other : Form) (g h : ℕ) (rs ss : List Record) (e d : ℕ) → ReadsIn newest sides.A a (side.holding_in form g rs e) → ReadsIn newest sides.B b (side.holding_in other h ss d) → (g < h) ⊎ (h ≤ g) → (h < g) ⊎ (g ≤ h) → HasSome newest a b
some_of_two newest a b form other g h rs ss e d of_a of_b (inl less) more =
    (recovered (replay map.empty ss), inr (inr (counting newest b a other h ss d of_b (inr (g, (rs, (form, of_a.0, e, of_a.1)), less)))))
some_of_two newest a b form other g h rs ss e d of_a of_b (inr le) (inl less) =
    (recovered (replay map.empty rs), inr (inl (counting newest a b form g rs e of_a (inr (h, (ss, (other, of_b.0, d, of_b.1)), less)))))
some_of_two newest a b form other g h rs ss e d of_a of_b (inr le) (inr ge) =
    let same : h ≡ g = omega arith in
    let P : ℕ → Type 0 = λ n. (held : List Record) × HoldsRecordsIn newest b n held in
    (refused faults.SameGeneration, inr (inr (refl, (g, (rs, (form, of_a.0, e, of_a.1)), subst P same (ss, (other, of_b.0, d, of_b.1))))))

some_of : (newest : Form) (a b : List ℕ) (of_a of_b : ReadingIn) → ReadsIn newest sides.A a of_a → ReadsIn newest sides.B b of_b → HasSome newest a b
some_of newest a b (side.refused_in f) of_b reads_a reads_b = (refused f, inl reads_a)
some_of newest a b side.blank_in side.blank_in reads_a reads_b = (recovered map.empty, inl (reads_a, reads_b, refl))
some_of newest a b side.blank_in (side.holding_in other h ss d) reads_a reads_b =
    (recovered (replay map.empty ss), inr (inr (counting newest b a other h ss d reads_b (inl reads_a))))
some_of newest a b side.blank_in (side.refused_in f) reads_a reads_b = (refused f, inr (inl (inl reads_a, reads_b)))
some_of newest a b (side.holding_in form g rs e) side.blank_in reads_a reads_b =
    (recovered (replay map.empty rs), inr (inl (counting newest a b form g rs e reads_a (inl reads_b))))
some_of newest a b (side.holding_in form g rs e) (side.holding_in other h ss d) reads_a reads_b =
    some_of_two newest a b form other g h rs ss e d reads_a reads_b (cases_lt g h) (cases_lt h g)
some_of newest a b (side.holding_in form g rs e) (side.refused_in f) reads_a reads_b =
    (refused f, inr (inl (inr (g, (rs, (form, reads_a.0, e, reads_a.1))), reads_b)))

-- a pair recovers a state or is refused
pub every_outcome : (newest : Form) (a b : List ℕ) → IsBytes a → IsBytes b → (o : Outcome) × HasOutcomeIn newest a b o
every_outcome newest a b a_fits b_fits =
    let of_a = every_reading_in newest sides.A a a_fits in
    let of_b = every_reading_in newest sides.B b b_fits in
    some_of newest a b of_a.0 of_b.0 of_a.1 of_b.1

-- ---- the clauses of the calls

-- a side that was read isn't refused
pub whole_of_read : (newest : Form) (T : Type 0) (P : List Record → Type 0) (x : List ℕ) (read : Option ExtentIn) → IfNone read (IsVoid x × T) → IfSome read (λ e. IsReadIn newest e.form) → IfSome read (λ e. (held : List Record) × HoldsUpToIn x e.form e.generation held e.end × P held) → IsWholeIn newest x
whole_of_read newest T P x None void form held = inl void.0
whole_of_read newest T P x (Some e) void form held = inr (e.generation, (held.0, (e.form, form, e.end, held.1)))

-- what was read off is as it was read
pub was_read : (newest : Form) (T : Type 0) (x : List ℕ) (read : Option ExtentIn) (m : StateMap) → IfNone read (IsVoid x × T) → IfSome read (λ e. IsReadIn newest e.form) → IfSome read (λ e. (held : List Record) × HoldsUpToIn x e.form e.generation held e.end × (m ≡ replay map.empty held)) → WasReadIn newest x read m
was_read newest T x None m void form held = void.0
was_read newest T x (Some e) m void form held = (form, held)

-- of the side that was chosen the pair recovers the state
pub recovers_chosen : (newest : Form) (a b : List ℕ) (side : Which) (form : Form) (generation end : ℕ) (m n : StateMap) → n ≡ m → IsChosenIn newest a b side form generation end m → RecoversIn newest a b n
recovers_chosen newest a b sides.A form generation end m n same chosen =
    subst (RecoversIn newest a b) (sym same) (inr (inl (record { form = form; generation = generation; end = end; counts = chosen })))
recovers_chosen newest a b sides.B form generation end m n same chosen =
    subst (RecoversIn newest a b) (sym same) (inr (inr (record { form = form; generation = generation; end = end; counts = chosen })))

-- a refusal of side B is one of the pair where side A isn't refused
pub second_refused : (newest : Form) (a b : List ℕ) (f : OpenFault) → IsWholeIn newest a → (f ≡ faults.Device) ⊎ ((f ≡ faults.OutOfMemory) ⊎ IsRefusedIn newest sides.B b f) → (f ≡ faults.Device) ⊎ ((f ≡ faults.OutOfMemory) ⊎ RefusesWithIn newest a b f)
second_refused newest a b f whole (inl device) = inl device
second_refused newest a b f whole (inr (inl memory)) = inr (inl memory)
second_refused newest a b f whole (inr (inr is)) = inr (inr (inr (inl (whole, is))))

-- one fault in answers of two types
pub same_fault : {S T : Type 0} (f g : OpenFault) → IsErrOf {T = S} (Err f) g → IsErrOf {T = T} (Err f) g
same_fault {S} {T} f g e = let same : f ≡ g = cc in let wrapped : OpenFault → Result T OpenFault = λ h. Err h in ap wrapped same

-- ---- where versions 1 and 2 are read

-- a side that was chosen, by its version
pub chosen_by_version : (a b : List ℕ) (side : Which) (form : Form) (v : Version) (generation g end e : ℕ) (m : StateMap) → form_of v ≡ form → g ≡ generation → e ≡ end → IsChosenIn Plain a b side form generation end m → IsChosen a b side v g e m
chosen_by_version a b side form v generation g end e m forms generations ends chosen =
    let P : Form → Type 0 = λ f. IsChosenIn Plain a b side f generation end m in
    let Q : ℕ → Type 0 = λ n. IsChosenIn Plain a b side (form_of v) n end m in
    let R : ℕ → Type 0 = λ n. IsChosenIn Plain a b side (form_of v) g n m in
    subst R (sym ends) (subst Q (sym generations) (subst P (sym forms) chosen))
