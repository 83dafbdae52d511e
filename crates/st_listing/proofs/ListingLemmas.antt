-- What follows of `recover`'s answer, whose clauses leave one case open: that memory ran out.
use Rattle.std.proofs.Common.{◌≡◌, ◌∙◌, ◌⊎◌, Option, Some, inl, inr, ℕ, List, [], ◌∷◌, ◌++◌, ◌+◌, ◌-◌, length, take, drop, slice_get, append_assoc, Result, Ok, Err, refl, sym, MatchResult, IfErr, OnOk, IfSome, IsErrOf, ap, arith}
use Rattle.std.proofs.lemmas.Grind.{flat_map-append}
use Rattle.std.proofs.lemmas.List.{append-nil, take-append-drop, take_more, take_rest}
use Rattle.std.proofs.lemmas.Option.{get_or_from_slice_get, slice_get_within}
use Rattle.std.specs.List.{flat_map}
use Rattle.std.specs.FinMap as map
use Rattle.std.specs.FinMap.{len-entries}
use Rattle.st_records.specs.declared.record.Entry.{Entry}
use Rattle.st_file.specs.declared.fault.OpenFault.{OpenFault}
use Rattle.st_file.specs.declared.fault.OpenFault.TheVariants as open_faults
use Rattle.st_state.specs.State.{StateMap}
use Rattle.st_recovery.specs.Recovers.{Outcome, outcome_of, recovered, refused}
use Rattle.st_listing.specs.Listing.{entry_lines, listing}
use Rattle.st_listing.specs.Read.{Recovers, RefusesWith, HasOutcome}
use Rattle.st_listing.specs.Writing.{IsCause, IsOfMachine, LeavesText, LeavesWriter}
use Rattle.st_listing.specs.declared.listing.ListFault.{ListFault}
use Rattle.st_listing.specs.declared.listing.ListFault.TheVariants as faults

-- each outcome of the pair is what was answered
abbrev pub IsOnly : List ℕ → List ℕ → Result StateMap OpenFault → Type 0
IsOnly a b answer = (o : Outcome) → HasOutcome a b o → IfSome (outcome_of answer) (λ p. p ≡ o)

same_state : (m n : StateMap) → recovered m ≡ recovered n → m ≡ n
same_state m n e = cc

never : {A : Type 0} (m : StateMap) (f : OpenFault) → recovered m ≡ refused f → A
never m f e = cc

never_back : {A : Type 0} (m : StateMap) (f : OpenFault) → refused f ≡ recovered m → A
never_back m f e = cc

same_fault : (f g : OpenFault) → refused f ≡ refused g → faults.Open f ≡ faults.Open g
same_fault f g e = cc

inner : (f : OpenFault) → faults.Open f ≡ faults.Open open_faults.OutOfMemory → f ≡ open_faults.OutOfMemory
inner f e = cc

module _ (a b : List ℕ) where
  pub one_state : (s m : StateMap) → IsOnly a b (Ok s) → Recovers a b m → s ≡ m
  one_state s m only h = same_state s m (only (recovered m) h)

  pub not_refused : (s : StateMap) (f : OpenFault) → IsOnly a b (Ok s) → RefusesWith a b f → ⊥
  not_refused s f only h = never s f (only (refused f) h)

  pub fault_of_machine : (f : OpenFault) (m : StateMap) → IsOnly a b (Err f) → Recovers a b m → IsOfMachine (faults.Open f)
  fault_of_machine (open_faults.NotState s) m only h = never_back m _ (only (recovered m) h)
  fault_of_machine (open_faults.UnknownVersion s v) m only h = never_back m _ (only (recovered m) h)
  fault_of_machine (open_faults.Damaged s p) m only h = never_back m _ (only (recovered m) h)
  fault_of_machine open_faults.Device m only h = never_back m _ (only (recovered m) h)
  fault_of_machine open_faults.OutOfMemory m only h = inl refl
  fault_of_machine open_faults.SameGeneration m only h = never_back m _ (only (recovered m) h)

  pub same_refusal : (f g : OpenFault) → IsOnly a b (Err f) → RefusesWith a b g
      → (faults.Open f ≡ faults.Open g) ⊎ (faults.Open f ≡ faults.Open open_faults.OutOfMemory)
  same_refusal (open_faults.NotState s) g only h = inl (same_fault _ g (only (refused g) h))
  same_refusal (open_faults.UnknownVersion s v) g only h = inl (same_fault _ g (only (refused g) h))
  same_refusal (open_faults.Damaged s p) g only h = inl (same_fault _ g (only (refused g) h))
  same_refusal open_faults.Device g only h = inl (same_fault _ g (only (refused g) h))
  same_refusal open_faults.OutOfMemory g only h = inr refl
  same_refusal open_faults.SameGeneration g only h = inl (same_fault _ g (only (refused g) h))

  pub cause_of : (f : OpenFault) → IfSome (outcome_of (Err f)) (HasOutcome a b) → IsCause a b (faults.Open f)
  cause_of (open_faults.NotState s) h = inl h
  cause_of (open_faults.UnknownVersion s v) h = inl h
  cause_of (open_faults.Damaged s p) h = inl h
  cause_of open_faults.Device h = inl h
  cause_of open_faults.OutOfMemory h = inr refl
  cause_of open_faults.SameGeneration h = inl h

  pub cause_of_machine : (f : ListFault) → IsOfMachine f → IsCause a b f
  cause_of_machine (faults.Open f) (inl e) = inr (inner f e)
  cause_of_machine (faults.Open f) (inr e) = cc
  cause_of_machine faults.Write h = tt

-- both sides of an answer, of which each clause says one
pub joined : {T : Type 0} (r : Result T ListFault) (P₀ P : Type 0) (Q₀ Q : ListFault → Type 0) → (P₀ → P) → ((f : ListFault) → Q₀ f → Q f)
    → OnOk r P₀ → IfErr r Q₀ → MatchResult r (λ _. P) Q
joined (Ok x) P₀ P Q₀ Q at_ok at_err ok err = at_ok ok
joined (Err f) P₀ P Q₀ Q at_ok at_err ok err = at_err f err

-- the fault that was passed on is the one that was met
pub met_before : (T : Type 0) (f g : OpenFault) → IsErrOf {T = T} (Err (faults.Open f)) (faults.Open g) → IsErrOf {T = StateMap} (Err f) g
met_before T f g e =
    let same : f ≡ g = cc in
    let wrapped : OpenFault → Result StateMap OpenFault = λ h. Err h in
    ap wrapped same

-- ---- a state with names, and one without

none_of : (es : List (List ℕ × Entry)) → length es ≡ 0 → flat_map entry_lines es ≡ []
none_of [] e = refl
none_of (x ∷ es) e = absurd (omega (arith, e))

-- of a state without names nothing is listed
pub nothing_listed : (m : StateMap) → map.len m ≡ 0 → listing m ≡ []
nothing_listed m none = none_of (map.entries m) (sym (len-entries m) ∙ none)

-- the lines of the first entries, and of one more
pub lines_of_more : (es : List (List ℕ × Entry)) (place : ℕ) (e : List ℕ × Entry) → slice_get es place ≡ Some e
    → flat_map entry_lines (take (place + 1) es) ≡ flat_map entry_lines (take place es) ++ entry_lines e
lines_of_more es place e found =
    ap (flat_map entry_lines) (take_more es place e (slice_get_within es place e found))
    ∙ ap (λ x. flat_map entry_lines (take place es ++ x ∷ [])) (get_or_from_slice_get es place e e found)
    ∙ flat_map-append entry_lines (take place es) (e ∷ [])
    ∙ ap (λ lines. flat_map entry_lines (take place es) ++ lines) (append-nil (entry_lines e))

-- ---- what is left in the writer

-- a part of what was left of a text has gone out
pub front_moved : (all done rest : List ℕ) (n : ℕ) → all ≡ done ++ rest → all ≡ (done ++ take n rest) ++ take (length rest - n) (drop n rest)
front_moved all done rest n e =
    e
    ∙ ap (λ (l : List ℕ). done ++ l) (sym (take-append-drop n rest))
    ∙ sym (append_assoc done (take n rest) (drop n rest))
    ∙ ap (λ (l : List ℕ). (done ++ take n rest) ++ l) (sym (take_rest rest n))

-- a fault of each kind, of an answer that may be one
pub at_fault : {T : Type 0} (r : Result T ListFault) (P Q : ListFault → Type 0) → ((f : ListFault) → P f → Q f) → IfErr r P → IfErr r Q
at_fault (Ok x) P Q f h = tt
at_fault (Err e) P Q f h = f e h

pub leaves_of_state : (a b : List ℕ) (m : StateMap) → Recovers a b m → (old new : Option (List ℕ)) (f : ListFault) → LeavesText (listing m) f old new → LeavesWriter a b f old new
leaves_of_state a b m found old new (faults.Open f) left = left
leaves_of_state a b m found old new faults.Write left = (m, (found, left))
