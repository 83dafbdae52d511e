-- What reaches recipes, variable by variable.
use Rattle.std.proofs.Common.{◌≡◌, ℕ, Bool, List, [], ◌∷◌, ◌++◌, map, Some, None, Ok, Err, refl, sym, ap, ◌∙◌, subst, append_assoc}
use Rattle.std.proofs.lemmas.List.{map-append}
use Rattle.mk_functions.specs.Variables.{Variables}
use Rattle.mk_functions.specs.Values.{Answers}
use Rattle.mk_functions.specs.Shown.{fault_of}
use Rattle.mk_functions.specs.declared.fault.Stop as code_stop
use Rattle.mk_functions.specs.declared.fault.Stop.TheVariants as stop
use Rattle.mk_variables.specs.declared.entry.Entry as code_entry
use Rattle.mk_variables.specs.declared.exports.Passed as code_passed
use Rattle.mk_variables.specs.Table.{Entry}
use Rattle.mk_variables.specs.Exports.{Told, with_front, IsPassedAs, Passes, hides, passes, meets_fault}
use Rattle.mk_variables.specs.Shown.{entry_of, shown_entry, shown_passed, IsNotPassed, PassesNone}

-- these, and those behind them
abbrev pub behind_all : (made : List (List ℕ × List ℕ)) → Told → Told
behind_all made (Ok more) = Ok (made ++ more)
behind_all made (Err fault) = Err fault

-- one more is taken to those before
behind_one : (made : List (List ℕ × List ℕ)) (name value : List ℕ) (told : Told) →
    behind_all made (with_front name value told) ≡ behind_all (made ++ (name, value) ∷ []) told
behind_one made name value (Ok more) = ap Ok (sym (append_assoc made ((name, value) ∷ []) more))
behind_one made name value (Err fault) = refl

pub behind_pushed : (made now : List code_passed.Passed) (p : code_passed.Passed) → now ≡ made ++ p ∷ [] → (told : Told) →
    behind_all (map shown_passed made) (with_front p.name.now p.value.items told) ≡ behind_all (map shown_passed now) told
behind_pushed made now p is told =
    behind_one (map shown_passed made) p.name.now p.value.items told
    ∙ ap (λ ps. behind_all ps told) (sym (map-append shown_passed made (p ∷ [])) ∙ ap (map shown_passed) (sym is))

module _ (w : Answers) (variables : Variables) (all : Bool) (it rest : List (List ℕ × code_entry.Entry)) (name slice : List ℕ) (e : code_entry.Entry)
    (same : slice ≡ name) (is : it ≡ (name, e) ∷ rest) where
  at_slice : it ≡ (slice, e) ∷ rest
  at_slice = is ∙ ap (λ n. (n, e) ∷ rest) (sym same)

  -- the next variable doesn't reach recipes
  pub hidden_next : IsPassedAs w variables all slice (entry_of e) None → (told : Told) → Passes w variables all (map shown_entry rest) told →
      Passes w variables all (map shown_entry it) told
  hidden_next hidden told p = subst (λ es. Passes w variables all (map shown_entry es) told) (sym at_slice) (hides slice (entry_of e) hidden p)

  -- it does
  pub passed_next : (value : List ℕ) → IsPassedAs w variables all slice (entry_of e) (Some value) → (told : Told) →
      Passes w variables all (map shown_entry rest) told → Passes w variables all (map shown_entry it) (with_front slice value told)
  passed_next value passed told p =
      subst (λ es. Passes w variables all (map shown_entry es) (with_front slice value told)) (sym at_slice) (passes slice (entry_of e) value passed p)

  -- it has no value
  pub none_next : (whole : Bool) (es : List (List ℕ × Entry)) (made : List (List ℕ × List ℕ)) →
      ((told : Told) → Passes w variables all (map shown_entry it) told → Passes w variables whole es (behind_all made told)) →
      (why : code_stop.Stop) → IsNotPassed w variables all slice (entry_of e) why → PassesNone w variables whole es why
  none_next whole es made leads stop.OutOfMemory none = tt
  none_next whole es made leads stop.TakesTooLong none = tt
  none_next whole es made leads (stop.Fault fault) none =
      leads (Err (fault_of fault))
      (subst (λ es. Passes w variables all (map shown_entry es) (Err (fault_of fault))) (sym at_slice) (meets_fault slice (entry_of e) (fault_of fault) none))
