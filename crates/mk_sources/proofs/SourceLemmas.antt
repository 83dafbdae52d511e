-- The source of a name, one form at a time.
use Rattle.std.proofs.Common.{◌≡◌, ◌+◌, ◌<◌, ℕ, suc, Bool, true, false, ◌&&◌, List, [], ◌∷◌, ◌++◌, length, take, drop, get_or, Option, Some, None, add-one, refl, sym, ap, ◌∙◌}
use Rattle.std.proofs.Math.Seq.{drop-cons}
use Rattle.std.specs.Prelude.{find, option_map, option_to_list}
use Rattle.std.specs.List.{list_all}
use Rattle.std.specs.Option.{option_or}
use Rattle.std.proofs.lemmas.Bool.{and_parts, and_from}
use Rattle.std.proofs.lemmas.List.{append_assoc, take_more}
use Rattle.std.proofs.lemmas.List.Folds.{find-append}
use Rattle.mk_makefile.specs.Source.{stem_of, source_at, candidates, source_of}
use Rattle.mk_sources.specs.Source.{IsFirstAsked, IsReached, IsAllFault, IsSourceFault}
use Rattle.std.proofs.lemmas.Option.{slice_get_read}
use Rattle.mk_sources.specs.Looks.{IsLookFault}
use Rattle.mk_makefile.specs.Table.{is_named, named_at}
use Rattle.mk_sources.specs.There.{is_there}
use Rattle.mk_makefile.specs.declared.table.TargetTable.{TargetTable}
use Rattle.mk_rule_lines.specs.declared.fault.RuleFault.{RuleFault}
use Rattle.mk_rule_lines.specs.declared.fault.RuleFault.TheVariants as fault
use Rattle.mk_makefile.specs.declared.form.Form.{Form}
use Rattle.mk_nodes.specs.declared.file_look.FileLook.{FileLook}

-- the forms from one on
pub from_form : (forms : List Form) (k : ℕ) (form : Form) → k < length forms → form ≡ get_or forms k form → drop k forms ≡ form ∷ drop (k + 1) forms
from_form forms k form within is = drop-cons forms k form within ∙ ap (λ f. f ∷ drop (suc k) forms) (sym is) ∙ rw add-one refl

-- the forms up to one and with it
pub up_to_form : (forms : List Form) (k : ℕ) (form : Form) → k < length forms → form ≡ get_or forms k form → take (k + 1) forms ≡ take k forms ++ form ∷ []
up_to_form forms k form within is = take_more forms k form within ∙ ap (λ f. take k forms ++ f ∷ []) (sym is)

pub candidates-append : (a b : List Form) (name : List ℕ) → candidates (a ++ b) name ≡ candidates a name ++ candidates b name
candidates-append [] b name = refl
candidates-append (f ∷ a) b name =
    let first = option_to_list (option_map (source_at f) (stem_of f name)) in
    ap (λ cs. first ++ cs) (candidates-append a b name) ∙ sym (append_assoc first (candidates a name) (candidates b name))

-- where no candidate of the first forms is there, the source is that of the forms behind them
pub source_of-behind : (is_there : List ℕ → Bool) (a b : List Form) (name : List ℕ) → source_of is_there a name ≡ None → source_of is_there (a ++ b) name ≡ source_of is_there b name
source_of-behind is_there a b name none =
    ap (find (λ source. list_all is_there source.names)) (candidates-append a b name)
    ∙ find-append (λ source. list_all is_there source.names) (candidates a name) (candidates b name)
    ∙ ap (λ found. option_or found (source_of is_there b name)) none

-- one form more without a candidate that is there
pub none_more : (is_there : List ℕ → Bool) (forms : List Form) (k : ℕ) (form : Form) (name : List ℕ) → k < length forms → form ≡ get_or forms k form →
    source_of is_there (take k forms) name ≡ None → source_of is_there (form ∷ []) name ≡ None → source_of is_there (take (k + 1) forms) name ≡ None
none_more is_there forms k form name within is none here =
    ap (λ fs. source_of is_there fs name) (up_to_form forms k form within is) ∙ source_of-behind is_there (take k forms) (form ∷ []) name none ∙ here

module _ (is_there : List ℕ → Bool) (form : Form) (forms : List Form) (name : List ℕ) (stem : List ℕ × List ℕ) (fits : stem_of form name ≡ Some stem) where
  first : candidates (form ∷ forms) name ≡ source_at form stem ∷ candidates forms name
  first = ap (λ found. option_to_list (option_map (source_at form) found) ++ candidates forms name) fits

  -- a candidate that is there is the source
  pub taken : list_all is_there (source_at form stem).names ≡ true → source_of is_there (form ∷ forms) name ≡ Some (source_at form stem)
  taken e = ap (find (λ source. list_all is_there source.names)) first ∙ simp e refl

  -- one that isn't is passed over
  pub passed : list_all is_there (source_at form stem).names ≡ false → source_of is_there (form ∷ forms) name ≡ source_of is_there forms name
  passed e = ap (find (λ source. list_all is_there source.names)) first ∙ simp e refl

-- a form that doesn't fit has no candidate
pub unfit : (is_there : List ℕ → Bool) (form : Form) (forms : List Form) (name : List ℕ) → stem_of form name ≡ None → source_of is_there (form ∷ forms) name ≡ source_of is_there forms name
unfit is_there form forms name e = ap (λ found. find (λ source. list_all is_there source.names) (option_to_list (option_map (source_at form) found) ++ candidates forms name)) e

module _ (targets : TargetTable) (allowed : (List ℕ → Option FileLook) → Type 0) (refuses : List ℕ → Type 0) (forms : List Form) (name : List ℕ) (k : ℕ) (form : Form) (stem : List ℕ × List ℕ)
    (within : k < length forms) (is : form ≡ get_or forms k form) (fits : stem_of form name ≡ Some stem)
    (earlier : (looks : List ℕ → Option FileLook) → allowed looks → source_of (is_there targets looks) (take k forms) name ≡ None) where
  reached : (n : List ℕ) → IsFirstAsked targets allowed (source_at form stem).names n → IsReached targets allowed forms name n
  reached n first = record {
    place = k;
    form = form;
    stem = stem;
    at = slice_get_read forms (length forms) k form refl within is;
    fits = fits;
    first = first;
    earlier = earlier;
  }

  -- what can't be looked at is among the names of the candidate that the search has reached
  pub reached_fault : (f : RuleFault) → IsAllFault targets allowed refuses (source_at form stem).names f → IsSourceFault targets allowed refuses forms name f
  reached_fault fault.OutOfMemory meets = tt
  reached_fault (fault.Tree n) meets = (reached n meets.0, meets.1)
  reached_fault _ meets = meets

-- ---- names of which all are to be there

pub all_more : (p : List ℕ → Bool) (xs : List (List ℕ)) (x : List ℕ) → list_all p xs ≡ true → p x ≡ true → list_all p (xs ++ x ∷ []) ≡ true
all_more p [] x all here = ap (λ b. b && true) here
all_more p (y ∷ ys) x all here =
    let parts = and_parts (p y) (list_all p ys) all in and_from (p y) (list_all p (ys ++ x ∷ [])) parts.0 (all_more p ys x parts.1 here)

-- where the front of a list passes, the whole passes as what is left does
pub all_left : (p : List ℕ → Bool) (xs ys : List (List ℕ)) → list_all p xs ≡ true → list_all p (xs ++ ys) ≡ list_all p ys
all_left p [] ys all = refl
all_left p (x ∷ xs) ys all =
    let parts = and_parts (p x) (list_all p xs) all in ap (λ b. b && list_all p (xs ++ ys)) parts.0 ∙ all_left p xs ys parts.1

module _ (targets : TargetTable) (allowed : (List ℕ → Option FileLook) → Type 0) (refuses : List ℕ → Type 0) (names before behind : List (List ℕ)) (n : List ℕ) (is : names ≡ before ++ n ∷ behind)
    (no_target : is_named (named_at targets n) ≡ false)
    (there : (looks : List ℕ → Option FileLook) → allowed looks → list_all (is_there targets looks) before ≡ true) where
  -- a name that can't be looked at is the first that isn't known to be there
  pub first_fault : (f : RuleFault) → IsLookFault refuses n f → IsAllFault targets allowed refuses names f
  first_fault fault.OutOfMemory meets = tt
  first_fault (fault.Tree m) meets =
      (record { before = before; behind = behind; is = rw meets.0 is; no_target = rw meets.0 no_target; there = there }, meets.1)
  first_fault _ meets = meets
