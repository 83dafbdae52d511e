-- What a map has for each name is what its entries list.
use Rattle.std.proofs.Common.{◌≡◌, ℕ, Bool, true, false, cond, List, [], ◌∷◌, map, Option, Some, None, option_map, Result, Ok, Err, OnOk, OnErr, refl, sym, ap, ◌∙◌, bytes_eq}
use Rattle.std.specs.Map.{lookup}
use Rattle.std.proofs.lemmas.Slice.Eq.{bytes_eq-Decides}
use Rattle.mk_functions.specs.declared.variable.Origin.{Origin}
use Rattle.mk_variables.specs.declared.entry.Entry as code_entry
use Rattle.mk_variables.specs.Ranks.{met, is_passed_over}
use Rattle.mk_variables.specs.Definition.{met_entry, unless_stronger, undefined}
use Rattle.mk_variables.specs.Table.{Entry, Listed, entry_at, table_of, changed_at, with_entry}
use Rattle.mk_variables.specs.Shown.{entry_of, shown_entry}

-- what entries have for a name
abbrev pub found_in : List (List ℕ × code_entry.Entry) → (name : List ℕ) → Option Entry
found_in es name = option_map entry_of (lookup (bytes_eq name) es)

shown_at_entry : (e : List ℕ × code_entry.Entry) (es : List (List ℕ × code_entry.Entry)) (name : List ℕ) (t : Bool) → bytes_eq name e.0 ≡ t →
    entry_at (map shown_entry es) name ≡ found_in es name → entry_at (map shown_entry (e ∷ es)) name ≡ found_in (e ∷ es) name
shown_at_entry e es name true here ih = simp here refl
shown_at_entry e es name false here ih = simp here ih

pub shown_at : (es : List (List ℕ × code_entry.Entry)) (name : List ℕ) → entry_at (map shown_entry es) name ≡ found_in es name
shown_at [] name = refl
shown_at (e ∷ es) name = shown_at_entry e es name (bytes_eq name e.0) refl (shown_at es name)

abbrev pub listed : (es : List (List ℕ × code_entry.Entry)) (exports_all is_first : Bool) → Listed
listed es exports_all is_first = record { entries = map shown_entry es; exports_all = exports_all; is_environment_first = is_first }

module _ (old new : List (List ℕ × code_entry.Entry)) (exports_all is_first : Bool) where
  -- one name changed, for all names at once
  pub changes : (name : List ℕ) (change : Option Entry → Option Entry) →
      ((n : List ℕ) → found_in new n ≡ changed_at (found_in old) name (change (found_in old name)) n) →
      table_of (listed new exports_all is_first) ≡
      with_entry (table_of (listed old exports_all is_first)) name (change ((table_of (listed old exports_all is_first)).entry name))
  changes name change each =
      let at : (n : List ℕ) → entry_at (map shown_entry new) n ≡ changed_at (entry_at (map shown_entry old)) name (change (entry_at (map shown_entry old) name)) n =
      λ n. shown_at new n ∙ each n ∙ (λ i. cond (bytes_eq name n) (change (sym (shown_at old name) i)) (sym (shown_at old n) i)) in
      λ i. record { entry = λ n. at n i; exports_all = exports_all; is_environment_first = is_first }

  -- nothing changed
  pub keeps : ((n : List ℕ) → found_in new n ≡ found_in old n) → table_of (listed new exports_all is_first) ≡ table_of (listed old exports_all is_first)
  keeps each =
      let at : (n : List ℕ) → entry_at (map shown_entry new) n ≡ entry_at (map shown_entry old) n = λ n. shown_at new n ∙ each n ∙ sym (shown_at old n) in
      λ i. record { entry = λ n. at n i; exports_all = exports_all; is_environment_first = is_first }

pub at_ok : {T E : Type 0} {P Q : Type 0} (r : Result T E) → (P → Q) → OnOk r P → OnOk r Q
at_ok (Ok x) f p = f p
at_ok (Err e) f p = p

pub at_err : {T E : Type 0} {P Q : Type 0} (r : Result T E) → (P → Q) → OnErr r P → OnErr r Q
at_err (Ok x) f p = p
at_err (Err e) f p = f p

-- ---- what `undefine` makes of a name

abbrev pub met_at : (is_first : Bool) → Option Entry → Option Origin
met_at is_first there = option_map (λ e. met is_first e.variable.origin) there

undefined_nothing : (is_first : Bool) (here : Origin) (there : Option Entry) → met_at is_first there ≡ None → undefined is_first here there ≡ there
undefined_nothing is_first here None is = refl
undefined_nothing is_first here (Some e) is = absurd (cc is)

undefined_kept : (is_first : Bool) (here origin : Origin) (there : Option Entry) → met_at is_first there ≡ Some origin → is_passed_over here origin ≡ true →
    undefined is_first here there ≡ option_map (met_entry is_first) there
undefined_kept is_first here origin None is kept = refl
undefined_kept is_first here origin (Some e) is kept =
    let same : met is_first e.variable.origin ≡ origin = cc is in
    ap (λ k. unless_stronger k (met_entry is_first e)) (ap (is_passed_over here) same ∙ kept)

undefined_gone : (is_first : Bool) (here origin : Origin) (there : Option Entry) → met_at is_first there ≡ Some origin → is_passed_over here origin ≡ false →
    undefined is_first here there ≡ None
undefined_gone is_first here origin None is gone = refl
undefined_gone is_first here origin (Some e) is gone =
    let same : met is_first e.variable.origin ≡ origin = cc is in
    ap (λ k. unless_stronger k (met_entry is_first e)) (ap (is_passed_over here) same ∙ gone)

same_at : (es : List (List ℕ × code_entry.Entry)) (name n : List ℕ) (now : Option Entry) → now ≡ found_in es name → (t : Bool) → bytes_eq name n ≡ t →
    found_in es n ≡ cond t now (found_in es n)
same_at es name n now is true e = let same : name ≡ n = (bytes_eq-Decides name n).0 e in rw (← same) (sym is)
same_at es name n now is false e = refl

module _ (old : List (List ℕ × code_entry.Entry)) (is_first : Bool) (here : Origin) (name : List ℕ) where
  pub nothing_there : met_at is_first (found_in old name) ≡ None →
      (n : List ℕ) → found_in old n ≡ changed_at (found_in old) name (undefined is_first here (found_in old name)) n
  nothing_there is n = same_at old name n _ (undefined_nothing is_first here (found_in old name) is) (bytes_eq name n) refl

module _ (old new : List (List ℕ × code_entry.Entry)) (is_first : Bool) (here : Origin) (name : List ℕ) (origin : Origin) (is : met_at is_first (found_in old name) ≡ Some origin) where
  pub kept_there : is_passed_over here origin ≡ true →
      ((n : List ℕ) → found_in new n ≡ changed_at (found_in old) name (option_map (met_entry is_first) (found_in old name)) n) →
      (n : List ℕ) → found_in new n ≡ changed_at (found_in old) name (undefined is_first here (found_in old name)) n
  kept_there kept each n = each n ∙ ap (λ now. cond (bytes_eq name n) now (found_in old n)) (sym (undefined_kept is_first here origin (found_in old name) is kept))

  pub gone_there : is_passed_over here origin ≡ false → ((n : List ℕ) → found_in new n ≡ changed_at (found_in old) name None n) →
      (n : List ℕ) → found_in new n ≡ changed_at (found_in old) name (undefined is_first here (found_in old name)) n
  gone_there gone each n = each n ∙ ap (λ now. cond (bytes_eq name n) now (found_in old n)) (sym (undefined_gone is_first here origin (found_in old name) is gone))
