-- A statement has one outcome, and an outcome, where expansions have.
use Rattle.std.proofs.Common.{◌≡◌, ℕ, Bool, true, false, List, [], ◌∷◌, map, Some, option_map, Result, Ok, Err, refl, sym, ap, ◌∙◌, subst, bytes_eq}
use Rattle.std.specs.List.{list_any}
use Rattle.mk_assignments.specs.Line.{Said, defines, begins, undefines, exports, unexports}
use Rattle.mk_assignments.specs.declared.sign.Sign.{Sign}
use Rattle.mk_assignments.specs.declared.statement.Modifiers.{Modifiers}
use Rattle.mk_functions.specs.declared.variable.Origin.{Origin}
use Rattle.mk_functions.specs.Variables.{Variable}
use Rattle.mk_functions.specs.Outcome.{Outcome, gives}
use Rattle.mk_functions.specs.Values.{Answers}
use Rattle.mk_functions.specs.Expansion.{ExpandsTo}
use Rattle.mk_variables.specs.declared.entry.Sharing.{Sharing}
use Rattle.mk_variables.specs.declared.entry.Sharing.TheVariants.{Exported, Unexported}
use Rattle.mk_variables.specs.declared.value.Taken.{Taken}
use Rattle.mk_variables.specs.declared.value.Taken.TheVariants.{AsWritten, Expanded, Output}
use Rattle.mk_variables.specs.Table.{Entry, Table, entry_at, variables_in}
use Rattle.mk_variables.specs.Definition.{IsValue, taken_by, written_by}
use Rattle.mk_variables.specs.Statement.{Refusal, Told, Takes, Defines, Undefines, Shares, name_in, trimmed_name_in, origin_by, with_value, without, shared_by, exports_all_by}

module _ (w : Answers) (table : Table) (once : (text : List ℕ) (a b : Outcome) → ExpandsTo w (variables_in table) text a → ExpandsTo w (variables_in table) text b → a ≡ b) where
  value_once : (taken : Taken) (text : List ℕ) {a b : Outcome} → IsValue w (variables_in table) taken text a → IsValue w (variables_in table) taken text b → a ≡ b
  value_once AsWritten text x y = x ∙ sym y
  value_once Expanded text {a} {b} x y = once text a b x y
  value_once Output text x y = x.2 ∙ ap (written_by w) (once text x.0 y.0 x.1 y.1) ∙ sym y.2

  defines_once : (modifiers : Modifiers) (origin : Origin) (name : Result (List ℕ) Refusal) (sign : Sign) (text : List ℕ) {a b : Told} →
      Defines w table modifiers origin name sign text a → Defines w table modifiers origin name sign text b → a ≡ b
  defines_once modifiers origin (Err refusal) sign text x y = x ∙ sym y
  defines_once modifiers origin (Ok name) sign text x y =
      x.2 ∙ ap (with_value table modifiers origin name sign) (value_once (taken_by sign (variables_in table name)) text x.1 y.1) ∙ sym y.2

  undefines_once : (origin : Origin) (name : Result (List ℕ) Refusal) {a b : Told} → Undefines w table origin name a → Undefines w table origin name b → a ≡ b
  undefines_once origin (Err refusal) x y = x ∙ sym y
  undefines_once origin (Ok name) x y = x ∙ sym y

  shares_once : (sharing : Sharing) (names : List ℕ) {a b : Told} → Shares w table sharing names a → Shares w table sharing names b → a ≡ b
  shares_once sharing [] x y = x ∙ sym y
  shares_once sharing (c ∷ cs) x y = x.2 ∙ ap (shared_by sharing table) (once (c ∷ cs) x.0 y.0 x.1 y.1) ∙ sym y.2

  named_once : (modifiers : Modifiers) (origin : Origin) (text : List ℕ) (named : Outcome → Result (List ℕ) Refusal) (sign : Sign) (value : List ℕ) {a b : Told}
      (n m : Outcome) → ExpandsTo w (variables_in table) text n → ExpandsTo w (variables_in table) text m →
      Defines w table modifiers origin (named n) sign value a → Defines w table modifiers origin (named m) sign value b → a ≡ b
  named_once modifiers origin text named sign value {a} n m e f x y =
      defines_once modifiers origin (named m) sign value (subst (λ o. Defines w table modifiers origin (named o) sign value a) (once text n m e f) x) y

  pub takes_once : (said : Said) (lines : List ℕ) {a b : Told} → Takes w table said lines a → Takes w table said lines b → a ≡ b
  takes_once (defines modifiers d) lines x y = named_once modifiers (origin_by modifiers.is_overriding) d.name name_in d.sign d.value x.0 y.0 x.1 y.1 x.2 y.2
  takes_once (begins modifiers d) lines x y = named_once modifiers (origin_by modifiers.is_overriding) d.name trimmed_name_in d.sign lines x.0 y.0 x.1 y.1 x.2 y.2
  takes_once (undefines modifiers text) lines {a} x y =
      undefines_once (origin_by modifiers.is_overriding) (trimmed_name_in y.0)
      (subst (λ o. Undefines w table (origin_by modifiers.is_overriding) (trimmed_name_in o) a) (once text x.0 y.0 x.1 y.1) x.2) y.2
  takes_once (exports names) lines x y = shares_once Exported names x y
  takes_once (unexports names) lines x y = shares_once Unexported names x y

module _ (w : Answers) (table : Table) (some : (text : List ℕ) → (o : Outcome) × ExpandsTo w (variables_in table) text o) where
  value_some : (taken : Taken) (text : List ℕ) → (o : Outcome) × IsValue w (variables_in table) taken text o
  value_some AsWritten text = (gives text, refl)
  value_some Expanded text = some text
  value_some Output text = let found = some text in (written_by w found.0, (found.0, found.1, refl))

  defines_some : (modifiers : Modifiers) (origin : Origin) (name : Result (List ℕ) Refusal) (sign : Sign) (text : List ℕ) →
      (told : Told) × Defines w table modifiers origin name sign text told
  defines_some modifiers origin (Err refusal) sign text = (Err refusal, refl)
  defines_some modifiers origin (Ok name) sign text =
      let found = value_some (taken_by sign (variables_in table name)) text in
      (with_value table modifiers origin name sign found.0, (found.0, found.1, refl))

  undefines_some : (origin : Origin) (name : Result (List ℕ) Refusal) → (told : Told) × Undefines w table origin name told
  undefines_some origin (Err refusal) = (Err refusal, refl)
  undefines_some origin (Ok name) = (Ok (without table origin name), refl)

  shares_some : (sharing : Sharing) (names : List ℕ) → (told : Told) × Shares w table sharing names told
  shares_some sharing [] = (Ok (record table { exports_all = exports_all_by sharing }), refl)
  shares_some sharing (c ∷ cs) = let found = some (c ∷ cs) in (shared_by sharing table found.0, (found.0, found.1, refl))

  pub takes_some : (said : Said) (lines : List ℕ) → (told : Told) × Takes w table said lines told
  takes_some (defines modifiers d) lines =
      let name = some d.name in
      let found = defines_some modifiers (origin_by modifiers.is_overriding) (name_in name.0) d.sign d.value in
      (found.0, (name.0, name.1, found.1))
  takes_some (begins modifiers d) lines =
      let name = some d.name in
      let found = defines_some modifiers (origin_by modifiers.is_overriding) (trimmed_name_in name.0) d.sign lines in
      (found.0, (name.0, name.1, found.1))
  takes_some (undefines modifiers text) lines =
      let name = some text in
      let found = undefines_some (origin_by modifiers.is_overriding) (trimmed_name_in name.0) in
      (found.0, (name.0, name.1, found.1))
  takes_some (exports names) lines = shares_some Exported names
  takes_some (unexports names) lines = shares_some Unexported names

listed_there : (es : List (List ℕ × Entry)) (e : List ℕ × Entry) (name : List ℕ) (v : Variable) (t : Bool) → bytes_eq name e.0 ≡ t →
    (option_map (λ (x : Entry). x.variable) (entry_at es name) ≡ Some v → list_any (bytes_eq name) (map (λ (x : List ℕ × Entry). x.0) es) ≡ true) →
    option_map (λ (x : Entry). x.variable) (entry_at (e ∷ es) name) ≡ Some v → list_any (bytes_eq name) (map (λ (x : List ℕ × Entry). x.0) (e ∷ es)) ≡ true
listed_there es e name v true here ih is = simp here refl
listed_there es e name v false here ih is = let there = ih (simp here at is) in simp (here, there) refl

-- a name that has a variable is one of those listed
pub is_listed : (es : List (List ℕ × Entry)) (name : List ℕ) (v : Variable) → option_map (λ (x : Entry). x.variable) (entry_at es name) ≡ Some v →
    list_any (bytes_eq name) (map (λ (x : List ℕ × Entry). x.0) es) ≡ true
is_listed [] name v is = absurd (cc is)
is_listed (e ∷ es) name v is = listed_there es e name v (bytes_eq name e.0) refl (is_listed es name v) is
