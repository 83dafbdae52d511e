-- Where finitely many names have a variable, they are finitely many behind each statement too.
use Rattle.std.proofs.Common.{◌≡◌, ℕ, Bool, true, false, cond, List, [], ◌∷◌, Option, Some, None, Result, Ok, Err, refl, sym, ap, ◌∙◌, subst, bytes_eq}
use Rattle.std.proofs.lemmas.Slice.Eq.{bytes_eq-Decides}
use Rattle.mk_assignments.specs.Line.{Said, defines, begins, undefines, exports, unexports}
use Rattle.mk_assignments.specs.declared.sign.Sign.{Sign}
use Rattle.mk_assignments.specs.declared.statement.Modifiers.{Modifiers}
use Rattle.mk_functions.specs.declared.variable.Origin.{Origin}
use Rattle.mk_functions.specs.Outcome.{Outcome, gives, fails}
use Rattle.mk_functions.specs.Values.{Answers}
use Rattle.mk_words.specs.Words.{words_of}
use Rattle.mk_variables.specs.declared.entry.Sharing.{Sharing}
use Rattle.mk_variables.specs.declared.entry.Sharing.TheVariants.{Exported, Unexported}
use Rattle.mk_variables.specs.Table.{Entry, Listed, Table, entry_at, table_of, with_entry, changed_at}
use Rattle.mk_variables.specs.Definition.{defined, undefined}
use Rattle.mk_variables.specs.Statement.{Refusal, Told, Takes, Defines, Undefines, Shares, name_in, trimmed_name_in, origin_by, with_value, shared_as, all_shared_as, shared_by, exports_all_by}

abbrev pub IsListed : Table → Type 0
IsListed table = (l : Listed) × (table ≡ table_of l)

abbrev pub AreListed : Told → Type 0
AreListed (Ok table) = IsListed table
AreListed (Err refusal) = Unit {0}

bytes_eq-sym : (a b : List ℕ) (t u : Bool) → bytes_eq a b ≡ t → bytes_eq b a ≡ u → t ≡ u
bytes_eq-sym a b true true e f = refl
bytes_eq-sym a b false false e f = refl
bytes_eq-sym a b true false e f = sym ((bytes_eq-Decides b a).1 (sym ((bytes_eq-Decides a b).0 e))) ∙ f
bytes_eq-sym a b false true e f = sym e ∙ (bytes_eq-Decides a b).1 (sym ((bytes_eq-Decides b a).0 f))

abbrev left_out : (name : List ℕ) → List (List ℕ × Entry) → List (List ℕ × Entry)
left_out name [] = []
left_out name (e ∷ es) = cond (bytes_eq name e.0) (left_out name es) (e ∷ left_out name es)

gone_at : (name : List ℕ) (e : List ℕ × Entry) (es : List (List ℕ × Entry)) (t : Bool) → bytes_eq name e.0 ≡ t →
    entry_at (left_out name es) name ≡ None → entry_at (left_out name (e ∷ es)) name ≡ None
gone_at name e es true is ih = simp is ih
gone_at name e es false is ih = simp is ih

gone : (name : List ℕ) (es : List (List ℕ × Entry)) → entry_at (left_out name es) name ≡ None
gone name [] = refl
gone name (e ∷ es) = gone_at name e es (bytes_eq name e.0) refl (gone name es)

same_key : (name n key : List ℕ) → bytes_eq name n ≡ false → bytes_eq name key ≡ true → bytes_eq n key ≡ false
same_key name n key other is =
    let key_is : name ≡ key = (bytes_eq-Decides name key).0 is in
    bytes_eq-sym n key (bytes_eq n key) (bytes_eq key n) refl refl ∙ ap (λ k. bytes_eq k n) (sym key_is) ∙ other

kept_at : (name n : List ℕ) (e : List ℕ × Entry) (es : List (List ℕ × Entry)) → bytes_eq name n ≡ false → (t u : Bool) → bytes_eq name e.0 ≡ t → bytes_eq n e.0 ≡ u →
    entry_at (left_out name es) n ≡ entry_at es n → entry_at (left_out name (e ∷ es)) n ≡ entry_at (e ∷ es) n
kept_at name n e es other true u is at ih = let none = same_key name n e.0 other is in simp (is, none) ih
kept_at name n e es other false true is at ih = simp (is, at) refl
kept_at name n e es other false false is at ih = simp (is, at) ih

kept : (name n : List ℕ) (es : List (List ℕ × Entry)) → bytes_eq name n ≡ false → entry_at (left_out name es) n ≡ entry_at es n
kept name n [] other = refl
kept name n (e ∷ es) other = kept_at name n e es other (bytes_eq name e.0) (bytes_eq n e.0) refl refl (kept name n es other)

out_at : (es : List (List ℕ × Entry)) (name n : List ℕ) (t : Bool) → bytes_eq name n ≡ t → changed_at (entry_at es) name None n ≡ entry_at (left_out name es) n
out_at es name n true is =
    let same : name ≡ n = (bytes_eq-Decides name n).0 is in
    ap (λ t. cond t None (entry_at es n)) is ∙ sym (gone name es) ∙ ap (entry_at (left_out name es)) same
out_at es name n false is = ap (λ t. cond t None (entry_at es n)) is ∙ sym (kept name n es is)

in_at : (es : List (List ℕ × Entry)) (name : List ℕ) (e : Entry) (n : List ℕ) → changed_at (entry_at es) name (Some e) n ≡ entry_at ((name, e) ∷ es) n
in_at es name e n = ap (λ t. cond t (Some e) (entry_at es n)) (bytes_eq-sym name n (bytes_eq name n) (bytes_eq n name) refl refl)

entry_listed : (l : Listed) (name : List ℕ) (now : Option Entry) → IsListed (with_entry (table_of l) name now)
entry_listed l name (Some e) = (
  record l { entries = (name, e) ∷ l.entries },
  λ i. record { entry = λ n. in_at l.entries name e n i; exports_all = l.exports_all; is_environment_first = l.is_environment_first },
)
entry_listed l name None = (
  record l { entries = left_out name l.entries },
  λ i. record { entry = λ n. out_at l.entries name n (bytes_eq name n) refl i; exports_all = l.exports_all; is_environment_first = l.is_environment_first },
)

all_listed : (sharing : Sharing) (names : List (List ℕ)) (l : Listed) → IsListed (all_shared_as sharing names (table_of l))
all_listed sharing [] l = (l, refl)
all_listed sharing (name ∷ names) l =
    let one = entry_listed l name (Some (shared_as sharing ((table_of l).entry name))) in
    let rest = all_listed sharing names one.0 in
    (rest.0, ap (all_shared_as sharing names) one.1 ∙ rest.1)

module _ (w : Answers) (l : Listed) where
  value_listed : (modifiers : Modifiers) (origin : Origin) (name : List ℕ) (sign : Sign) (value : Outcome) →
      AreListed (with_value (table_of l) modifiers origin name sign value)
  value_listed modifiers origin name sign (gives value) =
      entry_listed l name (Some (defined l.is_environment_first modifiers sign origin ((table_of l).entry name) value))
  value_listed modifiers origin name sign (fails fault) = tt

  defines_listed : (modifiers : Modifiers) (origin : Origin) (name : Result (List ℕ) Refusal) (sign : Sign) (text : List ℕ) (told : Told) →
      Defines w (table_of l) modifiers origin name sign text told → AreListed told
  defines_listed modifiers origin (Err refusal) sign text told x = subst AreListed (sym x) tt
  defines_listed modifiers origin (Ok name) sign text told x = subst AreListed (sym x.2) (value_listed modifiers origin name sign x.0)

  undefines_listed : (origin : Origin) (name : Result (List ℕ) Refusal) (told : Told) → Undefines w (table_of l) origin name told → AreListed told
  undefines_listed origin (Err refusal) told x = subst AreListed (sym x) tt
  undefines_listed origin (Ok name) told x =
      subst AreListed (sym x) (entry_listed l name (undefined l.is_environment_first origin ((table_of l).entry name)))

  shared_listed : (sharing : Sharing) (names : Outcome) → AreListed (shared_by sharing (table_of l) names)
  shared_listed sharing (gives names) = all_listed sharing (words_of names) l
  shared_listed sharing (fails fault) = tt

  shares_listed : (sharing : Sharing) (names : List ℕ) (told : Told) → Shares w (table_of l) sharing names told → AreListed told
  shares_listed sharing [] told x = subst AreListed (sym x) (record l { exports_all = exports_all_by sharing }, refl)
  shares_listed sharing (b ∷ bs) told x = subst AreListed (sym x.2) (shared_listed sharing x.0)

  pub takes_listed : (said : Said) (lines : List ℕ) (told : Told) → Takes w (table_of l) said lines told → AreListed told
  takes_listed (defines modifiers d) lines told x =
      defines_listed modifiers (origin_by modifiers.is_overriding) (name_in x.0) d.sign d.value told x.2
  takes_listed (begins modifiers d) lines told x =
      defines_listed modifiers (origin_by modifiers.is_overriding) (trimmed_name_in x.0) d.sign lines told x.2
  takes_listed (undefines modifiers text) lines told x = undefines_listed (origin_by modifiers.is_overriding) (trimmed_name_in x.0) told x.2
  takes_listed (exports names) lines told x = shares_listed Exported names told x
  takes_listed (unexports names) lines told x = shares_listed Unexported names told x
