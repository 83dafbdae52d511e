-- What is defined behind items, step by step, and that it is always a list's.
use Rattle.std.proofs.Common.{◌≡◌, ℕ, Bool, true, false, cond, List, [], ◌∷◌, ◌++◌, Some, unwrap_or, refl, sym, ap, subst, ◌∙◌, bytes_eq}
use Rattle.std.specs.Map.{lookup}
use Rattle.mk_profile.specs.Profile.{is_wide}
use Rattle.mk_macros.specs.Ranks.{Ranks, no_ranks, Defined, Listed, defined_by, ranks_at, redefined, with_change, with_definition, with_mark}
use Rattle.mk_macros.specs.declared.definitions.Rank.{Rank}
use Rattle.mk_macros.specs.declared.definitions.Rank.TheVariants.{Makefile}
use Rattle.mk_reader.specs.declared.item.Item.{Item}
use Rattle.mk_reader.specs.declared.item.Item.TheVariants as item
use Rattle.mk_lines.proofs.ReferenceLemmas.{either}
use Rattle.mk_macros.proofs.DefinitionLemmas.{in_language}
use Rattle.mk_eval.specs.Makefile.{with_item, with_items, behind}

pub behind_wide : (given : Defined) (items : List Item) → is_wide given.language ≡ true → behind given items ≡ with_items given items
behind_wide given items e = ap (λ t. cond t (with_items given items) given) e

pub behind_strict : (given : Defined) (items : List Item) → is_wide given.language ≡ false → behind given items ≡ given
behind_strict given items e = ap (λ t. cond t (with_items given items) given) e

pub behind_nothing : (given : Defined) → behind given [] ≡ given
behind_nothing given = either _ (is_wide given.language) (behind_wide given []) (behind_strict given [])

item_language : (given : Defined) (one : Item) → (with_item given one).language ≡ given.language
item_language given (item.Definition d) = refl
item_language given (item.Rule rule) = refl
item_language given (item.Special special) = refl

same_language : (given : Defined) (items : List Item) → (with_items given items).language ≡ given.language
same_language given [] = refl
same_language given (one ∷ more) = same_language (with_item given one) more ∙ item_language given one

pub behind_language : (given : Defined) (items : List Item) → (behind given items).language ≡ given.language
behind_language given items =
    either _ (is_wide given.language)
    (λ e. ap (λ g. g.language) (behind_wide given items e) ∙ same_language given items)
    (λ e. ap (λ g. g.language) (behind_strict given items e))

pub items-append : (given : Defined) (xs ys : List Item) → with_items (with_items given xs) ys ≡ with_items given (xs ++ ys)
items-append given [] ys = refl
items-append given (x ∷ xs) ys = items-append (with_item given x) xs ys

pub behind-append : (given : Defined) (xs ys : List Item) → behind (behind given xs) ys ≡ behind given (xs ++ ys)
behind-append given xs ys =
    either _ (is_wide given.language)
    (λ e.
    let wide : is_wide (with_items given xs).language ≡ true = ap is_wide (same_language given xs) ∙ e in
    ap (λ g. behind g ys) (behind_wide given xs e) ∙ behind_wide (with_items given xs) ys wide ∙ items-append given xs ys ∙ sym (behind_wide given (xs ++ ys) e))
    (λ e. ap (λ g. behind g ys) (behind_strict given xs e) ∙ behind_strict given ys e ∙ sym (behind_strict given (xs ++ ys) e))

-- behind what was gathered and more of it
pub behind_more : (start now next : Defined) (items new front : List Item) → now ≡ behind start items → next ≡ behind now front → new ≡ items ++ front → next ≡ behind start new
behind_more start now next items new front is e n = e ∙ ap (λ g. behind g front) is ∙ behind-append start items front ∙ ap (behind start) (sym n)

-- one more item that defines nothing
pub loose_more : (given : Defined) (items new : List Item) (one : Item) → ((start : Defined) → with_item start one ≡ start) → with_items given items ≡ given → new ≡ items ++ one ∷ [] → with_items given new ≡ given
loose_more given items new one last loose e = ap (with_items given) e ∙ sym (items-append given items (one ∷ [])) ∙ last (with_items given items) ∙ loose

-- Names that have a text can be listed.

abbrev pub IsListed : Defined → Type 0
IsListed given = (listed : Listed) × (given ≡ defined_by listed)

abbrev changed_in : Listed → (name : List ℕ) → (Ranks → Ranks) → Listed
changed_in listed name change = record listed { texts = (name, change (ranks_at listed.texts name)) ∷ listed.texts }

changed_alike : (listed : Listed) (name : List ℕ) (change : Ranks → Ranks) →
    in_language listed.language (with_change (ranks_at listed.texts) name change) ≡ defined_by (changed_in listed name change)
changed_alike listed name change =
    let new = change (ranks_at listed.texts name) in
    let each : with_change (ranks_at listed.texts) name change ≡ ranks_at ((name, new) ∷ listed.texts) = λ i n. one_more new n (bytes_eq n name) i in
    ap (in_language listed.language) each
  where
    one_more : (new : Ranks) (n : List ℕ) (t : Bool) → cond t new (ranks_at listed.texts n) ≡ unwrap_or (cond t (Some new) (lookup (bytes_eq n) listed.texts)) no_ranks
    one_more new n true = refl
    one_more new n false = refl

abbrev defined_in : Listed → Rank → (name text : List ℕ) → (append : Bool) → Listed
defined_in listed rank name text append = changed_in listed name (λ r. redefined listed.language r rank text append)

defined_alike : (listed : Listed) (rank : Rank) (name text : List ℕ) (append : Bool) →
    with_definition (defined_by listed) rank name text append ≡ defined_by (defined_in listed rank name text append)
defined_alike listed rank name text append = changed_alike listed name (λ r. redefined listed.language r rank text append)

item_listed : (given : Defined) (one : Item) → IsListed given → IsListed (with_item given one)
item_listed given (item.Definition d) (listed, e) =
    let next = defined_in listed Makefile d.name d.value d.append in
    let is : with_definition given Makefile d.name d.value d.append ≡ defined_by next =
    ap (λ g. with_definition g Makefile d.name d.value d.append) e ∙ defined_alike listed Makefile d.name d.value d.append in
    (changed_in next d.name (λ r. record r { is_fixed = d.is_fixed }), ap (λ g. with_mark g d.name d.is_fixed) is ∙ changed_alike next d.name (λ r. record r { is_fixed = d.is_fixed }))
item_listed given (item.Rule rule) is = is
item_listed given (item.Special special) is = is

items_listed : (given : Defined) (items : List Item) → IsListed given → IsListed (with_items given items)
items_listed given [] is = is
items_listed given (one ∷ more) is = items_listed (with_item given one) more (item_listed given one is)

pub behind_listed : (given : Defined) (items : List Item) → IsListed given → IsListed (behind given items)
behind_listed given items is =
    either _ (is_wide given.language)
    (λ e. subst IsListed (sym (behind_wide given items e)) (items_listed given items is))
    (λ e. subst IsListed (sym (behind_strict given items e)) is)
