-- What the tests of a rule line and of its targets mean, one by one.
use Rattle.std.specs.Prelude.{is_none, slice_index_or, Contains}
use Rattle.std.specs.Bool.{Decides}
use Rattle.std.specs.List.{All, Any, list_all, list_any}
use Rattle.std.specs.Option.{option_map_or}
use Rattle.std.proofs.Common.{◌≡◌, ◌⊎◌, ◌∙◌, ℕ, Bool, true, false, not, cond, ◌&&◌, ◌||◌, ◌==◌, List, [], ◌∷◌, ◌++◌, length, take, drop, filter, Option, Some, None, refl, sym, ap, subst, bytes_eq}
use Rattle.std.proofs.lemmas.Bool.{both_ways, not-true, not_from_false, false_from_ne_true, and_parts, and_from}
use Rattle.std.proofs.lemmas.Bool.Decides.{Decides-and, Decides-or, Decides-not, Decides-like, Decides-at, Decides-eqb}
use Rattle.std.proofs.lemmas.List.{take_at, drop_at, take-append-drop}
use Rattle.std.proofs.lemmas.List.Folds.{Any-from_list_any, list_any-from_Any}
use Rattle.std.proofs.lemmas.List.Elements.{All-nil, All-cons, All-head, All-tail}
use Rattle.std.proofs.lemmas.Map.Views.{any-filter_same}
use Rattle.std.proofs.lemmas.Slice.Eq.{bytes_eq-Decides}
use Rattle.mk_macros.specs.Words.{without_front}
use Rattle.mk_lines.specs.Text.{is_empty}
use Rattle.mk_reader.specs.declared.special.SpecialName.{SpecialName}
use Rattle.mk_reader.specs.declared.special.SpecialName.TheVariants.{Default, Phony}
use Rattle.mk_rule_lines.specs.Kinds.{IsRule, HasRecipe, HasSingleRecipe, IsPatternRule, IsPhonyList, IsDefaultRule, IsSuffixName, IsSuffixRule, Mentions, IsRuleFor, IsSuffixRuleFor}
use Rattle.mk_rule_lines.specs.Rules.{has, has_percent, is_rule, is_pattern_rule, is_phony_list, is_default_rule, makes_targets, joins, is_suffix_name, lacks_single, may_be_suffix_rule, is_suffix_target, comes_out, targets_by}
use Rattle.mk_rule_lines.specs.declared.rule_line.RuleLine.{RuleLine}

-- ---- lists

pub any_decides : {X : Type 0} (p : X → Bool) (P : X → Type 0) → ((x : X) → Decides (p x) (P x)) → (xs : List X) → Decides (list_any p xs) (Any P xs)
any_decides p P each xs = (
  (λ e. let (k, x, within, at, is) = Any-from_list_any p xs e in (k, x, within, at, (each x).0 is)),
  λ (k, x, within, at, is). list_any-from_Any p xs (k, x, within, at, (each x).1 is),
)

all_one : {X : Type 0} (p : X → Bool) (P : X → Type 0) → ((x : X) → Decides (p x) (P x)) → (x : X) (xs : List X) → Decides (list_all p xs) (All P xs) →
    Decides (p x && list_all p xs) (All P (x ∷ xs))
all_one p P each x xs rest = (
  (λ e. let parts = and_parts (p x) (list_all p xs) e in All-cons P x xs ((each x).0 parts.0) (rest.0 parts.1)),
  λ all. and_from (p x) (list_all p xs) ((each x).1 (All-head P x xs all)) (rest.1 (All-tail P x xs all)),
)

pub all_decides : {X : Type 0} (p : X → Bool) (P : X → Type 0) → ((x : X) → Decides (p x) (P x)) → (xs : List X) → Decides (list_all p xs) (All P xs)
all_decides p P each [] = ((λ e. All-nil P), λ all. refl)
all_decides p P each (x ∷ xs) = all_one p P each x xs (all_decides p P each xs)

pub contains_decides : {X : Type 0} (p : X → Bool) (y : X) → ((x : X) → Decides (p x) (x ≡ y)) → (xs : List X) → Decides (list_any p xs) (Contains xs y)
contains_decides p y each xs = (
  (λ e. let (k, x, within, at, is) = Any-from_list_any p xs e in (k, within, subst (λ z. slice_index_or xs k z ≡ z) ((each x).0 is) at)),
  λ (k, within, at). list_any-from_Any p xs (k, y, within, at, (each y).1 refl),
)

same_name : (name x : List ℕ) → Decides (bytes_eq name x) (x ≡ name)
same_name name x = ((λ e. sym ((bytes_eq-Decides name x).0 e)), λ e. (bytes_eq-Decides name x).1 (sym e))

pub has_decides : (name : List ℕ) (names : List (List ℕ)) → Decides (has name names) (Contains names name)
has_decides name names = contains_decides (bytes_eq name) name (same_name name) names

pub byte_decides : (b : ℕ) (name : List ℕ) → Decides (list_any (λ x. x == b) name) (Contains name b)
byte_decides b name = contains_decides (λ x. x == b) b (λ x. Decides-eqb x b) name

pub empty_decides : {X : Type 0} (xs : List X) → Decides (is_empty xs) (xs ≡ [])
empty_decides [] = ((λ e. refl), λ e. refl)
empty_decides (x ∷ xs) = ((λ e. absurd cc), λ e. absurd cc)

-- ---- kinds of lines

none_decides : {X : Type 0} (o : Option X) → Decides (is_none o) (o ≡ None)
none_decides None = ((λ e. refl), λ e. refl)
none_decides (Some x) = ((λ e. absurd cc), λ e. absurd cc)

pub rule_decides : (l : RuleLine) → Decides (is_rule l) (IsRule l)
rule_decides l = none_decides l.special

pub pattern_rule_decides : (l : RuleLine) → Decides (is_pattern_rule l) (IsPatternRule l)
pattern_rule_decides l =
    Decides-and (is_rule l) (list_any has_percent l.targets) (rule_decides l) (any_decides has_percent (λ target. Contains target 37) (byte_decides 37) l.targets)

phony_list_at : (o : Option SpecialName) → Decides (is_phony_list o) (o ≡ Some Phony)
phony_list_at None = ((λ e. absurd cc), λ e. absurd cc)
phony_list_at (Some Phony) = ((λ e. refl), λ e. refl)
phony_list_at (Some other) = ((λ e. absurd cc), λ e. absurd cc)

pub default_rule_at : (o : Option SpecialName) → Decides (is_default_rule o) (o ≡ Some Default)
default_rule_at None = ((λ e. absurd cc), λ e. absurd cc)
default_rule_at (Some Default) = ((λ e. refl), λ e. refl)
default_rule_at (Some other) = ((λ e. absurd cc), λ e. absurd cc)

makes_decides : (l : RuleLine) → Decides (makes_targets l) (IsPhonyList l ⊎ (IsDefaultRule l ⊎ (IsRule l × (IsPatternRule l → ⊥))))
makes_decides l =
    Decides-or (is_phony_list l.special) (is_default_rule l.special || (is_rule l && not (is_pattern_rule l))) (phony_list_at l.special)
    (Decides-or (is_default_rule l.special) (is_rule l && not (is_pattern_rule l)) (default_rule_at l.special)
    (Decides-and (is_rule l) (not (is_pattern_rule l)) (rule_decides l) (Decides-not (is_pattern_rule l) (pattern_rule_decides l))))

pub recipe_decides : (l : RuleLine) → Decides (not (is_empty l.recipe)) (HasRecipe l)
recipe_decides l = Decides-not (is_empty l.recipe) (empty_decides l.recipe)

-- a recipe of which a name has just one
single_at : (double empty : Bool) (R : Type 0) → Decides (not empty) R → Decides (not (double || empty)) ((double ≡ false) × R)
single_at true empty R is = ((λ h. absurd cc), λ h. absurd (both_ways true h.0 refl))
single_at false empty R is = ((λ h. (refl, is.0 h)), λ h. is.1 h.1)

pub single_decides : (l : RuleLine) → Decides (not (lacks_single l)) (HasSingleRecipe l)
single_decides l = single_at l.is_double (is_empty l.recipe) (HasRecipe l) (recipe_decides l)

-- ---- suffix rules

module _ (suffixes : List (List ℕ)) where
  pub rest_is : (s t : List ℕ) → without_front s (s ++ t) ≡ Some t
  rest_is s t =
      let test : bytes_eq s s ≡ true = (bytes_eq-Decides s s).1 refl in
      rw (take_at s t (length s) refl, drop_at s t (length s) refl, test) refl

  joined_at : (name s : List ℕ) (b : Bool) → bytes_eq (take (length s) name) s ≡ b → joins suffixes name s ≡ true → Any (λ t. name ≡ s ++ t) suffixes
  joined_at name s true e h =
      let rest : List ℕ = drop (length s) name in
      let found : has rest suffixes ≡ true = ap (λ (b : Bool). option_map_or (λ r. has r suffixes) (cond b (Some rest) None) false) (sym e) ∙ h in
      let front : take (length s) name ≡ s = (bytes_eq-Decides (take (length s) name) s).0 e in
      let whole : name ≡ s ++ rest = sym (take-append-drop (length s) name) ∙ ap (λ xs. xs ++ rest) front in
      let (k, within, at) = (has_decides rest suffixes).0 found in (k, rest, within, at, whole)
  joined_at name s false e h =
      let rest : List ℕ = drop (length s) name in
      let none : false ≡ true = ap (λ (b : Bool). option_map_or (λ r. has r suffixes) (cond b (Some rest) None) false) (sym e) ∙ h in
      absurd (both_ways false refl none)

  joins_decides : (name s : List ℕ) → Decides (joins suffixes name s) (Any (λ t. name ≡ s ++ t) suffixes)
  joins_decides name s = (
    joined_at name s (bytes_eq (take (length s) name) s) refl,
    λ (k, t, within, at, is).
        ap (λ n. joins suffixes n s) is ∙ ap (λ o. option_map_or (λ r. has r suffixes) o false) (rest_is s t) ∙ (has_decides t suffixes).1 (k, within, at),
  )

  suffix_name_decides : (name : List ℕ) → Decides (is_suffix_name suffixes name) (IsSuffixName suffixes name)
  suffix_name_decides name =
      Decides-or (has name suffixes) (list_any (joins suffixes name) suffixes) (has_decides name suffixes)
      (any_decides (joins suffixes name) (λ s. Any (λ t. name ≡ s ++ t) suffixes) (joins_decides name) suffixes)

  pub suffix_rule_decides : (l : RuleLine) (name : List ℕ) → Decides (is_suffix_target suffixes l name) (IsSuffixRule suffixes l name)
  suffix_rule_decides l name =
      Decides-like (is_suffix_target suffixes l name)
      (λ h. record { prerequisites = h.0.0; recipe = h.0.1; name_is = h.1 })
      (λ is. ((is.prerequisites, is.recipe), is.name_is))
      (Decides-and (may_be_suffix_rule l) (is_suffix_name suffixes name)
      (Decides-and (is_empty l.prerequisites) (not (lacks_single l)) (empty_decides l.prerequisites) (single_decides l))
      (suffix_name_decides name))

-- ---- what stands behind a front

module _ (p : List ℕ → Bool) (P : List ℕ → Type 0) (each : (rest : List ℕ) → Decides (p rest) (P rest)) (before : List ℕ) where
  abbrev IsBehind : List ℕ → Type 0
  IsBehind word = (rest : List ℕ) × (word ≡ before ++ rest) × P rest

  behind_at : (word : List ℕ) (b : Bool) → bytes_eq (take (length before) word) before ≡ b → option_map_or p (without_front before word) false ≡ true → IsBehind word
  behind_at word true e h =
      let rest : List ℕ = drop (length before) word in
      let found : p rest ≡ true = ap (λ (b : Bool). option_map_or p (cond b (Some rest) None) false) (sym e) ∙ h in
      let front : take (length before) word ≡ before = (bytes_eq-Decides (take (length before) word) before).0 e in
      (rest, sym (take-append-drop (length before) word) ∙ ap (λ xs. xs ++ rest) front, (each rest).0 found)
  behind_at word false e h =
      let rest : List ℕ = drop (length before) word in
      let none : false ≡ true = ap (λ (b : Bool). option_map_or p (cond b (Some rest) None) false) (sym e) ∙ h in
      absurd (both_ways false refl none)

  -- what stands behind a front passes a test
  pub behind_decides : (word : List ℕ) → Decides (option_map_or p (without_front before word) false) (IsBehind word)
  behind_decides word = (
    behind_at word (bytes_eq (take (length before) word) before) refl,
    λ (rest, is, passes).
        ap (λ w. option_map_or p (without_front before w) false) is ∙ ap (λ o. option_map_or p o false) (rest_is [] before rest) ∙ (each rest).1 passes,
  )

-- ---- the targets that are listed by name

has-filter : (p : List ℕ → Bool) (name : List ℕ) (names : List (List ℕ)) → has name (filter p names) ≡ (p name && has name names)
has-filter p name names = any-filter_same (bytes_eq name) p (p name) (λ n e. ap p (sym ((bytes_eq-Decides name n).0 e))) names

module _ (b : Bool) (suffixes : List (List ℕ)) (l : RuleLine) (name : List ℕ) where
  mentions : makes_targets l ≡ true → has name l.targets ≡ true → Mentions l name
  mentions e h = record { makes = (makes_decides l).0 e; target = (has_decides name l.targets).0 h }

  abbrev IsChosen : Type 0
  IsChosen = Mentions l name × (comes_out b (is_suffix_target suffixes l name) ≡ true)

  listed_at : (t : Bool) → makes_targets l ≡ t → Decides (has name (targets_by b suffixes l)) IsChosen
  listed_at true e =
      let chosen : List ℕ → Bool = λ n. comes_out b (is_suffix_target suffixes l n) in
      let whole : has name (targets_by b suffixes l) ≡ (chosen name && has name l.targets) =
      ap (λ (t : Bool). has name (cond t (filter chosen l.targets) [])) e ∙ has-filter chosen name l.targets in
      Decides-at (has name (targets_by b suffixes l)) (chosen name && has name l.targets) whole (
        (λ h. let parts = and_parts (chosen name) (has name l.targets) h in (mentions e parts.1, parts.0)),
        λ h. and_from (chosen name) (has name l.targets) h.1 ((has_decides name l.targets).1 h.0.target),
      )
  listed_at false e =
      let chosen : List ℕ → Bool = λ n. comes_out b (is_suffix_target suffixes l n) in
      let whole : has name (targets_by b suffixes l) ≡ false = ap (λ (t : Bool). has name (cond t (filter chosen l.targets) [])) e in (
        (λ h. absurd (both_ways (has name (targets_by b suffixes l)) whole h)),
        λ h. absurd (both_ways (makes_targets l) e ((makes_decides l).1 h.0.makes)),
      )

  listed_decides : Decides (has name (targets_by b suffixes l)) IsChosen
  listed_decides = listed_at (makes_targets l) refl

-- the line has the name among its targets that are no suffix rules, or among those that are
pub rule_for_decides : (suffixes : List (List ℕ)) (name : List ℕ) (l : RuleLine) → Decides (has name (targets_by false suffixes l)) (IsRuleFor suffixes name l)
rule_for_decides suffixes name l =
    Decides-like (has name (targets_by false suffixes l))
    (λ h. (h.0, λ is. both_ways (is_suffix_target suffixes l name) (not-true (is_suffix_target suffixes l name) h.1) ((suffix_rule_decides suffixes l name).1 is)))
    (λ h. (
      h.0,
      not_from_false (is_suffix_target suffixes l name)
          (false_from_ne_true (is_suffix_target suffixes l name) (λ e. h.1 ((suffix_rule_decides suffixes l name).0 e))),
    ))
    (listed_decides false suffixes l name)

pub suffix_rule_for_decides : (suffixes : List (List ℕ)) (name : List ℕ) (l : RuleLine) → Decides (has name (targets_by true suffixes l)) (IsSuffixRuleFor suffixes name l)
suffix_rule_for_decides suffixes name l =
    Decides-like (has name (targets_by true suffixes l)) (λ h. (h.0, (suffix_rule_decides suffixes l name).0 h.1))
    (λ h. (h.0, (suffix_rule_decides suffixes l name).1 h.1)) (listed_decides true suffixes l name)
