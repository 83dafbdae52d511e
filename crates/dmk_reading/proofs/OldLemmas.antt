-- What is left of items where the rules of some names are ignored.
use Rattle.std.proofs.Common.{◌≡◌, ◌∙◌, inl, inr, ℕ, Bool, true, false, List, [], ◌∷◌, ◌++◌, append_assoc, append-nil, Some, refl, sym, ap, subst}
use Rattle.mk_macros.specs.Ranks.{Defined}
use Rattle.mk_reader.specs.declared.item.Item.{Item}
use Rattle.mk_rule_lines.specs.Lines.{behind_items}
use Rattle.mk_reader.specs.declared.item.Item.TheVariants as item
use Rattle.mk_reader.specs.declared.item.Special.{Special}
use Rattle.mk_rule_lines.specs.Rules.{is_phony_list}
use Rattle.dmk_reading.proofs.OwnLemmas.{words_once}
use Rattle.dmk_reading.specs.OldRules.{rule_left, phony_left, IsLeftBy, IsSpecialLeft, IsLeft, AreLeft, WithoutRulesOf}

-- these are left of the items that have been passed: with what is left of the rest, they are left of all
abbrev pub LeftSoFar : (old : List (List ℕ)) (given : Defined) (items : List Item) (now : Defined) (rest left : List Item) → Type 0
LeftSoFar old given items now rest left = (more : List Item) → AreLeft old now rest more → AreLeft old given items (left ++ more)

module _ (old : List (List ℕ)) (given : Defined) (items : List Item) where
  pub none_left : LeftSoFar old given items given items []
  none_left more are = are

  pub one_left : (now next : Defined) (one : Item) (rest left front new : List Item) → IsLeft old now one front → next ≡ behind_items now (one ∷ []) →
      new ≡ left ++ front → LeftSoFar old given items now (one ∷ rest) left → LeftSoFar old given items next rest new
  one_left now next one rest left front new is behind made so more are =
      subst (AreLeft old given items) (sym (ap (λ xs. xs ++ more) made ∙ append_assoc left front more))
      (so (front ++ more) (front, more, is, subst (λ d. AreLeft old d rest more) behind are, refl))

  pub all_left : (now : Defined) (left : List Item) → LeftSoFar old given items now [] left → AreLeft old given items left
  all_left now left so = subst (AreLeft old given items) (append-nil left) (so [] refl)

-- ---- one list is left

by_once : (by : List (List ℕ) → List Item) (whole : Item) (given : Defined) (text : List ℕ) (a b : List Item) →
    IsLeftBy by whole given text a → IsLeftBy by whole given text b → a ≡ b
by_once by whole given text a b (inl (ws, of_a, is_a)) (inl (vs, of_b, is_b)) = is_a ∙ ap by (words_once given text ws vs of_a of_b) ∙ sym is_b
by_once by whole given text a b (inl (ws, of_a, is_a)) (inr (none, is_b)) = absurd (none of_a.expansion of_a.expands)
by_once by whole given text a b (inr (none, is_a)) (inl (vs, of_b, is_b)) = absurd (none of_b.expansion of_b.expands)
by_once by whole given text a b (inr (none, is_a)) (inr (other, is_b)) = is_a ∙ sym is_b

module _ (old : List (List ℕ)) where
  special_once : (phony : Bool) (given : Defined) (special : Special) (a b : List Item) →
      IsSpecialLeft old phony given special a → IsSpecialLeft old phony given special b → a ≡ b
  special_once true given special a b of_a of_b =
      by_once (phony_left old special) (item.Special special) given special.rule.prerequisites a b of_a of_b
  special_once false given special a b of_a of_b = of_a ∙ sym of_b

  one_once : (given : Defined) (one : Item) (a b : List Item) → IsLeft old given one a → IsLeft old given one b → a ≡ b
  one_once given (item.Definition d) a b of_a of_b = of_a ∙ sym of_b
  one_once given (item.Rule rule) a b of_a of_b = by_once (rule_left old rule) (item.Rule rule) given rule.targets a b of_a of_b
  one_once given (item.Special special) a b of_a of_b = special_once (is_phony_list (Some special.name)) given special a b of_a of_b

  left_once : (given : Defined) (items a b : List Item) → AreLeft old given items a → AreLeft old given items b → a ≡ b
  left_once given [] a b of_a of_b = of_a ∙ sym of_b
  left_once given (one ∷ items) a b (front, more, is, are, whole) (front_b, more_b, is_b, are_b, whole_b) =
      whole ∙ ap (λ xs. xs ++ more) (one_once given one front front_b is is_b)
      ∙ ap (λ xs. front_b ++ xs) (left_once (behind_items given (one ∷ [])) items more more_b are are_b) ∙ sym whole_b

pub without_once : (old : List (List ℕ)) (given : Defined) (All : List Item → Type 0) → ((a b : List Item) → All a → All b → a ≡ b) →
    (a b : List Item) → WithoutRulesOf old given All a → WithoutRulesOf old given All b → a ≡ b
without_once [] given All once a b of_a of_b = once a b of_a of_b
without_once (name ∷ names) given All once a b (all, is, left) (all_b, is_b, left_b) =
    let same : all ≡ all_b = once all all_b is is_b in
    left_once (name ∷ names) given all_b a b (subst (λ xs. AreLeft (name ∷ names) given xs a) same left) left_b

-- where no name is there all is left, and else what is left
pub without_either : (old : List (List ℕ)) (given : Defined) (items left : List Item) (All : List Item → Type 0) → All items →
    (old ≡ [] → left ≡ items) → ((old ≡ [] → ⊥) → AreLeft old given items left) → WithoutRulesOf old given All left
without_either [] given items left All are none some = subst All (sym (none refl)) are
without_either (name ∷ names) given items left All are none some = (items, are, some (λ e. cc))
