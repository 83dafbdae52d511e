-- For which names a makefile has rules of its own, told item by item.
use Rattle.std.specs.Prelude.{Contains}
use Rattle.std.proofs.Common.{◌≡◌, ◌≢◌, ◌⊎◌, ◌∙◌, ℕ, suc, ◌+◌, ◌<◌, Bool, true, false, not, cond, ◌||◌, List, [], ◌∷◌, filter, drop, length, get_or, inl, inr, refl, sym, ap, subst, add-one}
use Rattle.std.proofs.Math.Seq.{drop-cons}
use Rattle.byte_strings.specs.Blanks.{words}
use Rattle.mk_macros.specs.Expansion.{ExpandsTo, ExpandsToFault, Meanings, gives, fails, Fault, refers_to_itself, not_closed, dollar_in_brackets, too_long, calls_function}
use Rattle.mk_macros.specs.Ranks.{Defined, rule_meanings}
use Rattle.mk_macros.specs.declared.fault.MacroFault.{MacroFault}
use Rattle.mk_macros.specs.declared.fault.MacroFault.TheVariants as macro_fault
use Rattle.mk_macros.proofs.OutcomeLemmas.{expands_once}
use Rattle.mk_reader.specs.declared.item.Definition.{Definition}
use Rattle.mk_reader.specs.declared.item.Item.{Item}
use Rattle.mk_reader.specs.declared.item.Item.TheVariants as item
use Rattle.mk_reader.specs.declared.item.Rule.{Rule}
use Rattle.mk_reader.specs.declared.item.Special.{Special}
use Rattle.mk_rule_lines.specs.Lines.{AreWordsOf, behind}
use Rattle.mk_rule_lines.specs.Rules.{has}
use Rattle.mk_rule_lines.proofs.KindLemmas.{has_decides}
use Rattle.dmk_reading.specs.BuiltIn.{Names, HasOwn, TellsOwn}

-- ---- what a text expands to

pub words_once : (given : Defined) (text : List ℕ) (ws vs : List (List ℕ)) → AreWordsOf given text ws → AreWordsOf given text vs → ws ≡ vs
words_once given text ws vs of_a of_b =
    let outcomes : gives of_a.expansion ≡ gives of_b.expansion = expands_once (rule_meanings given) of_a.expands of_b.expands in
    let same : of_a.expansion ≡ of_b.expansion = cc in
    of_a.cut ∙ ap words same ∙ sym of_b.cut

no_gift : (names : Meanings) (text bytes : List ℕ) (f : Fault) → ExpandsTo names text (fails f) → ExpandsTo names text (gives bytes) → ⊥
no_gift names text bytes f fault found = let both : fails f ≡ gives bytes = expands_once names fault found in cc

-- a text with a fault has no expansion
pub no_expansion : (names : Meanings) (text : List ℕ) (f : MacroFault) → f ≢ macro_fault.OutOfMemory → ExpandsToFault names text f →
    (bytes : List ℕ) → ExpandsTo names text (gives bytes) → ⊥
no_expansion names text macro_fault.OutOfMemory other meets bytes found = other refl
no_expansion names text (macro_fault.Loop name) other meets bytes found = no_gift names text bytes (refers_to_itself name) meets found
no_expansion names text macro_fault.Unclosed other meets bytes found = no_gift names text bytes not_closed meets found
no_expansion names text macro_fault.NestedReference other meets bytes found = no_gift names text bytes dollar_in_brackets meets found
no_expansion names text macro_fault.TooLong other meets bytes found = no_gift names text bytes too_long meets found
no_expansion names text (macro_fault.Function word) other meets bytes found = no_gift names text bytes (calls_function word) meets found

-- ---- filters

all_left : {A : Type 0} (xs : List A) → xs ≡ filter (λ x. not false) xs
all_left [] = refl
all_left (x ∷ xs) = ap (λ ys. x ∷ ys) (all_left xs)

filter_one : {A : Type 0} (p q : A → Bool) (x : A) (some both : List A) (a b : Bool) → q x ≡ b → filter (λ y. not (q y)) some ≡ both →
    filter (λ y. not (q y)) (cond (not a) (x ∷ some) some) ≡ cond (not (a || b)) (x ∷ both) both
filter_one p q x some both true b e more = more
filter_one p q x some both false true e more = ap (λ t. cond (not t) (x ∷ filter (λ y. not (q y)) some) (filter (λ y. not (q y)) some)) e ∙ more
filter_one p q x some both false false e more =
    ap (λ t. cond (not t) (x ∷ filter (λ y. not (q y)) some) (filter (λ y. not (q y)) some)) e ∙ ap (λ ys. x ∷ ys) more

filter_both : {A : Type 0} (p q : A → Bool) (xs : List A) → filter (λ x. not (q x)) (filter (λ x. not (p x)) xs) ≡ filter (λ x. not (p x || q x)) xs
filter_both p q [] = refl
filter_both p q (x ∷ xs) = filter_one p q x (filter (λ y. not (p y)) xs) (filter (λ y. not (p y || q y)) xs) (p x) (q x) refl (filter_both p q xs)

-- ---- the items that are passed

module _ {A : Type 0} (name_of : A → List ℕ) (rules : List A) (given : Defined) (all : List Item) where
  -- with the items that are left to look at, and what is defined above them: which rules stand so far
  pub record SoFar (now : Defined) (rest : List Item) (left : List A) : Type 0 where
    pub own : (name : List ℕ) → Bool
    pub left_is : left ≡ filter (λ rule. not (own (name_of rule))) rules
    pub told : (name : List ℕ) → own name ≡ true → HasOwn given all name
    pub behind_it : (name : List ℕ) → HasOwn now rest name → HasOwn given all name
    pub covered : (name : List ℕ) → HasOwn given all name → (own name ≡ true) ⊎ HasOwn now rest name

  pub so_far_start : (left : List A) → left ≡ rules → SoFar given all left
  so_far_start left is = record {
    own = λ name. false;
    left_is = is ∙ all_left rules;
    told = λ name e. absurd cc;
    behind_it = λ name has_one. has_one;
    covered = λ name has_one. inr has_one;
  }

  -- what stands so far may be told of equal things
  pub so_far_same : (now new : Defined) (rest : List Item) (left other : List A) → new ≡ now → other ≡ left → SoFar now rest left → SoFar new rest other
  so_far_same now new rest left other defined same so =
      subst (λ n. SoFar n rest other) (sym defined) (subst (λ l. SoFar now rest l) (sym same) so)

  -- items that say no more of any name than those behind them
  passed : (now new : Defined) (rest more : List Item) (left : List A) → ((name : List ℕ) → HasOwn now rest name → HasOwn new more name) →
      ((name : List ℕ) → HasOwn new more name → HasOwn now rest name) → SoFar now rest left → SoFar new more left
  passed now new rest more left onward back so = record {
    own = so.own;
    left_is = so.left_is;
    told = so.told;
    behind_it = λ name has_one. so.behind_it name (back name has_one);
    covered = λ name has_one. elim (so.covered name has_one) [ inl e ↦ inl e | inr has_it ↦ inr (onward name has_it) ];
  }

  pub so_far_definition : (now new : Defined) (rest more : List Item) (left : List A) (d : Definition) → rest ≡ item.Definition d ∷ more → new ≡ behind now d →
      SoFar now rest left → SoFar new more left
  so_far_definition now new rest more left d at is so =
      let one : SoFar now (item.Definition d ∷ more) left = subst (λ r. SoFar now r left) at so in
      subst (λ n. SoFar n more left) (sym is)
      (passed now (behind now d) (item.Definition d ∷ more) more left (λ name has_one. has_one) (λ name has_one. has_one) one)

  pub so_far_special : (now : Defined) (rest more : List Item) (left : List A) (s : Special) → rest ≡ item.Special s ∷ more → SoFar now rest left → SoFar now more left
  so_far_special now rest more left s at so =
      passed now now (item.Special s ∷ more) more left (λ name has_one. has_one) (λ name has_one. has_one) (subst (λ r. SoFar now r left) at so)

  -- a rule whose targets have no expansion
  pub so_far_fault : (now : Defined) (rest more : List Item) (left : List A) (rule : Rule) → rest ≡ item.Rule rule ∷ more →
      ((bytes : List ℕ) → ExpandsTo (rule_meanings now) rule.targets (gives bytes) → ⊥) → SoFar now rest left → SoFar now more left
  so_far_fault now rest more left rule at none so =
      passed now now (item.Rule rule ∷ more) more left onward (λ name has_one. inr has_one) (subst (λ r. SoFar now r left) at so)
    where
      onward : (name : List ℕ) → HasOwn now (item.Rule rule ∷ more) name → HasOwn now more name
      onward name (inl names) = absurd (none names.are.expansion names.are.expands)
      onward name (inr has_one) = has_one

  -- a rule with these targets
  module _ (now : Defined) (more : List Item) (left : List A) (rule : Rule) (text : List ℕ) (expands : ExpandsTo (rule_meanings now) rule.targets (gives text))
      (so : SoFar now (item.Rule rule ∷ more) left) where
    abbrev with_own : (name : List ℕ) → Bool
    with_own name = so.own name || has name (words text)

    are : AreWordsOf now rule.targets (words text)
    are = record { expansion = text; expands = expands; cut = refl }

    names_it : (name : List ℕ) → has name (words text) ≡ true → Names now rule name
    names_it name e = record { targets = words text; are = are; among = (has_decides name (words text)).0 e }

    told_by : (name : List ℕ) (a b : Bool) → so.own name ≡ a → has name (words text) ≡ b → (a || b) ≡ true → HasOwn given all name
    told_by name true b own named e = so.told name own
    told_by name false b own named e = so.behind_it name (inl (names_it name (named ∙ e)))

    or_left : (a b : Bool) → a ≡ true → (a || b) ≡ true
    or_left true b e = refl
    or_left false b e = cc

    or_right : (a b : Bool) → b ≡ true → (a || b) ≡ true
    or_right true b e = refl
    or_right false b e = e

    covers : (name : List ℕ) → (so.own name ≡ true) ⊎ HasOwn now (item.Rule rule ∷ more) name → (with_own name ≡ true) ⊎ HasOwn now more name
    covers name (inl e) = inl (or_left (so.own name) (has name (words text)) e)
    covers name (inr (inl names)) =
        let same : names.targets ≡ words text = words_once now rule.targets names.targets (words text) names.are are in
        let among : Contains (words text) name = subst (λ ws. Contains ws name) same names.among in
        inl (or_right (so.own name) (has name (words text)) ((has_decides name (words text)).1 among))
    covers name (inr (inr has_one)) = inr has_one

    pub so_far_rule : (new : List A) → new ≡ filter (λ r. not (has (name_of r) (words text))) left → SoFar now more new
    so_far_rule new is = record {
      own = with_own;
      left_is =
          is ∙ ap (filter (λ r. not (has (name_of r) (words text)))) so.left_is
          ∙ filter_both (λ r. so.own (name_of r)) (λ r. has (name_of r) (words text)) rules;
      told = λ name e. told_by name (so.own name) (has name (words text)) refl refl e;
      behind_it = λ name has_one. so.behind_it name (inr has_one);
      covered = λ name has_one. covers name (so.covered name has_one);
    }

  all_told : (now : Defined) (left : List A) (so : SoFar now [] left) → TellsOwn given all so.own
  all_told now left so name = (so.told name, λ has_one. elim (so.covered name has_one) [ inl e ↦ e | inr none ↦ absurd none ])

  -- all items are passed
  pub so_far_end : (now : Defined) (rest : List Item) (left : List A) → rest ≡ [] → SoFar now rest left →
      (own : (name : List ℕ) → Bool) × TellsOwn given all own × (left ≡ filter (λ rule. not (own (name_of rule))) rules)
  so_far_end now rest left none so =
      let one : SoFar now [] left = subst (λ r. SoFar now r left) none so in
      (one.own, all_told now left one, one.left_is)

-- the items from the one of this number on
pub from_item : (items : List Item) (k : ℕ) (one : Item) → k < length items → one ≡ get_or items k one → drop k items ≡ one ∷ drop (k + 1) items
from_item items k one within is = drop-cons items k one within ∙ ap (λ m. m ∷ drop (suc k) items) (sym is) ∙ rw add-one refl

-- ---- one answer

same_bool : (a b : Bool) → (a ≡ true → b ≡ true) → (b ≡ true → a ≡ true) → a ≡ b
same_bool true b on back = sym (on refl)
same_bool false true on back = back refl
same_bool false false on back = refl

-- of the same items the same is told
pub tells_once : (given : Defined) (items : List Item) (a b : (name : List ℕ) → Bool) → TellsOwn given items a → TellsOwn given items b → a ≡ b
tells_once given items a b of_a of_b =
    let at : (name : List ℕ) → a name ≡ b name
    = λ name. same_bool (a name) (b name) (λ e. (of_b name).1 ((of_a name).0 e)) (λ e. (of_a name).1 ((of_b name).0 e)) in
    λ i name. at name i
