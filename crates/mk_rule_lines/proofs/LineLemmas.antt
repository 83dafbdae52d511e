-- The rule lines of items, one more item at a time.
use Rattle.std.specs.Prelude.{Result, Ok, Err, IsErrAnd, IfErr}
use Rattle.std.proofs.Math.Seq.{drop-cons}
use Rattle.std.proofs.Common.{arith, add-one, get_or, drop, length, ◌+◌, ◌<◌, ◌≡◌, ◌∙◌, ℕ, suc, inl, inr, List, [], ◌∷◌, ◌++◌, Option, Some, None, refl, sym, ap, subst}
use Rattle.byte_strings.specs.Blanks.{words}
use Rattle.mk_macros.specs.declared.fault.MacroFault.{MacroFault}
use Rattle.mk_macros.specs.declared.fault.MacroFault.TheVariants.{OutOfMemory, Loop, Unclosed, NestedReference, TooLong, Function}
use Rattle.mk_reader.specs.declared.item.Definition.{Definition}
use Rattle.mk_reader.specs.declared.item.Rule.{Rule}
use Rattle.mk_reader.specs.declared.item.Item.{Item}
use Rattle.mk_reader.specs.declared.item.Item.TheVariants as item
use Rattle.mk_rule_lines.specs.declared.fault.TextPlace.{TextPlace}
use Rattle.mk_rule_lines.specs.declared.fault.RuleFault.{RuleFault}
use Rattle.mk_rule_lines.specs.declared.fault.RuleFault.TheVariants as fault
use Rattle.std.proofs.lemmas.List.{append_assoc, append-nil}
use Rattle.mk_reader.specs.declared.special.SpecialName.{SpecialName}
use Rattle.mk_rule_lines.specs.declared.rule_line.RuleLine.{RuleLine}
use Rattle.mk_macros.specs.Ranks.{Defined}
use Rattle.mk_rule_lines.specs.Lines.{IsRuleLine, AreRuleLines, no_items, behind_definition, a_rule, a_special, behind, behind_items, AreTextsFault, IsRuleLineFault, IsLinesFault, IsToldAt, told_place}

-- a fault of the texts, told of the place of the line, is one of the line
pub told_at : (given : Defined) (rule : Rule) (place : Option TextPlace) (f : MacroFault) (told : RuleFault) →
    place ≡ told_place given.language rule.file rule.line → IsToldAt place f told → AreTextsFault given rule.targets rule.prerequisites f → IsRuleLineFault given rule told
told_at given rule place OutOfMemory told here is meets = subst (IsRuleLineFault given rule) (sym is) tt
told_at given rule place (Loop name) told here is meets = subst (IsRuleLineFault given rule) (sym is) (record { text = meets; place = here })
told_at given rule place Unclosed told here is meets = subst (IsRuleLineFault given rule) (sym is) (record { text = meets; place = here })
told_at given rule place NestedReference told here is meets = subst (IsRuleLineFault given rule) (sym is) (record { text = meets; place = here })
told_at given rule place TooLong told here is meets = subst (IsRuleLineFault given rule) (sym is) (record { text = meets; place = here })
told_at given rule place (Function word) told here is meets = subst (IsRuleLineFault given rule) (sym is) (record { text = meets; place = here })

-- a fault of the items below a definition
definition_passed : (given : Defined) (d : Definition) (items : List Item) (f : RuleFault) → IsLinesFault (behind given d) items f → IsLinesFault given (item.Definition d ∷ items) f
definition_passed given d items fault.OutOfMemory meets = tt
definition_passed given d items (fault.Macro f) meets = meets
definition_passed given d items _ meets = absurd meets

-- a fault of the first rule, and of the items below it, where it gives a line
module _ (given : Defined) (items : List Item) (rule : Rule) where
  rule_meets : (f : RuleFault) → IsRuleLineFault given rule f → IsLinesFault given (item.Rule rule ∷ items) f
  rule_meets fault.OutOfMemory meets = tt
  rule_meets (fault.Macro f) meets = inl meets
  rule_meets _ meets = absurd meets

  special_meets : (name : SpecialName) (f : RuleFault) → IsRuleLineFault given rule f → IsLinesFault given (item.Special (record { name = name; rule = rule }) ∷ items) f
  special_meets name fault.OutOfMemory meets = tt
  special_meets name (fault.Macro f) meets = inl meets
  special_meets name _ meets = absurd meets

  rule_passed : (l : RuleLine) → IsRuleLine given None rule l → (f : RuleFault) → IsLinesFault given items f → IsLinesFault given (item.Rule rule ∷ items) f
  rule_passed l is fault.OutOfMemory meets = tt
  rule_passed l is (fault.Macro f) meets = inr (l, is, meets)
  rule_passed l is _ meets = absurd meets

  special_passed : (name : SpecialName) (l : RuleLine) → IsRuleLine given (Some name) rule l → (f : RuleFault) → IsLinesFault given items f →
      IsLinesFault given (item.Special (record { name = name; rule = rule }) ∷ items) f
  special_passed name l is fault.OutOfMemory meets = tt
  special_passed name l is (fault.Macro f) meets = inr (l, is, meets)
  special_passed name l is _ meets = absurd meets

-- an empty text has no words
pub no_words : words [] ≡ []
unfolding words
no_words = refl

-- what is known where some of the items have been read: what the lines of the items that are left, and what their
-- faults, say of all items
pub record SoFar (given_first : Defined) (items : List Item) (given : Defined) (done : List RuleLine) (left : List Item) : Type 0 where
  pub lines : (more : List RuleLine) → AreRuleLines given left more → AreRuleLines given_first items (done ++ more)
  pub all : behind_items given left ≡ behind_items given_first items
  pub faults : (f : RuleFault) → IsLinesFault given left f → IsLinesFault given_first items f

pub so_far_start : (given : Defined) (items : List Item) → SoFar given items given [] items
so_far_start given items = record { lines = λ more h. h; all = refl; faults = λ f h. h }

module _ (first : Defined) (items : List Item) (given : Defined) (done : List RuleLine) (left : List Item) where
  pub so_far_definition : (d : Definition) (after : Defined) → after ≡ behind given d → SoFar first items given done (item.Definition d ∷ left) → SoFar first items after done left
  so_far_definition d after is so =
      let here : SoFar first items (behind given d) done left = record {
        lines = λ more h. so.lines more (behind_definition h);
        all = so.all;
        faults = λ f h. so.faults f (definition_passed given d left f h);
      } in
      subst (λ (r : Defined). SoFar first items r done left) (sym is) here

  pub so_far_rule : (rule : Rule) (l : RuleLine) → IsRuleLine given None rule l → SoFar first items given done (item.Rule rule ∷ left) → SoFar first items given (done ++ l ∷ []) left
  so_far_rule rule l is so = record {
    lines = λ more h. subst (AreRuleLines first items) (sym (append_assoc done (l ∷ []) more)) (so.lines (l ∷ more) (a_rule is h));
    all = so.all;
    faults = λ f h. so.faults f (rule_passed given left rule l is f h);
  }

  pub so_far_special : (name : SpecialName) (rule : Rule) (l : RuleLine) → IsRuleLine given (Some name) rule l →
      SoFar first items given done (item.Special (record { name = name; rule = rule }) ∷ left) → SoFar first items given (done ++ l ∷ []) left
  so_far_special name rule l is so = record {
    lines = λ more h. subst (AreRuleLines first items) (sym (append_assoc done (l ∷ []) more)) (so.lines (l ∷ more) (a_special is h));
    all = so.all;
    faults = λ f h. so.faults f (special_passed given left rule name l is f h);
  }

-- the first item that is left has the fault
module _ (first : Defined) (items : List Item) (given : Defined) (done : List RuleLine) (left : List Item) (rule : Rule) where
  pub rule_refused : SoFar first items given done (item.Rule rule ∷ left) → (f : RuleFault) → IsRuleLineFault given rule f → IsLinesFault first items f
  rule_refused so f meets = so.faults f (rule_meets given left rule f meets)

  pub special_refused : (name : SpecialName) → SoFar first items given done (item.Special (record { name = name; rule = rule }) ∷ left) →
      (f : RuleFault) → IsRuleLineFault given rule f → IsLinesFault first items f
  special_refused name so f meets = so.faults f (special_meets given left rule name f meets)

pub so_far_end : (first : Defined) (items : List Item) (given : Defined) (done : List RuleLine) → SoFar first items given done [] → AreRuleLines first items done
so_far_end first items given done so = subst (AreRuleLines first items) (append-nil done) (so.lines [] no_items)

-- a list of no items
pub nothing_left : {A : Type 0} (xs : List A) → length xs ≡ 0 → xs ≡ []
nothing_left [] is = refl
nothing_left (x ∷ xs) is = absurd (omega arith)

-- one item fewer
pub one_fewer : {A : Type 0} (old new : List A) (x : A) (before after : ℕ) → old ≡ x ∷ new → after + 1 ≡ before → before ≡ length old → after ≡ length new
one_fewer old new x before after is less count = let e : length old ≡ length (x ∷ new) = ap length is in omega arith

-- a fault that is handed on
pub handed_on : {T : Type 0} (result : Result T RuleFault) (P : RuleFault → Type 0) (f : RuleFault) → IsErrAnd result (λ g. g ≡ f) → P f → IfErr result P
handed_on (Ok x) P f is p = tt
handed_on (Err g) P f is p = subst P (sym is) p

-- the lines from one on
pub from_line : (lines : List RuleLine) (k : ℕ) (l : RuleLine) → k < length lines → l ≡ get_or lines k l → drop k lines ≡ l ∷ drop (k + 1) lines
from_line lines k l within is = drop-cons lines k l within ∙ ap (λ m. m ∷ drop (suc k) lines) (sym is) ∙ rw add-one refl
