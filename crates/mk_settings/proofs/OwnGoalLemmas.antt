-- The goal that is computed of lines is that of the first line that gives one.
use Rattle.std.specs.Bool.{Decides}
use Rattle.std.specs.List.{All, list_any}
use Rattle.std.proofs.Common.{◌≡◌, ◌∙◌, ℕ, Bool, true, false, not, cond, ◌&&◌, ◌==◌, List, [], ◌∷◌, ◌++◌, take, filter, ◌⊎◌, inl, inr, refl, sym, ap, subst}
use Rattle.std.proofs.lemmas.Bool.{both_ways, not-true, not_from_false, and_parts, and_from}
use Rattle.std.proofs.lemmas.Bool.Decides.{Decides-and, Decides-not, Decides-eqb}
use Rattle.std.proofs.lemmas.List.Elements.{All-nil, All-cons, All-head, All-tail}
use Rattle.mk_settings.specs.Goals.{IsDotted, GivesGoal, GivesNoGoal, IsFirstGoal, AreOwnGoals, AreGoals, is_slash, is_dotted, may_be_goal, first_goal, first_goals, goals_of}
use Rattle.mk_rule_lines.specs.Kinds.{IsRule, IsPatternRule, IsSuffixRule}
use Rattle.mk_rule_lines.specs.Rules.{suffixes_of, is_rule, is_pattern_rule, is_suffix_target}
use Rattle.mk_rule_lines.specs.declared.rule_line.RuleLine.{RuleLine}
use Rattle.mk_rule_lines.proofs.KindLemmas.{rule_decides, pattern_rule_decides, suffix_rule_decides}

dotted_decides : (name : List ℕ) → Decides (is_dotted name) (IsDotted name)
dotted_decides [] = ((λ e. absurd (both_ways false refl e)), λ (rest, is, lacks). absurd cc)
dotted_decides (b ∷ bs) = (
  (λ e. let parts = and_parts (b == 46) (not (list_any is_slash bs)) e in
      (bs, ap (λ x. x ∷ bs) ((Decides-eqb b 46).0 parts.0), not-true (list_any is_slash bs) parts.1)),
  λ (rest, is, lacks).
      let first : b ≡ 46 = cc in
      let same : bs ≡ rest = cc in
      and_from (b == 46) (not (list_any is_slash bs)) ((Decides-eqb b 46).1 first)
      (not_from_false (list_any is_slash bs) (ap (list_any is_slash) same ∙ lacks)),
)

module _ (suffixes : List (List ℕ)) (l : RuleLine) where
  abbrev MayBe : List ℕ → Type 0
  MayBe target = IsRule l × ((IsPatternRule l → ⊥) × ((IsSuffixRule suffixes l target → ⊥) × (IsDotted target → ⊥)))

  may_be_decides : (target : List ℕ) → Decides (may_be_goal suffixes l target) (MayBe target)
  may_be_decides target =
      Decides-and (is_rule l) (not (is_pattern_rule l) && (not (is_suffix_target suffixes l target) && not (is_dotted target))) (rule_decides l)
      (Decides-and (not (is_pattern_rule l)) (not (is_suffix_target suffixes l target) && not (is_dotted target))
      (Decides-not (is_pattern_rule l) (pattern_rule_decides l))
      (Decides-and (not (is_suffix_target suffixes l target)) (not (is_dotted target))
      (Decides-not (is_suffix_target suffixes l target) (suffix_rule_decides suffixes l target))
      (Decides-not (is_dotted target) (dotted_decides target))))

  -- what the line gives, by its first target
  abbrev Given : (found : List (List ℕ)) → Type 0
  Given found = ((found ≡ []) × GivesNoGoal suffixes l) ⊎ ((target : List ℕ) × (found ≡ target ∷ []) × GivesGoal suffixes l target)

  given_at : (target : List ℕ) (others : List (List ℕ)) → l.targets ≡ target ∷ others → (b : Bool) → may_be_goal suffixes l target ≡ b →
      Given (cond b (target ∷ []) [])
  given_at target others are true e =
      let is = (may_be_decides target).0 e in
      inr (target, refl, record { rule = is.0; no_pattern = is.1.0; others = others; first = are; no_suffix_rule = is.1.1.0; undotted = is.1.1.1 })
  given_at target others are false e =
      inl (
        refl,
        λ other gives.
            let heads : target ∷ others ≡ other ∷ gives.others = sym are ∙ gives.first in
            let same : other ≡ target = cc in
            let may : may_be_goal suffixes l other ≡ true = (may_be_decides other).1 (gives.rule, (gives.no_pattern, (gives.no_suffix_rule, gives.undotted))) in
            both_ways (may_be_goal suffixes l target) e (ap (may_be_goal suffixes l) (sym same) ∙ may),
      )

  given_of : (targets : List (List ℕ)) → l.targets ≡ targets → Given (filter (may_be_goal suffixes l) (take 1 targets))
  given_of [] are = inl (refl, λ other gives. let none : [] ≡ other ∷ gives.others = sym are ∙ gives.first in absurd cc)
  given_of (target ∷ others) are = given_at target others are (may_be_goal suffixes l target) refl

  given : Given (first_goal suffixes l)
  given = given_of l.targets refl

module _ (suffixes : List (List ℕ)) where
  more_lines : (l : RuleLine) (lines : List RuleLine) (goals : List (List ℕ)) → GivesNoGoal suffixes l → AreOwnGoals suffixes lines goals → AreOwnGoals suffixes (l ∷ lines) goals
  more_lines l lines [] none all = All-cons (GivesNoGoal suffixes) l lines none all
  more_lines l lines (goal ∷ []) none is = record {
    above = l ∷ is.above;
    line = is.line;
    below = is.below;
    whole = ap (λ ls. l ∷ ls) is.whole;
    earlier = All-cons (GivesNoGoal suffixes) l is.above none is.earlier;
    gives = is.gives;
  }
  more_lines l lines (goal ∷ other ∷ more) none is = is

  -- a list of which the first part is one goal, or none
  none_at : (l : RuleLine) (lines : List RuleLine) → first_goal suffixes l ≡ [] → first_goals suffixes (l ∷ lines) ≡ first_goals suffixes lines
  none_at l lines e = ap (λ goals. goals ++ first_goals suffixes lines) e

  one_at : (l : RuleLine) (lines : List RuleLine) (goal : List ℕ) → first_goal suffixes l ≡ goal ∷ [] → take 1 (first_goals suffixes (l ∷ lines)) ≡ goal ∷ []
  one_at l lines goal e = ap (λ goals. take 1 (goals ++ first_goals suffixes lines)) e

  own_goals : (lines : List RuleLine) → AreOwnGoals suffixes lines (take 1 (first_goals suffixes lines))
  own_goals [] = All-nil (GivesNoGoal suffixes)
  own_goals (l ∷ lines) =
      elim (given suffixes l) [
        | inl none ↦
            subst (AreOwnGoals suffixes (l ∷ lines)) (sym (ap (take 1) (none_at l lines none.0)))
            (more_lines l lines (take 1 (first_goals suffixes lines)) none.1 (own_goals lines))
        | inr some ↦
            let (goal, e, gives) = some in
            let here : IsFirstGoal suffixes (l ∷ lines) goal =
            record { above = []; line = l; below = lines; whole = refl; earlier = All-nil (GivesNoGoal suffixes); gives = gives } in
            subst (AreOwnGoals suffixes (l ∷ lines)) (sym (one_at l lines goal e)) here
      ]

  -- where no line gives a goal there is none
  none_told : (lines : List RuleLine) → All (GivesNoGoal suffixes) lines → first_goals suffixes lines ≡ []
  none_told [] all = refl
  none_told (l ∷ lines) all =
      elim (given suffixes l) [
        | inl none ↦ none_at l lines none.0 ∙ none_told lines (All-tail (GivesNoGoal suffixes) l lines all)
        | inr some ↦ let (goal, e, gives) = some in absurd (All-head (GivesNoGoal suffixes) l lines all goal gives)
      ]

  first_told : (above : List RuleLine) (l : RuleLine) (below : List RuleLine) (goal : List ℕ) → All (GivesNoGoal suffixes) above → GivesGoal suffixes l goal →
      take 1 (first_goals suffixes (above ++ l ∷ below)) ≡ goal ∷ []
  first_told [] l below goal earlier gives =
      elim (given suffixes l) [
        | inl none ↦ absurd (none.1 goal gives)
        | inr some ↦
            let (other, e, is) = some in
            let heads : other ∷ is.others ≡ goal ∷ gives.others = sym is.first ∙ gives.first in
            let same : other ≡ goal = cc in
            one_at l below other e ∙ ap (λ n. n ∷ []) same
      ]
  first_told (a ∷ above) l below goal earlier gives =
      elim (given suffixes a) [
        | inl none ↦
            ap (take 1) (none_at a (above ++ l ∷ below) none.0) ∙ first_told above l below goal (All-tail (GivesNoGoal suffixes) a above earlier) gives
        | inr some ↦ let (other, e, is) = some in absurd (All-head (GivesNoGoal suffixes) a above earlier other is)
      ]

  own_goals_told : (lines : List RuleLine) (goals : List (List ℕ)) → AreOwnGoals suffixes lines goals → take 1 (first_goals suffixes lines) ≡ goals
  own_goals_told lines [] all = ap (take 1) (none_told lines all)
  own_goals_told lines (goal ∷ []) is =
      ap (λ (ls : List RuleLine). take 1 (first_goals suffixes ls)) is.whole ∙ first_told is.above is.line is.below goal is.earlier is.gives
  own_goals_told lines (goal ∷ other ∷ more) is = absurd is

pub goals_are : (lines : List RuleLine) (named goals : List (List ℕ)) → goals_of lines named ≡ goals → AreGoals lines named goals
goals_are lines [] goals e = subst (AreOwnGoals (suffixes_of lines) lines) e (own_goals (suffixes_of lines) lines)
goals_are lines (name ∷ names) goals e = sym e

pub goals_told : (lines : List RuleLine) (named goals : List (List ℕ)) → AreGoals lines named goals → goals_of lines named ≡ goals
goals_told lines [] goals are = own_goals_told (suffixes_of lines) lines goals are
goals_told lines (name ∷ names) goals are = sym are
