-- Which implicit rules lines have, and in which order they are tried: told of the lines and of the list of suffixes. `Forms`
-- computes them.
use Rattle.std.specs.Prelude.{◌≡◌, ℕ, ◌+◌, true, false, List, [], ◌∷◌, ◌++◌, length, map, flat_map, Option, Some, None}
use Rattle.mk_macros.specs.Spelled.{Lacks}
use Rattle.mk_rule_lines.specs.Explicit.{words_by}
use Rattle.mk_rule_lines.specs.Kinds.{leaves_folders, IsPatternRule, IsWholePatternRule, IsSuffixRuleFor}
use Rattle.mk_makefile.specs.ByName.{HasRecipeAt}
use Rattle.mk_makefile.specs.Order.{in_order_of}
use Rattle.mk_makefile.specs.declared.form.Form.{Form}
use Rattle.mk_rule_lines.specs.declared.rule_line.RuleLine.{RuleLine}

-- Pattern rules

-- by line k the target `before%after` is made from its prerequisites, the ordinary ones first, then those behind the bar (make(1S),
-- "Pattern Matching Rules"); what else one run makes, or by the run for which target it is made (GNU make manual, "Pattern Intro")
pub record IsPatternForm (k : ℕ) (l : RuleLine) (target : List ℕ) (leader : Option (List ℕ)) (others : List (List ℕ)) (form : Form) : Type 0 where
  pub target_is : target ≡ form.before ++ 37 ∷ form.after
  pub lacks : Lacks 37 form.before × Lacks 37 form.after
  pub prerequisites : form.prerequisites ≡ words_by false l ++ words_by true l
  pub ordinary : form.ordinary ≡ length (words_by false l)
  pub folders : form.leaves_folders ≡ leaves_folders l.profile target
  pub stem : form.takes_empty ≡ false
  pub rule : form.rule ≡ k
  pub leader_is : form.leader ≡ leader
  pub others_are : form.others ≡ others

-- the forms of these targets of line k, which the run for its first one makes too (that it is the first's: own)
pub data AreFurtherForms (k : ℕ) (l : RuleLine) (leader : List ℕ) : (targets : List (List ℕ)) → List Form → Type 0 where
  no_further : AreFurtherForms k l leader [] []
  a_further : {target : List ℕ} {targets : List (List ℕ)} {form : Form} {forms : List Form} →
      IsPatternForm k l target (Some leader) [] form → AreFurtherForms k l leader targets forms → AreFurtherForms k l leader (target ∷ targets) (form ∷ forms)

-- the forms of line k, a pattern rule: that of its first target, then those of the others
pub record AreLineForms (k : ℕ) (l : RuleLine) (forms : List Form) : Type 0 where
  pub is : IsWholePatternRule l
  pub target : List ℕ
  pub others : List (List ℕ)
  pub targets : l.targets ≡ target ∷ others
  pub first : Form
  pub further : List Form
  pub whole : forms ≡ first ∷ further
  pub of_first : IsPatternForm k l target None others first
  pub of_others : AreFurtherForms k l target others further

-- the forms of the lines that are pattern rules, in the order of the lines, of which the first has the number k
pub data ArePatternForms : (k : ℕ) → List RuleLine → List Form → Type 0 where
  past_lines : {k : ℕ} → ArePatternForms k [] []
  a_pattern : {k : ℕ} {l : RuleLine} {lines : List RuleLine} {own forms : List Form} →
      AreLineForms k l own → ArePatternForms (k + 1) lines forms → ArePatternForms k (l ∷ lines) (own ++ forms)
  other_line : {k : ℕ} {l : RuleLine} {lines : List RuleLine} {forms : List Form} →
      (IsPatternRule l → ⊥) → ArePatternForms (k + 1) lines forms → ArePatternForms k (l ∷ lines) forms

-- Suffix rules

-- a suffix rule is named by two suffixes, `st`, or by one, `s`
pub data SuffixRule : Type 0 where
  of_two : (s t : List ℕ) → SuffixRule
  of_one : (s : List ℕ) → SuffixRule

abbrev pub name_of : SuffixRule → List ℕ
name_of (of_two s t) = s ++ t
name_of (of_one s) = s

-- by the rule `st` of line k a name that ends in t, behind a stem, comes from the stem and s; by the rule `s` any name, also the
-- empty one, comes from itself and s (make(1S), "Suffix Rules"; POSIX make, "Inference Rules")
abbrev pub form_of : SuffixRule → (k : ℕ) → Form
form_of (of_two s t) k =
    record {
      before = [];
      after = t;
      prerequisites = (37 ∷ s) ∷ [];
      ordinary = 1;
      leaves_folders = false;
      takes_empty = false;
      rule = k;
      leader = None;
      others = [];
    }
form_of (of_one s) k =
    record {
      before = [];
      after = [];
      prerequisites = (37 ∷ s) ∷ [];
      ordinary = 1;
      leaves_folders = false;
      takes_empty = true;
      rule = k;
      leader = None;
      others = [];
    }

-- the rules in the order in which they are tried: for each suffix s in the order of the list, `st` for each suffix t in that
-- order, and then `s` (own order)
abbrev pub in_order : (suffixes : List (List ℕ)) → List SuffixRule
in_order suffixes = flat_map (λ s. map (of_two s) suffixes ++ of_one s ∷ []) suffixes

-- the forms of those of these suffix rules that a line has, in their order
pub data AreSuffixForms (suffixes : List (List ℕ)) (lines : List RuleLine) : List SuffixRule → List Form → Type 0 where
  no_rules : AreSuffixForms suffixes lines [] []
  a_rule : {rule : SuffixRule} {rules : List SuffixRule} {forms : List Form} (k : ℕ) →
      HasRecipeAt (IsSuffixRuleFor suffixes (name_of rule)) lines k → AreSuffixForms suffixes lines rules forms →
      AreSuffixForms suffixes lines (rule ∷ rules) (form_of rule k ∷ forms)
  no_rule : {rule : SuffixRule} {rules : List SuffixRule} {forms : List Form} →
      ((k : ℕ) → HasRecipeAt (IsSuffixRuleFor suffixes (name_of rule)) lines k → ⊥) → AreSuffixForms suffixes lines rules forms →
      AreSuffixForms suffixes lines (rule ∷ rules) forms

-- All

-- the implicit rules are listed as the pattern rules, and then the suffix rules (own order), and tried in the order of the profile
pub record AreForms (suffixes : List (List ℕ)) (lines : List RuleLine) (forms : List Form) : Type 0 where
  pub patterns : List Form
  pub suffix_rules : List Form
  pub whole : forms ≡ in_order_of lines (patterns ++ suffix_rules)
  pub are_patterns : ArePatternForms 0 lines patterns
  pub are_suffix_rules : AreSuffixForms suffixes lines (in_order suffixes) suffix_rules
