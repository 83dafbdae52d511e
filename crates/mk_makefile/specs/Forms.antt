-- The implicit rules of a makefile's lines.
use Rattle.std.specs.Prelude.{ℕ, ◌+◌, List, [], ◌∷◌, ◌++◌, length, flat_map, Bool, true, false, map, Option, Some, None, if◌then◌else◌}
use Rattle.mk_rule_lines.specs.Explicit.{words_by}
use Rattle.mk_rule_lines.specs.Kinds.{leaves_folders}
use Rattle.mk_makefile.specs.Order.{in_order_of}
use Rattle.mk_rule_lines.specs.Patterns.{before_percent, behind_percent}
use Rattle.mk_rule_lines.specs.Rules.{is_pattern_rule, targets_by, recipe_places}
use Rattle.mk_makefile.specs.declared.form.Form.{Form}
use Rattle.mk_rule_lines.specs.declared.rule_line.RuleLine.{RuleLine}

-- the form of the pattern rule `target : ordinary | order_only` of this line: its first target has the others beside it, each other one
-- the first
abbrev pub pattern_form : (rule : ℕ) → RuleLine → (target : List ℕ) (leader : Option (List ℕ)) (others : List (List ℕ)) → Form
pattern_form rule l target leader others = record {
  before = before_percent target;
  after = behind_percent target;
  prerequisites = words_by false l ++ words_by true l;
  ordinary = length (words_by false l);
  leaves_folders = leaves_folders l.profile target;
  takes_empty = false;
  rule = rule;
  leader = leader;
  others = others;
}

-- the form of a target behind the first
abbrev pub further_form : (rule : ℕ) → RuleLine → (leader : List ℕ) → (target : List ℕ) → Form
further_form rule l leader target = pattern_form rule l target (Some leader) []

-- the forms of a rule, one for each target
abbrev pub forms_of_names : (rule : ℕ) → RuleLine → (targets : List (List ℕ)) → List Form
forms_of_names rule l [] = []
forms_of_names rule l (target ∷ others) = pattern_form rule l target None others ∷ map (further_form rule l target) others

-- the forms of a line, which has some where it is a pattern rule
abbrev pub forms_of_line : (rule : ℕ) → RuleLine → List Form
forms_of_line rule l = if is_pattern_rule l then forms_of_names rule l l.targets else []

-- the forms of the pattern rules in the order of their lines, the first of which has the number k
-- (make(1S), "Pattern Matching Rules")
abbrev pub pattern_forms : (k : ℕ) → List RuleLine → List Form
pattern_forms k [] = []
pattern_forms k (l ∷ lines) = forms_of_line k l ++ pattern_forms (k + 1) lines

-- a suffix rule's form: a name that ends in `after` comes from the same one with `back` in its place
abbrev pub suffix_form : (after back : List ℕ) (takes_empty : Bool) (rule : ℕ) → Form
suffix_form after back takes_empty rule =
    record {
      before = [];
      after = after;
      prerequisites = (37 ∷ back) ∷ [];
      ordinary = 1;
      leaves_folders = false;
      takes_empty = takes_empty;
      rule = rule;
      leader = None;
      others = [];
    }

-- the lines that have the recipe of a suffix rule
abbrev pub suffix_rules : (suffixes : List (List ℕ)) → List RuleLine → (name : List ℕ) → List ℕ
suffix_rules suffixes lines name = recipe_places (targets_by true suffixes) 0 lines name

-- the form of the rule `st`, where there is one: a name that ends in t comes from one that ends in s
-- (make(1S), "Suffix Rules"; POSIX make, "Inference Rules")
abbrev pub pair_forms : (rules : List ℕ → List ℕ) → (s t : List ℕ) → List Form
pair_forms rules s t = map (suffix_form t s false) (rules (s ++ t))

-- the form of the rule `s`, where there is one: any name, also the empty one, comes from itself followed by s
abbrev pub single_forms : (rules : List ℕ → List ℕ) → (s : List ℕ) → List Form
single_forms rules s = map (suffix_form [] s true) (rules s)

-- the forms of the rules that begin with the suffix s: `st` for each t in the order of the list, then `s` alone (own order)
abbrev pub forms_from : (rules : List ℕ → List ℕ) → (suffixes : List (List ℕ)) → (s : List ℕ) → List Form
forms_from rules suffixes s = flat_map (pair_forms rules s) suffixes ++ single_forms rules s

-- the forms of the suffix rules, in the order of the list; `rules` has the line of each
abbrev pub suffix_forms : (rules : List ℕ → List ℕ) → (suffixes : List (List ℕ)) → List Form
suffix_forms rules suffixes = flat_map (forms_from rules suffixes) suffixes

-- all forms as the lines and the suffixes list them: pattern rules first (own order)
abbrev pub listed_forms : (suffixes : List (List ℕ)) → List RuleLine → List Form
listed_forms suffixes lines = pattern_forms 0 lines ++ suffix_forms (suffix_rules suffixes lines) suffixes

-- all forms in the order in which they are tried
abbrev pub forms_of : (suffixes : List (List ℕ)) → List RuleLine → List Form
forms_of suffixes lines = in_order_of lines (listed_forms suffixes lines)
