-- The targets of a line that are suffix rules, or those that are not.
use Rattle.std.proofs.Common.{◌≡◌, ℕ, Bool, true, false, not, ◌&&◌, ◌||◌, List, [], ◌∷◌, filter, refl}
use Rattle.std.proofs.lemmas.Bool.{and_parts}
use Rattle.mk_rule_lines.specs.Rules.{comes_out, is_suffix_target, makes_targets, may_be_suffix_rule, targets_by}
use Rattle.mk_rule_lines.specs.declared.rule_line.RuleLine.{RuleLine}

-- those of this choice among the targets that are left
abbrev pub chosen : (choice : Bool) (suffixes : List (List ℕ)) → RuleLine → (left : List (List ℕ)) → List (List ℕ)
chosen choice suffixes l left = filter (λ t. comes_out choice (is_suffix_target suffixes l t)) left

-- the line may have targets of this choice
abbrev pub may_have_targets : (choice : Bool) → RuleLine → Bool
may_have_targets choice l = (not choice || may_be_suffix_rule l) && makes_targets l

none_of : (suffixes : List (List ℕ)) (l : RuleLine) → may_be_suffix_rule l ≡ false → (names : List (List ℕ)) → chosen true suffixes l names ≡ []
none_of suffixes l none [] = refl
none_of suffixes l none (name ∷ names) = simp none (none_of suffixes l none names)

no_suffix_rule : (suffixes : List (List ℕ)) (l : RuleLine) → may_be_suffix_rule l ≡ false → (b : Bool) → makes_targets l ≡ b → targets_by true suffixes l ≡ []
no_suffix_rule suffixes l none true e = simp e (none_of suffixes l none l.targets)
no_suffix_rule suffixes l none false e = simp e refl

none_at : (choice : Bool) (suffixes : List (List ℕ)) (l : RuleLine) (b : Bool) → may_be_suffix_rule l ≡ b → may_have_targets choice l ≡ false
    → targets_by choice suffixes l ≡ []
none_at true suffixes l true e none = let no : makes_targets l ≡ false = simp e at none in simp no refl
none_at true suffixes l false e none = no_suffix_rule suffixes l e (makes_targets l) refl
none_at false suffixes l b e none = let no : makes_targets l ≡ false = none in simp no refl

-- a line that may have none of this choice has none
pub none_made : (choice : Bool) (suffixes : List (List ℕ)) (l : RuleLine) → may_have_targets choice l ≡ false → targets_by choice suffixes l ≡ []
none_made choice suffixes l none = none_at choice suffixes l (may_be_suffix_rule l) refl none

-- and one that may have some has those that are chosen
pub all_made : (choice : Bool) (suffixes : List (List ℕ)) (l : RuleLine) → may_have_targets choice l ≡ true
    → targets_by choice suffixes l ≡ chosen choice suffixes l l.targets
all_made choice suffixes l may =
    let makes : makes_targets l ≡ true = (and_parts (not choice || may_be_suffix_rule l) (makes_targets l) may).1 in simp makes refl

-- one target more is looked at
pub taken : (choice : Bool) (suffixes : List (List ℕ)) (l : RuleLine) (t : List ℕ) (left : List (List ℕ)) → comes_out choice (is_suffix_target suffixes l t) ≡ true
    → chosen choice suffixes l (t ∷ left) ≡ t ∷ chosen choice suffixes l left
taken choice suffixes l t left e = simp e refl

pub left_out : (choice : Bool) (suffixes : List (List ℕ)) (l : RuleLine) (t : List ℕ) (left : List (List ℕ)) → comes_out choice (is_suffix_target suffixes l t) ≡ false
    → chosen choice suffixes l (t ∷ left) ≡ chosen choice suffixes l left
left_out choice suffixes l t left e = simp e refl
