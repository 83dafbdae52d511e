-- What `.WAIT` orders (dmake manual; own: what it orders).
use Rattle.std.specs.Prelude.{ℕ, Bool, true, false, ◌&&◌, ◌||◌, List, [], ◌∷◌, flat_map, if◌then◌else◌}
use Rattle.std.specs.List.{list_any}
use Rattle.mk_names.specs.Names.{has_name}
use Rattle.mk_rule_lines.specs.Explicit.{is_wait, words_by}
use Rattle.mk_rule_lines.specs.Rules.{has, targets_by}
use Rattle.mk_rule_lines.specs.declared.rule_line.RuleLine.{RuleLine}

-- a word at the front of the first group
abbrev pub before_first : (word : List ℕ) → (groups : List (List (List ℕ))) → List (List (List ℕ))
before_first word [] = (word ∷ []) ∷ []
before_first word (group ∷ groups) = (word ∷ group) ∷ groups

-- the words in groups, parted at each `.WAIT`
abbrev pub groups_of : (words : List (List ℕ)) → List (List (List ℕ))
groups_of [] = [] ∷ []
groups_of (word ∷ words) = if is_wait word then [] ∷ groups_of words else before_first word (groups_of words)

-- p stands in a group before one with q
abbrev pub orders : (groups : List (List (List ℕ))) → (p q : List ℕ) → Bool
orders [] p q = false
orders (group ∷ groups) p q = (has p group && has q (flat_map (λ g. g) groups)) || orders groups p q

-- a `.WAIT` is among the prerequisites of the line
abbrev pub waits_in : RuleLine → Bool
waits_in l = list_any is_wait l.prerequisites

-- in this line p stands before a `.WAIT` and q behind it, both among the prerequisites or both among the order-only ones, and the line
-- makes one of these names
abbrev pub line_orders : (names suffixes : List (List ℕ)) → (p q : List ℕ) → RuleLine → Bool
line_orders names suffixes p q l =
    list_any (has_name names) (targets_by false suffixes l)
    && (orders (groups_of (words_by false l)) p q || orders (groups_of (words_by true l)) p q)
