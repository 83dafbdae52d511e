-- What rule lines say of a name by name: the lines that make it, their recipes and their prerequisites, and whether it is phony.
use Rattle.std.specs.Prelude.{ℕ, Bool, true, false, not, ◌&&◌, ◌||◌, List, [], ◌∷◌, filter, flat_map, bytes_eq, codes, slice_get, if◌then◌else◌}
use Rattle.std.specs.List.{list_any}
use Rattle.std.specs.Option.{option_map_or}
use Rattle.mk_profile.specs.Profile.{is_wide}
use Rattle.mk_profile.specs.declared.profile.Profile.{Profile}
use Rattle.mk_rule_lines.specs.Rules.{has, is_always, is_phony_list, is_default_rule, places, suffixes_of, targets_by}
use Rattle.mk_rule_lines.specs.declared.rule_line.RuleLine.{RuleLine}

-- the targets that a line makes by name
abbrev pub explicit_targets : List RuleLine → RuleLine → List (List ℕ)
explicit_targets lines l = targets_by false (suffixes_of lines) l

-- the lines that make a name, in order
abbrev pub lines_of : List RuleLine → (name : List ℕ) → List RuleLine
lines_of lines name = filter (λ l. has name (explicit_targets lines l)) lines

-- the numbers of these lines
abbrev pub numbers_of : List RuleLine → (name : List ℕ) → List ℕ
numbers_of lines name = places (λ l. has name (explicit_targets lines l)) 0 lines

-- the targets of the line are phony: it is one of `.PHONY`, or one whose targets are always made, whatever their files are (that
-- these count as phony: own)
abbrev pub makes_phony : RuleLine → Bool
makes_phony l = is_phony_list l.special || is_always l

-- some line makes the name phony
abbrev pub is_phony : List RuleLine → (name : List ℕ) → Bool
is_phony lines name = list_any (λ l. has name (explicit_targets lines l) && makes_phony l) lines

-- the line of this number makes its targets phony
abbrev pub is_phony_at : List RuleLine → (k : ℕ) → Bool
is_phony_at lines k = option_map_or makes_phony (slice_get lines k) false

-- the line of this number is one of `.DEFAULT`
abbrev pub is_default_at : List RuleLine → (k : ℕ) → Bool
is_default_at lines k = option_map_or (λ l. is_default_rule l.special) (slice_get lines k) false

-- the word `.WAIT`, which is no prerequisite (dmake manual)
abbrev pub is_wait : (word : List ℕ) → Bool
is_wait word = bytes_eq word (codes ".WAIT")

-- the bar, behind which the order-only prerequisites of a line stand: in the wide profile the word `|` (GNU make manual, "Types of
-- Prerequisites"; that it is a word: own)
abbrev pub is_bar : Profile → (word : List ℕ) → Bool
is_bar profile word = is_wide profile && bytes_eq word (codes "|")

-- the words before the first bar, and those behind it, where another one is a word like any other (GNU make)
abbrev pub before_bar : Profile → (words : List (List ℕ)) → List (List ℕ)
before_bar profile [] = []
before_bar profile (word ∷ words) = if is_bar profile word then [] else word ∷ before_bar profile words

abbrev pub behind_bar : Profile → (words : List (List ℕ)) → List (List ℕ)
behind_bar profile [] = []
behind_bar profile (word ∷ words) = if is_bar profile word then words else behind_bar profile words

-- the words of a line's prerequisites, or those of its order-only ones
abbrev pub words_by : (order_only : Bool) → RuleLine → List (List ℕ)
words_by false l = before_bar l.profile l.prerequisites
words_by true l = behind_bar l.profile l.prerequisites

-- the words without `.WAIT`
abbrev pub without_waits : (words : List (List ℕ)) → List (List ℕ)
without_waits words = filter (λ word. not (is_wait word)) words

abbrev pub names_by : (order_only : Bool) → RuleLine → List (List ℕ)
names_by order_only l = without_waits (words_by order_only l)

-- the prerequisites of a line, without order-only ones
abbrev pub names_in : RuleLine → List (List ℕ)
names_in l = names_by false l

-- the order-only prerequisites of a line
abbrev pub order_only_in : RuleLine → List (List ℕ)
order_only_in l = names_by true l

-- what a name is made from by name: the prerequisites of its lines, joined in order (make(1S), "Rules")
abbrev pub explicit_of : List RuleLine → (name : List ℕ) → List (List ℕ)
explicit_of lines name = flat_map names_in (lines_of lines name)

-- what is made before a name and isn't what it is made from: the order-only prerequisites of its lines, joined in order. A name that is
-- an ordinary prerequisite too may be among them
abbrev pub order_only_of : List RuleLine → (name : List ℕ) → List (List ℕ)
order_only_of lines name = flat_map order_only_in (lines_of lines name)
