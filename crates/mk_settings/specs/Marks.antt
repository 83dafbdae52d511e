-- The targets that lines of a special name speak of.
use Rattle.std.specs.Prelude.{◌≡◌, ◌≢◌, ◌⊎◌, ℕ, Bool, true, false, not, ◌&&◌, ◌||◌, List, [], ◌++◌, filter, Option, Some, Contains, if◌then◌else◌}
use Rattle.std.specs.List.{Any, list_any, flat_map}
use Rattle.std.specs.Option.{option_map_or}
use Rattle.mk_macros.specs.Words.{file_of, without_front, without_end}
use Rattle.mk_profile.specs.Profile.{is_wide}
use Rattle.mk_profile.specs.declared.profile.Profile.{Profile}
use Rattle.mk_names.specs.Names.{has_name, all_added}
use Rattle.mk_lines.specs.Text.{is_empty}
use Rattle.mk_reader.specs.declared.special.SpecialName.{SpecialName}
use Rattle.mk_reader.specs.declared.special.SpecialName.TheVariants as special
use Rattle.mk_rule_lines.specs.Patterns.{before_percent, behind_percent}
use Rattle.mk_rule_lines.specs.Rules.{has_percent}
use Rattle.mk_rule_lines.specs.Patterns.{folder_of}
use Rattle.mk_rule_lines.specs.Patterns.{has_slash}
use Rattle.mk_settings.specs.declared.marked.Mark.{Mark}
use Rattle.mk_settings.specs.declared.marked.Mark.TheVariants as mark
use Rattle.mk_settings.specs.declared.marked.Marked.{Marked}
use Rattle.mk_rule_lines.specs.declared.rule_line.RuleLine.{RuleLine}

-- the special name of a mark's lines
abbrev pub name_of : Mark → SpecialName
name_of mark.Ignored = special.Ignore
name_of mark.Silent = special.Silent
name_of mark.Precious = special.Precious
name_of mark.Console = special.Console

-- the folder of a target that a pattern leaves aside, and what it is held against: a pattern without a `/` is held against the target
-- without its folder (GNU make manual, "How Patterns Match")
abbrev pub left_aside : (pattern target : List ℕ) → List ℕ
left_aside pattern target = if has_slash pattern then [] else folder_of target

abbrev pub held_against : (pattern target : List ℕ) → List ℕ
held_against pattern target = if has_slash pattern then target else file_of target

-- the target is of the pattern: a stem stands there in the place of the pattern's first `%`, and stem and folder aren't both empty (GNU
-- make manual, "Pattern Intro" and "How Patterns Match")
pub record IsOfPattern (pattern target : List ℕ) : Type 0 where
  pub percent : Contains pattern 37
  pub stem : List ℕ
  pub target_is : held_against pattern target ≡ before_percent pattern ++ (stem ++ behind_percent pattern)
  pub something : (left_aside pattern target ≢ []) ⊎ (stem ≢ [])

-- the prerequisites of the mark's lines may be patterns: those of `.PRECIOUS` in the wide profile (GNU make manual, "Special Built-in
-- Target Names"), and those of `.CONSOLE`, which no other profile has (own)
abbrev pub takes_patterns : Mark → Profile → Bool
takes_patterns mark.Precious profile = is_wide profile
takes_patterns mark.Console profile = is_wide profile
takes_patterns _ profile = false

-- a line of the mark speaks of each target where it has no prerequisites, and else of those that are among them (POSIX make, .IGNORE,
-- .SILENT and .PRECIOUS), or are of a pattern among them, whichever rule makes them (own: GNU make has those alone that a rule of this
-- pattern makes)
abbrev pub SpeaksOf : Mark → RuleLine → (target : List ℕ) → Type 0
SpeaksOf m l target =
    (l.prerequisites ≡ [])
    ⊎ (Contains l.prerequisites target ⊎ ((takes_patterns m l.profile ≡ true) × Any (λ pattern. IsOfPattern pattern target) l.prerequisites))

-- the target has the mark: some line of the mark speaks of it, so that several lines add up
abbrev pub HasMark : Mark → List RuleLine → (target : List ℕ) → Type 0
HasMark m lines target = Any (λ l. (l.special ≡ Some (name_of m)) × SpeaksOf m l target) lines

-- The same, computed

abbrev pub is_of : Mark → Option SpecialName → Bool
is_of mark.Ignored (Some special.Ignore) = true
is_of mark.Silent (Some special.Silent) = true
is_of mark.Precious (Some special.Precious) = true
is_of mark.Console (Some special.Console) = true
is_of m _ = false

-- the line is one of the mark, and has no prerequisites
abbrev pub speaks_of_all : Mark → RuleLine → Bool
speaks_of_all m l = is_of m l.special && is_empty l.prerequisites

-- the prerequisites of a line of the mark
abbrev pub names_in : Mark → RuleLine → List (List ℕ)
names_in m l = if is_of m l.special then l.prerequisites else []

-- those of all lines, each once
abbrev pub names_in_all : Mark → List RuleLine → List (List ℕ)
names_in_all m lines = all_added [] (flat_map (names_in m) lines)

-- the patterns among the prerequisites of a line of the mark
abbrev pub patterns_in : Mark → RuleLine → List (List ℕ)
patterns_in m l = if is_of m l.special && takes_patterns m l.profile then filter has_percent l.prerequisites else []

-- the targets that these lines mark
abbrev pub marked_by : Mark → List RuleLine → Marked
marked_by m lines = record { all = list_any (speaks_of_all m) lines; names = names_in_all m lines; patterns = flat_map (patterns_in m) lines }

-- the target is of the pattern, which has a `%`
abbrev pub is_of_pattern : (target pattern : List ℕ) → Bool
is_of_pattern target pattern =
    option_map_or
    (λ rest. option_map_or (λ stem. not (is_empty (left_aside pattern target)) || not (is_empty stem)) (without_end (behind_percent pattern) rest) false)
    (without_front (before_percent pattern) (held_against pattern target)) false

-- the target is one of them
abbrev pub has_mark : Marked → (target : List ℕ) → Bool
has_mark marked target = marked.all || (has_name marked.names target || list_any (is_of_pattern target) marked.patterns)
