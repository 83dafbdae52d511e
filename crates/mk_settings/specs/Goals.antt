-- What is to be made, and what the special targets set.
use Rattle.std.specs.Prelude.{◌≡◌, ℕ, Bool, true, false, not, ◌&&◌, ◌==◌, List, [], ◌∷◌, ◌++◌, take, filter, flat_map, Option, Some, None, if◌then◌else◌}
use Rattle.std.specs.List.{All, list_any}
use Rattle.mk_macros.specs.Spelled.{Lacks}
use Rattle.mk_reader.specs.declared.special.SpecialName.{SpecialName}
use Rattle.mk_reader.specs.declared.special.SpecialName.TheVariants.{KeepState, NoParallel, NotParallel, DeleteOnError, Depfile}
use Rattle.mk_rule_lines.specs.Kinds.{IsRule, IsPatternRule, IsSuffixRule}
use Rattle.mk_settings.specs.Marks.{marked_by}
use Rattle.mk_settings.specs.Pools.{pools_of}
use Rattle.mk_rule_lines.specs.Rules.{suffixes_of, has_special, is_rule, is_pattern_rule, is_suffix_target}
use Rattle.mk_rule_lines.specs.declared.fault.RuleFault.{RuleFault}
use Rattle.mk_rule_lines.specs.declared.fault.RuleFault.TheVariants as fault
use Rattle.mk_settings.specs.declared.marked.Mark.TheVariants.{Ignored, Silent, Precious, Console}
use Rattle.mk_rule_lines.specs.declared.rule_line.RuleLine.{RuleLine}
use Rattle.mk_settings.specs.declared.settings.Settings.{Settings}

-- Goals

-- the name begins with a dot and has no slash
abbrev pub IsDotted : (name : List ℕ) → Type 0
IsDotted name = (rest : List ℕ) × (name ≡ 46 ∷ rest) × Lacks 47 rest

-- the line's first target is what is to be made where no goal is named and no line above gives one: it is none of a special,
-- pattern or suffix rule, and doesn't begin with a dot, or holds a slash (POSIX make, "OPERANDS")
pub record GivesGoal (suffixes : List (List ℕ)) (l : RuleLine) (target : List ℕ) : Type 0 where
  pub rule : IsRule l
  pub no_pattern : IsPatternRule l → ⊥
  pub others : List (List ℕ)
  pub first : l.targets ≡ target ∷ others
  pub no_suffix_rule : IsSuffixRule suffixes l target → ⊥
  pub undotted : IsDotted target → ⊥

abbrev pub GivesNoGoal : (suffixes : List (List ℕ)) → RuleLine → Type 0
GivesNoGoal suffixes l = (target : List ℕ) → GivesGoal suffixes l target → ⊥

-- the goal is that of the first line that gives one
pub record IsFirstGoal (suffixes : List (List ℕ)) (lines : List RuleLine) (goal : List ℕ) : Type 0 where
  pub above : List RuleLine
  pub line : RuleLine
  pub below : List RuleLine
  pub whole : lines ≡ above ++ line ∷ below
  pub earlier : All (GivesNoGoal suffixes) above
  pub gives : GivesGoal suffixes line goal

-- what is to be made where no goal is named: the goal of the first line that gives one, or nothing where none does
abbrev pub AreOwnGoals : (suffixes : List (List ℕ)) → List RuleLine → (goals : List (List ℕ)) → Type 0
AreOwnGoals suffixes lines [] = All (GivesNoGoal suffixes) lines
AreOwnGoals suffixes lines (goal ∷ []) = IsFirstGoal suffixes lines goal
AreOwnGoals suffixes lines (goal ∷ other ∷ more) = ⊥

-- what is to be made: the names of the command line, or else what the lines give
abbrev pub AreGoals : List RuleLine → (named goals : List (List ℕ)) → Type 0
AreGoals lines [] goals = AreOwnGoals (suffixes_of lines) lines goals
AreGoals lines (name ∷ names) goals = goals ≡ name ∷ names

-- The same, computed

abbrev pub is_slash : ℕ → Bool
is_slash b = b == 47

abbrev pub is_dotted : (name : List ℕ) → Bool
is_dotted [] = false
is_dotted (b ∷ bs) = (b == 46) && not (list_any is_slash bs)

-- the target of this line may be made where no goal is named
abbrev pub may_be_goal : (suffixes : List (List ℕ)) → RuleLine → (target : List ℕ) → Bool
may_be_goal suffixes l target =
    is_rule l && (not (is_pattern_rule l) && (not (is_suffix_target suffixes l target) && not (is_dotted target)))

-- the first target of a line, where it may be a goal
abbrev pub first_goal : (suffixes : List (List ℕ)) → RuleLine → List (List ℕ)
first_goal suffixes l = filter (may_be_goal suffixes l) (take 1 l.targets)

-- the first targets of all lines, where they may be goals
abbrev pub first_goals : (suffixes : List (List ℕ)) → List RuleLine → List (List ℕ)
first_goals suffixes lines = flat_map (first_goal suffixes) lines

-- what is to be made: the names of the command line, else the first of the first targets
abbrev pub goals_of : List RuleLine → (named : List (List ℕ)) → List (List ℕ)
goals_of lines [] = take 1 (first_goals (suffixes_of lines) lines)
goals_of lines (name ∷ names) = name ∷ names

-- the fault where there is nothing to be made; want of memory says nothing
abbrev pub IsGoalFault : List RuleLine → (named : List (List ℕ)) → RuleFault → Type 0
IsGoalFault lines named fault.OutOfMemory = Unit {0}
IsGoalFault lines named fault.NoTarget = goals_of lines named ≡ []
IsGoalFault lines named _ = ⊥

-- Settings

abbrev pub is_keep_state : Option SpecialName → Bool
is_keep_state (Some KeepState) = true
is_keep_state _ = false

abbrev pub is_no_parallel : Option SpecialName → Bool
is_no_parallel (Some NoParallel) = true
is_no_parallel (Some NotParallel) = true
is_no_parallel _ = false

abbrev pub is_delete_on_error : Option SpecialName → Bool
is_delete_on_error (Some DeleteOnError) = true
is_delete_on_error _ = false

abbrev pub is_depfile : Option SpecialName → Bool
is_depfile (Some Depfile) = true
is_depfile _ = false

-- the patterns of a line of `.DEPFILE`
abbrev pub depfile_patterns : RuleLine → List (List ℕ)
depfile_patterns l = if is_depfile l.special then l.prerequisites else []

-- where recipes write what they read: nothing is said of it, or the patterns of all such lines, which may have none (own)
abbrev pub depfiles_of : List RuleLine → Option (List (List ℕ))
depfiles_of lines = if has_special is_depfile lines then Some (flat_map depfile_patterns lines) else None

-- what the special targets of these lines set (make(1S), "Special-Function Targets"; `.NO_PARALLEL`: the dmake manual; `.NOTPARALLEL` and
-- `.DELETE_ON_ERROR`: GNU make manual, "Special Built-in Target Names"; `.CONSOLE` and `.POOL`: own)
abbrev pub settings_of : List RuleLine → Settings
settings_of lines = record {
  has_one_worker = has_special is_no_parallel lines;
  deletes_on_error = has_special is_delete_on_error lines;
  depfiles = depfiles_of lines;
  ignored = marked_by Ignored lines;
  silent = marked_by Silent lines;
  precious = marked_by Precious lines;
  console = marked_by Console lines;
  pools = pools_of lines;
}
