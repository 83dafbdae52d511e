-- What the private functions compute of a line, by one test after the other. `Supported` says what it means.
use Rattle.std.specs.Prelude.{ℕ, Bool, false, not, ◌&&◌, ◌||◌, ◌==◌, List, [], ◌∷◌, bytes_eq, count_by, length, codes}
use Rattle.std.specs.List.{list_all, list_any}
use Rattle.std.specs.Option.{option_map_or}
use Rattle.mk_macros.specs.Words.{is_byte, without_front}
use Rattle.mk_profile.specs.declared.profile.Profile.{Profile}
use Rattle.mk_profile.specs.declared.profile.Profile.TheVariants.{Strict, Posix}
use Rattle.mk_lines.specs.Text.{is_empty, begins_with}
use Rattle.mk_rule_lines.specs.Patterns.{has_slash}
use Rattle.mk_rule_lines.specs.Rules.{has, is_percent, has_percent, is_rule, is_pattern_rule, is_default_rule, may_be_suffix_rule}
use Rattle.mk_rule_lines.specs.declared.fault.Unsupported.{Unsupported}
use Rattle.mk_rule_lines.specs.declared.fault.Unsupported.TheVariants.{TargetGroup, LibraryMember, DoubleColon, PatternRule, DefaultRule}
use Rattle.mk_rule_lines.specs.declared.rule_line.RuleLine.{RuleLine}

-- a name with just one `%`
abbrev pub is_pattern : (name : List ℕ) → Bool
is_pattern name = count_by is_percent name == 1

-- just one name, which is a pattern
abbrev pub is_one_pattern : List (List ℕ) → Bool
is_one_pattern names = (length names == 1) && list_any is_pattern names

-- the first of these names has a `%`
abbrev pub begins_with_pattern : (names : List (List ℕ)) → Bool
begins_with_pattern [] = false
begins_with_pattern (name ∷ names) = has_percent name

-- these may be the targets of a pattern rule
abbrev pub may_be_made : Profile → (targets : List (List ℕ)) → Bool
may_be_made Strict targets = is_one_pattern targets
may_be_made Posix targets = list_all is_pattern targets && (list_all has_slash targets || not (list_any has_slash targets))

-- one of the targets is `%` alone
abbrev pub is_bare : (targets : List (List ℕ)) → Bool
is_bare targets = has (37 ∷ []) targets

-- these may be the prerequisites of a pattern rule
abbrev pub may_make : Profile → (targets prerequisites : List (List ℕ)) → Bool
may_make Strict targets prerequisites = is_one_pattern prerequisites
may_make Posix targets prerequisites = not (has (codes ".WAIT") prerequisites) && (not (is_bare targets) || begins_with_pattern prerequisites)

-- such targets, such prerequisites, and a recipe
abbrev pub is_whole_pattern_rule : RuleLine → Bool
is_whole_pattern_rule l = may_be_made l.profile l.targets && (may_make l.profile l.targets l.prerequisites && not (is_empty l.recipe))

abbrev pub is_bracket : ℕ → Bool
is_bracket b = b == 40

abbrev pub has_bracket : (name : List ℕ) → Bool
has_bracket name = list_any is_bracket name

-- just this name
abbrev pub is_alone : (name : List ℕ) → (names : List (List ℕ)) → Bool
is_alone name names = (length names == 1) && has name names

-- the line of `.DEFAULT` alone, without prerequisites and with a recipe
abbrev pub is_whole_default : RuleLine → Bool
is_whole_default l = is_alone (codes ".DEFAULT") l.targets && may_be_suffix_rule l

-- a target with a `%`, or that begins with a dot and has no `/`
abbrev pub is_implicit_target : (name : List ℕ) → Bool
is_implicit_target name = has_percent name || (begins_with 46 name && not (list_any (is_byte 47) name))

-- a rule line is refused for this cause
abbrev pub is_refused : Unsupported → RuleLine → Bool
is_refused TargetGroup l = is_rule l && has (codes "+") l.targets
is_refused LibraryMember l = is_rule l && (list_any has_bracket l.targets || list_any has_bracket l.prerequisites)
is_refused DoubleColon l = is_rule l && (l.is_double && list_any is_implicit_target l.targets)
is_refused PatternRule l = is_pattern_rule l && not (is_whole_pattern_rule l)
is_refused DefaultRule l = is_default_rule l.special && not (is_whole_default l)

-- a pattern rule of one target and one prerequisite, with one `%` in each, and without a recipe
abbrev pub is_taking : RuleLine → Bool
is_taking l = is_empty l.recipe && (is_rule l && (is_one_pattern l.targets && is_one_pattern l.prerequisites))

-- both are just one name, and the same one
abbrev pub same_word : (names others : List (List ℕ)) → Bool
same_word (name ∷ []) (other ∷ []) = bytes_eq name other
same_word _ _ = false

-- both have the same target and the same prerequisite
abbrev pub is_same_pattern : (l taking : RuleLine) → Bool
is_same_pattern l taking = same_word l.targets taking.targets && same_word l.prerequisites taking.prerequisites

-- the name is these two, one behind the other
abbrev pub is_joined : (name s t : List ℕ) → Bool
is_joined name s t = option_map_or (λ rest. bytes_eq rest t) (without_front s name) false

-- the name is that of the suffix rule `st`, or `s`
abbrev pub names_suffix_rule : (suffixes : List (List ℕ)) → (name s t : List ℕ) → Bool
names_suffix_rule suffixes name s t = has s suffixes && ((is_empty t || has t suffixes) && is_joined name s t)

-- the name is that of the suffix rule of this form: the target `%t` and the source `%s`
abbrev pub names_form : (suffixes : List (List ℕ)) → (name target source : List ℕ) → Bool
names_form suffixes name target source =
    option_map_or (λ t. option_map_or (λ s. names_suffix_rule suffixes name s t) (without_front (37 ∷ []) source) false) (without_front (37 ∷ []) target) false

-- the same of just one name each
abbrev pub one_names_form : (suffixes : List (List ℕ)) → (names targets sources : List (List ℕ)) → Bool
one_names_form suffixes (name ∷ []) (target ∷ []) (source ∷ []) = names_form suffixes name target source
one_names_form suffixes _ _ _ = false

-- the line is that of the suffix rule of the other one's form alone
abbrev pub is_suffix_rule_of : (suffixes : List (List ℕ)) → (l taking : RuleLine) → Bool
is_suffix_rule_of suffixes l taking = may_be_suffix_rule l && one_names_form suffixes l.targets taking.targets taking.prerequisites

-- the line is taken away by the other one
abbrev pub takes : (suffixes : List (List ℕ)) → (l taking : RuleLine) → Bool
takes suffixes l taking = is_rule l && ((is_same_pattern l taking || is_suffix_rule_of suffixes l taking) && is_taking taking)
