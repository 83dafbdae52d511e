-- What the rule lines of a makefile say of a name. A line stands here with its texts expanded and cut into words.
use Rattle.std.specs.Prelude.{ℕ, ◌+◌, Bool, true, false, not, ◌&&◌, ◌||◌, ◌==◌, List, [], ◌∷◌, ◌++◌, filter, Option, None, Some, is_none, bytes_eq, if◌then◌else◌}
use Rattle.std.specs.List.{list_any}
use Rattle.std.specs.Option.{option_map_or}
use Rattle.mk_macros.specs.Words.{without_front}
use Rattle.mk_profile.specs.Profile.{is_wide}
use Rattle.mk_profile.specs.declared.profile.Profile.{Profile}
use Rattle.mk_lines.specs.Text.{is_empty}
use Rattle.mk_reader.specs.BuiltIn.{built_in_name}
use Rattle.mk_reader.specs.declared.special.SpecialName.{SpecialName}
use Rattle.mk_reader.specs.declared.special.SpecialName.TheVariants.{Suffixes, Phony, Default}
use Rattle.mk_rule_lines.specs.declared.rule_line.RuleLine.{RuleLine}

-- the name is one of these
abbrev pub has : (name : List ℕ) → List (List ℕ) → Bool
has name names = list_any (bytes_eq name) names

-- the byte `%`, at which a pattern is parted
abbrev pub is_percent : ℕ → Bool
is_percent b = b == 37

abbrev pub has_percent : (name : List ℕ) → Bool
has_percent name = list_any is_percent name

-- the file of a line as it is told: in the wide profile (own)
abbrev pub told_file : Profile → (file : List ℕ) → Option (List ℕ)
told_file profile file = if is_wide profile then Some file else None

-- a line of the rules that are built in: it stands under their name (own), and the strict profile has none
abbrev pub is_built_in : RuleLine → Bool
is_built_in l = is_wide l.profile && bytes_eq l.file built_in_name

-- a line that is no special rule
abbrev pub is_rule : RuleLine → Bool
is_rule l = is_none l.special

-- some line is of such a special rule
abbrev pub has_special : (is_it : Option SpecialName → Bool) → List RuleLine → Bool
has_special is_it lines = list_any (λ l. is_it l.special) lines

-- a rule that has a `%` in a target
abbrev pub is_pattern_rule : RuleLine → Bool
is_pattern_rule l = is_rule l && list_any has_percent l.targets

-- a line of `.PHONY`
abbrev pub is_phony_list : Option SpecialName → Bool
is_phony_list (Some Phony) = true
is_phony_list _ = false

-- a line of `.DEFAULT`
abbrev pub is_default_rule : Option SpecialName → Bool
is_default_rule (Some Default) = true
is_default_rule _ = false

-- a line that makes its targets by name: a rule that is no pattern rule, one of `.PHONY`, or one of `.DEFAULT`
abbrev pub makes_targets : RuleLine → Bool
makes_targets l = is_phony_list l.special || (is_default_rule l.special || (is_rule l && not (is_pattern_rule l)))

-- the suffixes with those of a list that are new, in order (own: one that is there keeps its place)
abbrev pub added : (suffixes names : List (List ℕ)) → List (List ℕ)
added suffixes [] = suffixes
added suffixes (name ∷ names) = added (if has name suffixes then suffixes else suffixes ++ name ∷ []) names

-- the suffixes behind a `.SUFFIXES` rule: with names it adds them, without names it clears the list
-- (make(1S), .SUFFIXES)
abbrev pub with_names : (suffixes names : List (List ℕ)) → List (List ℕ)
with_names suffixes [] = []
with_names suffixes (name ∷ names) = added suffixes (name ∷ names)

abbrev pub is_suffix_list : Option SpecialName → Bool
is_suffix_list (Some Suffixes) = true
is_suffix_list _ = false

-- the suffixes behind these lines
abbrev pub suffixes_after : (suffixes : List (List ℕ)) → List RuleLine → List (List ℕ)
suffixes_after suffixes [] = suffixes
suffixes_after suffixes (l ∷ lines) =
    suffixes_after (if is_suffix_list l.special then with_names suffixes l.prerequisites else suffixes) lines

-- the suffixes that count, for all lines: those of the last list, which begins empty
abbrev pub suffixes_of : List RuleLine → List (List ℕ)
suffixes_of lines = suffixes_after [] lines

-- the suffix stands at the front of the name, and what is left is a suffix too
abbrev pub joins : (suffixes : List (List ℕ)) → (name suffix : List ℕ) → Bool
joins suffixes name suffix = option_map_or (λ rest. has rest suffixes) (without_front suffix name) false

-- one suffix, or two joined
abbrev pub is_suffix_name : (suffixes : List (List ℕ)) → (name : List ℕ) → Bool
is_suffix_name suffixes name = has name suffixes || list_any (joins suffixes name) suffixes

-- a line that has no recipe of which a name has just one: it has none, or it is a line with `::`
abbrev pub lacks_single : RuleLine → Bool
lacks_single l = l.is_double || is_empty l.recipe

-- a line with `::` that has a recipe, of which a name may have several (GNU make manual, "Double-Colon Rules")
abbrev pub is_double_recipe : RuleLine → Bool
is_double_recipe l = l.is_double && not (is_empty l.recipe)

-- such a line without prerequisites: its targets are always made (GNU make manual, "Double-Colon Rules")
abbrev pub is_always : RuleLine → Bool
is_always l = is_double_recipe l && is_empty l.prerequisites

-- a line without prerequisites and with a recipe, whose targets may be suffix rules
abbrev pub may_be_suffix_rule : RuleLine → Bool
may_be_suffix_rule l = is_empty l.prerequisites && not (lacks_single l)

-- this target of the line is a suffix rule (make(1S), "Suffix Rules")
abbrev pub is_suffix_target : (suffixes : List (List ℕ)) → RuleLine → (name : List ℕ) → Bool
is_suffix_target suffixes l name = may_be_suffix_rule l && is_suffix_name suffixes name

-- whether a test comes out so
abbrev pub comes_out : (wanted answer : Bool) → Bool
comes_out true answer = answer
comes_out false answer = not answer

-- the targets of a line that are suffix rules, or those that are not; a line that makes none has neither
abbrev pub targets_by : (suffix_rules : Bool) → (suffixes : List (List ℕ)) → RuleLine → List (List ℕ)
targets_by suffix_rules suffixes l =
    if makes_targets l then filter (λ t. comes_out suffix_rules (is_suffix_target suffixes l t)) l.targets else []

-- the numbers, from k on, of the lines that pass a test
abbrev pub places : (passes : RuleLine → Bool) → (k : ℕ) → List RuleLine → List ℕ
places passes k [] = []
places passes k (l ∷ lines) = if passes l then k ∷ places passes (k + 1) lines else places passes (k + 1) lines

-- a number for each time that a name is among these
abbrev pub times : (k : ℕ) → (name : List ℕ) → List (List ℕ) → List ℕ
times k name [] = []
times k name (t ∷ targets) = if bytes_eq name t then k ∷ times k name targets else times k name targets

-- the numbers, from k on, of the lines without `::` that have a recipe for a name, each as often as the name is among its
-- targets of this choice
abbrev pub recipe_places : (targets : RuleLine → List (List ℕ)) → (k : ℕ) → List RuleLine → (name : List ℕ) → List ℕ
recipe_places targets k [] name = []
recipe_places targets k (l ∷ lines) name =
    (if lacks_single l then [] else times k name (targets l)) ++ recipe_places targets (k + 1) lines name
