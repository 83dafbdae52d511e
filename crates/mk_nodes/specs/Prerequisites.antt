-- What the rules, the files and the state say of a name: what makes it and what it is made from.
use Rattle.std.specs.Prelude.{◌≡◌, ℕ, Bool, true, false, not, ◌&&◌, ◌||◌, List, [], ◌∷◌, ◌++◌, filter, drop, take, slice_get, codes, Option, Some, None, is_some, is_none, option_and_then, option_to_list, ◌==◌, if◌then◌else◌}
use Rattle.std.specs.List.{list_any}
use Rattle.std.specs.Option.{option_map_or, option_or}
use Rattle.std.specs.Str.{is_utf8}
use Rattle.mk_names.specs.Names.{all_added}
use Rattle.st_records.specs.declared.record.Entry.{Entry}
use Rattle.st_records.specs.declared.record.Phase.{Phase}
use Rattle.st_records.specs.declared.record.Phase.TheVariants.{Begun, Done, Failed}
use Rattle.mk_rule_lines.specs.Rules.{has, suffixes_of, recipe_places}
use Rattle.mk_rule_lines.specs.Explicit.{explicit_targets, explicit_of, order_only_of as order_only_by_name, is_phony, is_default_at}
use Rattle.mk_makefile.specs.Doubles.{first_double}
use Rattle.mk_makefile.specs.Forms.{forms_of}
use Rattle.mk_makefile.specs.declared.form.Source.{Source}
use Rattle.mk_rule_lines.specs.declared.rule_line.RuleLine.{RuleLine}
use Rattle.mk_short_names.specs.Short.{is_short}
use Rattle.mk_nodes.specs.Chain.{any_wide, source_in, steps_of}
use Rattle.mk_nodes.specs.declared.file_look.FileLook.{FileLook}
use Rattle.mk_nodes.specs.Look.{is_taken_as_old}
use Rattle.mk_nodes.specs.Wanted.{from_wanted}

-- what a graph is made of: the rule lines, what looks at names tell as the lines let them be seen, and what the state has of each
-- target
pub record Inputs : Type 0 where
  pub lines : List RuleLine
  pub looks : (name : List ℕ) → Option FileLook
  pub entries : (name : List ℕ) → Option Entry

-- what is seen of a name: its file; of a phony name nothing, whatever lies there (POSIX make, .PHONY)
abbrev pub seen_looks : (lines : List RuleLine) (looks : (name : List ℕ) → Option FileLook) → (name : List ℕ) → Option FileLook
seen_looks lines looks name = if is_phony lines name then None else looks name

abbrev pub inputs_of : (lines : List RuleLine) (entries : (name : List ℕ) → Option Entry) (looks : (name : List ℕ) → Option FileLook) → Inputs
inputs_of lines entries looks = record { lines = lines; looks = seen_looks lines looks; entries = entries }

-- some line makes the name
abbrev pub is_target : List RuleLine → (name : List ℕ) → Bool
is_target lines name = list_any (λ l. has name (explicit_targets lines l)) lines

-- what the list has, or else the other one
abbrev pub any_or : List ℕ → (other : Option ℕ) → List ℕ
any_or [] other = option_to_list other
any_or (n ∷ ns) other = n ∷ ns

-- the numbers of the lines that have a recipe for the name, of which there is one at most: of lines with `::` it is the first
abbrev pub own_recipes : List RuleLine → (name : List ℕ) → List ℕ
own_recipes lines name = any_or (recipe_places (explicit_targets lines) 0 lines name) (first_double lines name)

-- there is a file of the name, or some line makes it
abbrev pub is_there : Inputs → (name : List ℕ) → Bool
is_there inputs name = is_target inputs.lines name || is_some (inputs.looks name)

-- the other one, where the list has nothing
abbrev pub unless_any : {A : Type 0} → List ℕ → (other : Option A) → Option A
unless_any [] other = other
unless_any (n ∷ ns) other = None

-- the first number of the list, or the other one where it has none
abbrev pub first_or : List ℕ → (other : Option ℕ) → Option ℕ
first_or [] other = other
first_or (n ∷ ns) other = Some n

-- what the search for a source of the name finds, where no line has a recipe for it and it isn't phony (make(1S), "Implicit Rules"; POSIX
-- make, .PHONY; in the wide profile also by chains, and behind these from names that ought to exist: GNU make manual, "Chains of Implicit
-- Rules", "Implicit Rule Search Algorithm")
abbrev pub found_source : Inputs → (name : List ℕ) → Option Source
found_source inputs name =
    let forms = forms_of (suffixes_of inputs.lines) inputs.lines in
    if is_phony inputs.lines name then None
    else unless_any (own_recipes inputs.lines name)
    (option_or (source_in (is_there inputs) forms (steps_of inputs.lines) name) (from_wanted (is_target inputs.lines) inputs.lines forms name))

-- the rule of this line makes a name that is found to come from the source by a run for that name
abbrev pub is_run_of : (rule : ℕ) → Source → Bool
is_run_of rule source = is_none source.leader && (source.rule == rule)

abbrev pub runs_for : Inputs → (rule : ℕ) → (name : List ℕ) → Bool
runs_for inputs rule name = option_map_or (is_run_of rule) (found_source inputs name) false

-- a target behind the first is made where the rule makes the first one, for the same stem, by a run for it (own: GNU make runs the
-- recipe for whichever target it comes to)
abbrev pub is_led : Inputs → Source → Bool
is_led inputs source = option_map_or (runs_for inputs source.rule) source.leader true

-- what is found of a name, where the rule is run for it or for the first of what that makes
abbrev pub led_source : Inputs → (name : List ℕ) → Option Source
led_source inputs name = option_and_then (λ source. if is_led inputs source then Some source else None) (found_source inputs name)

-- what an implicit rule makes the name from. The rules of what is taken as old are ignored (GNU make manual, "Options Summary", -o)
abbrev pub implicit_source : Inputs → (name : List ℕ) → Option Source
implicit_source inputs name = if is_taken_as_old (inputs.looks name) then None else led_source inputs name

-- the line whose recipe is run for a name with this source; None where it is run for another name
abbrev pub run_by : Source → Option ℕ
run_by source = if is_none source.leader then Some source.rule else None

-- the line whose recipe makes what nothing else makes: that of `.DEFAULT`, and no other line that has this name among its targets
-- (POSIX make, .DEFAULT; the latter: own)
abbrev pub default_of : List RuleLine → Option ℕ
default_of lines = slice_get (filter (is_default_at lines) (recipe_places (explicit_targets lines) 0 lines (codes ".DEFAULT"))) 0

-- a recipe was begun, and not run to its end
abbrev pub is_cut : Phase → Bool
is_cut Begun = true
is_cut Done = false
is_cut (Failed status) = true

-- that is what the state has of a name
abbrev pub is_unfinished : Option Entry → Bool
is_unfinished entry = option_map_or (λ e. is_cut e.phase) entry false

-- a name that is left to `.DEFAULT` where no implicit rule makes it: no line makes it, and it has no file (POSIX make, .DEFAULT), or
-- only one whose recipe wasn't run to its end, which would pass as a source else (own)
abbrev pub is_left : Inputs → (name : List ℕ) → Bool
is_left inputs name =
    not (is_target inputs.lines name) && (is_none (inputs.looks name) || is_unfinished (inputs.entries name))

abbrev pub left_recipe : Inputs → (name : List ℕ) → Option ℕ
left_recipe inputs name = if is_left inputs name then default_of inputs.lines else None

-- the line of the source whose recipe is run for the name, or the other one where there is no source
abbrev pub rule_or : Option Source → (other : Option ℕ) → Option ℕ
rule_or None other = other
rule_or (Some source) other = run_by source

-- the line whose recipe makes the name: its own, else that of the implicit rule, else that of `.DEFAULT`, where the name is left to it
abbrev pub recipe_of : Inputs → (name : List ℕ) → Option ℕ
recipe_of inputs name = first_or (own_recipes inputs.lines name) (rule_or (implicit_source inputs name) (left_recipe inputs name))

-- the names, each at its first mention alone
abbrev pub distinct : List (List ℕ) → List (List ℕ)
distinct names = all_added [] names

-- what a name with this source is made from: the name by whose run it is made, or the rule's prerequisites
abbrev pub made_names : Source → List (List ℕ)
made_names source = option_map_or (λ leader. leader ∷ []) source.leader (take source.ordinary source.names)

-- what an implicit rule makes a name from, if one does
abbrev pub made_from : Option Source → List (List ℕ)
made_from source = option_map_or made_names source []

-- the order-only prerequisites that it gives the name
abbrev pub behind_bar_of : Option Source → List (List ℕ)
behind_bar_of source = option_map_or (λ s. drop s.ordinary s.names) source []

-- the source: the first of these, where the rule has any
abbrev pub source_name : Option Source → Option (List ℕ)
source_name source = slice_get (made_from source) 0

abbrev pub source_names : Option Source → List (List ℕ)
source_names source = option_to_list (source_name source)

-- the prerequisites by name: what the implicit rule has behind its source, then those of the lines (GNU make manual, "Implicit Rule
-- Search Algorithm")
abbrev pub named_of : Inputs → (name : List ℕ) → List (List ℕ)
named_of inputs name = drop 1 (made_from (implicit_source inputs name)) ++ explicit_of inputs.lines name

-- the hard prerequisites: what the implicit rule has, the source first, then those of the lines
abbrev pub hard_of : Inputs → (name : List ℕ) → List (List ℕ)
hard_of inputs name = distinct (made_from (implicit_source inputs name) ++ explicit_of inputs.lines name)

-- the prerequisites by name as they are recorded: each once and in order, without the source
abbrev pub explicit_names : Inputs → (name : List ℕ) → List (List ℕ)
explicit_names inputs name = filter (λ w. not (has w (source_names (implicit_source inputs name)))) (distinct (named_of inputs name))

-- the hidden prerequisites as last recorded, whatever became of the target since
abbrev pub hidden_in : Option Entry → List (List ℕ)
hidden_in entry = option_map_or (λ e. e.hidden) entry []

abbrev pub hidden_of : Inputs → (name : List ℕ) → List (List ℕ)
hidden_of inputs name = hidden_in (inputs.entries name)

-- the name is one of these and is text: of the others it isn't asked whether they are there
abbrev pub IsTextAmong : (names : List (List ℕ)) (name : List ℕ) → Type 0
IsTextAmong names name = (has name names ≡ true) × (is_utf8 name ≡ true)

-- a name as these lines may have it: in the wide profile the lines have none with a `./` in front, by which a state may know a file
-- that they make (own)
abbrev pub is_read : List RuleLine → (name : List ℕ) → Bool
is_read lines name = not (any_wide lines) || is_short name

-- a hidden prerequisite that is a node: its name is text and one that the lines may have, and there is a file of it or a line that
-- makes it (own); else it is gone
abbrev pub is_node : Inputs → (hidden : List ℕ) → Bool
is_node inputs hidden = is_utf8 hidden && (is_read inputs.lines hidden && is_there inputs hidden)

-- the order-only prerequisites: those of the implicit rule, then those of the lines (GNU make manual, "Types of Prerequisites")
abbrev pub order_only_of : Inputs → (name : List ℕ) → List (List ℕ)
order_only_of inputs name = behind_bar_of (implicit_source inputs name) ++ order_only_by_name inputs.lines name

-- what a name waits for beside its hard prerequisites: the hidden ones that are nodes, then the order-only ones
abbrev pub waited_for : Inputs → (name : List ℕ) → List (List ℕ)
waited_for inputs name = filter (is_node inputs) (hidden_of inputs name) ++ order_only_of inputs name

-- the prerequisites of a name that are nodes: the hard ones, the hidden ones that aren't gone, and the order-only ones
abbrev pub prerequisites_of : Inputs → (name : List ℕ) → List (List ℕ)
prerequisites_of inputs name = all_added (hard_of inputs name) (waited_for inputs name)

-- what a name can't be made without: its hard prerequisites, then the order-only ones that are none (GNU make manual, "Types of
-- Prerequisites")
abbrev pub required_of : Inputs → (name : List ℕ) → List (List ℕ)
required_of inputs name = all_added (hard_of inputs name) (order_only_of inputs name)

-- the prerequisites as they are judged, numbered from 0: the hard ones, then the hidden ones, gone or not
abbrev pub judged_of : Inputs → (name : List ℕ) → List (List ℕ)
judged_of inputs name = all_added (hard_of inputs name) (hidden_of inputs name)

-- what it waits for that is no hard prerequisite
abbrev pub soft_names : Inputs → (name : List ℕ) → List (List ℕ)
soft_names inputs name = filter (λ waited. not (has waited (hard_of inputs name))) (waited_for inputs name)

-- there is a rule for what nothing else makes, or a file of the name, a line that makes it, or an implicit rule
abbrev pub is_made : Inputs → (name : List ℕ) → Bool
is_made inputs name = is_some (default_of inputs.lines) || (is_there inputs name || is_some (implicit_source inputs name))
