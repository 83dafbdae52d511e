-- Chains of implicit rules: what a rule makes a name from need not be there, where rules can make it in turn (GNU make manual,
-- "Chains of Implicit Rules"; POSIX make leaves them out).
use Rattle.std.specs.Prelude.{ℕ, zero, suc, Bool, false, not, ◌&&◌, ◌||◌, if◌then◌else◌, List, [], ◌∷◌, filter, find, is_some, Option}
use Rattle.std.specs.List.{list_any, list_all}
use Rattle.std.specs.Option.{option_or}
use Rattle.mk_graph.specs.Edges.{has as has_number}
use Rattle.mk_profile.specs.Profile.{is_wide}
use Rattle.mk_lines.specs.Text.{is_empty}
use Rattle.mk_makefile.specs.Source.{stem_of, candidates, source_of}
use Rattle.mk_makefile.specs.declared.form.Form.{Form}
use Rattle.mk_makefile.specs.declared.form.Source.{Source}
use Rattle.mk_rule_lines.specs.declared.rule_line.RuleLine.{RuleLine}
use Rattle.mk_nodes.specs.declared.limits.TheConstants.{MAX_STEPS}

-- some line is in the wide profile
abbrev pub any_wide : List RuleLine → Bool
any_wide lines = list_any (λ l. is_wide l.profile) lines

-- how many rules a chain of these lines may have before its last one: in the strict profile none (own)
abbrev pub steps_of : List RuleLine → ℕ
steps_of lines = if any_wide lines then MAX_STEPS else 0

-- the form has nothing beside its stem: it makes any name
abbrev pub makes_any : Form → Bool
makes_any form = is_empty form.before && is_empty form.after

-- the name has a form with something beside its stem
abbrev pub has_a_type : List Form → (name : List ℕ) → Bool
has_a_type forms name = list_any (λ form. not (makes_any form) && is_some (stem_of form name)) forms

-- a chain may go on with this form: its rule isn't taken yet, and it makes any name only where such a one may
abbrev pub is_usable : (any : Bool) (taken : List ℕ) → Form → Bool
is_usable any taken form = (any || not (makes_any form)) && not (has_number taken form.rule)

abbrev pub usable : (any : Bool) (taken : List ℕ) → List Form → List Form
usable any taken forms = filter (is_usable any taken) forms

-- the first of all candidates, in the order of the forms, of whose names each can be once its rule is taken
abbrev pub first_that : (can_be : (rule : ℕ) (name : List ℕ) → Bool) → List Form → (name : List ℕ) → Option Source
first_that can_be forms name = find (λ source. list_all (can_be source.rule) source.names) (candidates forms name)

-- the name is there, or rules can make it from what is there in so many steps, a rule once at most. A rule that makes any name makes
-- nothing that is on the way ("Match-Anything Pattern Rules")
abbrev pub can_be : (is_there : List ℕ → Bool) → List Form → (steps : ℕ) (taken : List ℕ) (name : List ℕ) → Bool
can_be is_there forms zero taken name = is_there name
can_be is_there forms (suc steps) taken name =
    is_there name || is_some (first_that (λ rule. can_be is_there forms steps (rule ∷ taken)) (usable false taken forms) name)

-- what a name is made from by a chain of so many steps before the last one, which is by a rule that makes any name only where the name
-- has no form of another
abbrev pub chained : (is_there : List ℕ → Bool) → List Form → (steps : ℕ) (name : List ℕ) → Option Source
chained is_there forms steps name = first_that (λ rule. can_be is_there forms steps (rule ∷ [])) (usable (not (has_a_type forms name)) [] forms) name

-- what a name is made from: what is there counts before what has to be made, and a chain of fewer steps before a longer one (own)
abbrev pub source_in : (is_there : List ℕ → Bool) → List Form → (steps : ℕ) (name : List ℕ) → Option Source
source_in is_there forms zero name = source_of is_there forms name
source_in is_there forms (suc steps) name = option_or (source_in is_there forms steps name) (chained is_there forms (suc steps) name)
