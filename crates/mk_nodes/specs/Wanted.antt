-- Names that ought to exist, since a rule line has them among its prerequisites (GNU make manual, "Implicit Rule Search Algorithm").
use Rattle.std.specs.Prelude.{ℕ, Bool, ◌&&◌, ◌||◌, List, filter, Option}
use Rattle.std.specs.List.{list_any}
use Rattle.mk_profile.specs.Profile.{is_wide}
use Rattle.mk_lines.specs.Text.{is_empty}
use Rattle.mk_rule_lines.specs.Rules.{has, is_rule}
use Rattle.mk_makefile.specs.Source.{source_of}
use Rattle.mk_makefile.specs.declared.form.Form.{Form}
use Rattle.mk_makefile.specs.declared.form.Source.{Source}
use Rattle.mk_rule_lines.specs.declared.rule_line.RuleLine.{RuleLine}
use Rattle.mk_nodes.specs.Links.{end_of}

-- the line is one of a rule and has the name among its prerequisites, in the wide profile
abbrev pub wants : (name : List ℕ) → RuleLine → Bool
wants name l = is_wide l.profile && (is_rule l && has name l.prerequisites)

-- some line does
abbrev pub is_wanted : List RuleLine → (name : List ℕ) → Bool
is_wanted lines name = list_any (wants name) lines

-- one of the form's prerequisites may end in any way, as that of `%.gz: %`
abbrev pub takes_any : Form → Bool
takes_any form = list_any (λ pattern. is_empty (end_of pattern)) form.prerequisites

-- what a name is made from by such a form: the first of whose names each is a target or ought to exist
abbrev pub from_wanted : (is_target : List ℕ → Bool) → List RuleLine → List Form → (name : List ℕ) → Option Source
from_wanted is_target lines forms name = source_of (λ n. is_target n || is_wanted lines n) (filter takes_any forms) name
