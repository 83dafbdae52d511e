-- In which order implicit rules are tried.
use Rattle.std.specs.Prelude.{ℕ, ◌+◌, nat_lt, Bool, false, not, ◌&&◌, ◌||◌, List, [], ◌∷◌, ◌++◌, length, filter, slice_get, unwrap_or, is_some, codes, bytes_eq, if◌then◌else◌}
use Rattle.std.specs.List.{insert, list_any, position}
use Rattle.std.specs.Option.{option_map_or}
use Rattle.mk_macros.specs.Words.{without_end}
use Rattle.mk_profile.specs.Profile.{is_wide}
use Rattle.mk_makefile.specs.declared.form.Form.{Form}
use Rattle.mk_rule_lines.specs.Rules.{is_built_in}
use Rattle.mk_rule_lines.specs.declared.rule_line.RuleLine.{RuleLine}

-- how much of a name of this form isn't its stem
abbrev pub beside_stem : Form → ℕ
beside_stem form = length form.before + length form.after

-- of a name of both, the stem by the other form is the longer one (the law `longer_stems_by_less_beside_them` says so)
abbrev pub has_longer_stem : (form other : Form) → Bool
has_longer_stem form other = nat_lt (beside_stem other) (beside_stem form)

-- one form more: it stands before the first that has a longer stem, else at the end
abbrev pub with_form : (forms : List Form) (form : Form) → List Form
with_form forms form = insert forms (unwrap_or (position (has_longer_stem form) forms) (length forms)) form

abbrev pub with_forms : (forms listed : List Form) → List Form
with_forms forms [] = forms
with_forms forms (form ∷ listed) = with_forms (with_form forms form) listed

-- the forms of a list by their stems: the shortest first, and those alike in the order of the list (GNU make manual, "How Patterns
-- Match")
abbrev pub by_stem : (listed : List Form) → List Form
by_stem listed = with_forms [] listed

-- the form is that of a rule of the makefile's own
abbrev pub is_own : List RuleLine → Form → Bool
is_own lines form = not (option_map_or is_built_in (slice_get lines form.rule) false)

abbrev pub own_of : List RuleLine → (forms : List Form) → List Form
own_of lines forms = filter (is_own lines) forms

abbrev pub built_in_of : List RuleLine → (forms : List Form) → List Form
built_in_of lines forms = filter (λ form. not (is_own lines form)) forms

abbrev pub ends_in_c : List ℕ → Bool
ends_in_c bytes = is_some (without_end (codes ".c") bytes)

-- a rule that makes C files, or objects of C files
abbrev pub goes_through_c : Form → Bool
goes_through_c form = bytes_eq form.after (codes ".c") || (bytes_eq form.after (codes ".o") && list_any ends_in_c form.prerequisites)

-- the makefile has such a rule of its own
abbrev pub has_own_through_c : List RuleLine → (listed : List Form) → Bool
has_own_through_c lines listed = list_any (λ form. is_own lines form && goes_through_c form) listed

-- a built-in rule that makes an object of a source for yacc or lex, by way of a C file that is gone behind it (POSIX make, "Default Rules").
-- GNU make has none: there it is a chain
abbrev pub goes_by_c : List RuleLine → Form → Bool
goes_by_c lines form =
    not (is_own lines form)
    && (bytes_eq form.after (codes ".o") && list_any (λ pattern. bytes_eq pattern (codes "%.y") || bytes_eq pattern (codes "%.l")) form.prerequisites)

-- the forms that count: where the makefile has a rule of its own for a step of theirs, these built-in rules yield to the chain with it
abbrev pub standing : List RuleLine → (listed : List Form) → List Form
standing lines listed = if has_own_through_c lines listed then filter (λ form. not (goes_by_c lines form)) listed else listed

-- the makefile's own forms before those of built-in rules, and among each the shortest stem first
abbrev pub own_first : List RuleLine → (listed : List Form) → List Form
own_first lines listed = by_stem (own_of lines listed) ++ by_stem (built_in_of lines listed)

-- in the wide profile the forms that count, the makefile's own first; in the strict one all as they are listed
abbrev pub in_order_of : List RuleLine → (listed : List Form) → List Form
in_order_of lines listed = if list_any (λ l. is_wide l.profile) lines then own_first lines (standing lines listed) else listed
