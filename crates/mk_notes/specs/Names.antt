-- Names of targets and macros that other makes have a meaning for.
use Rattle.std.specs.Prelude.{ℕ, Bool, not, ◌&&◌, ◌||◌, ◌==◌, ◌+◌, List, [], ◌∷◌, take, drop, bytes_eq}
use Rattle.std.specs.List.{list_any, prefix_len}
use Rattle.byte_strings.specs.Blanks.{words}
use Rattle.mk_profile.specs.Profile.{is_wide}
use Rattle.mk_profile.specs.declared.profile.Profile.{Profile}
use Rattle.mk_lines.specs.Text.{is_empty}
use Rattle.mk_notes.specs.References.{is_dollar}
use Rattle.mk_notes.specs.declared.names.TheConstants.{TARGETS, MACROS, ASKING, RUN, COMMANDS, SUFFIXES}

abbrev pub has : List (List ℕ) → (name : List ℕ) → Bool
has names name = list_any (λ n. bytes_eq n name) names

-- the target has a meaning elsewhere (GNU make, "Special Built-in Target Names"; bmake(1), "SPECIAL TARGETS")
abbrev pub is_target : (name : List ℕ) → Bool
is_target name = list_any (λ n. bytes_eq n.now name) TARGETS

-- the macro has a meaning elsewhere (GNU make, "Choosing the Shell", "VPATH: Search Path for All Prerequisites")
abbrev pub is_macro : (name : List ℕ) → Bool
is_macro name = list_any (λ n. bytes_eq n.now name) MACROS

-- a definition of the macro asks GNU make for something ("Other Special Variables", "Communicating Options to a Sub-make")
abbrev pub is_asking : (name : List ℕ) → Bool
is_asking name = list_any (λ n. bytes_eq n.now name) ASKING

-- a definition of the macro has a meaning with another make, and none in this language: one that asks GNU make for something, and in the
-- strict profile one by which recipes are run otherwise, or files are looked for elsewhere
abbrev pub is_macro_elsewhere : Profile → (name : List ℕ) → Bool
is_macro_elsewhere profile name = is_asking name || (not (is_wide profile) && is_macro name)

-- GNU make sets the macro in each run ("Other Special Variables", "Arguments to Specify the Goals", "Communicating Variables to a
-- Sub-make")
abbrev pub is_of_run : (name : List ℕ) → Bool
is_of_run name = list_any (λ n. bytes_eq n.now name) RUN

-- the macro is a command that GNU make has built in and POSIX hasn't (GNU make, "Variables Used by Implicit Rules" and what `make -p`
-- lists as default)
abbrev pub is_command : (name : List ℕ) → Bool
is_command name = list_any (λ n. bytes_eq n.now name) COMMANDS

-- the suffix is known elsewhere (POSIX make, "Default Rules"; GNU make, "Old-Fashioned Suffix Rules")
abbrev pub is_suffix : (name : List ℕ) → Bool
is_suffix name = list_any (λ n. bytes_eq n.now name) SUFFIXES

abbrev pub is_plain : ℕ → Bool
is_plain b = not (b == 46)

-- a name cut before its second dot
abbrev pub parts_of : List ℕ → List ℕ × List ℕ
parts_of [] = ([], [])
parts_of (b ∷ name) = (take (1 + prefix_len is_plain name) (b ∷ name), drop (1 + prefix_len is_plain name) (b ∷ name))

-- the first part is known, and the second one unless it is empty
abbrev pub has_parts : (known : List ℕ → Bool) → List ℕ × List ℕ → Bool
has_parts known parts = known parts.0 && (is_empty parts.1 || known parts.1)

-- the name is made of one or two suffixes that are known elsewhere
abbrev pub is_suffix_name : List ℕ → Bool
is_suffix_name name = has_parts is_suffix (parts_of name)

-- the lines of `.SUFFIXES` name the suffixes of the name; where they refer to a macro that can't be seen, and counts so
abbrev pub is_named_by : (lines name : List ℕ) → Bool
is_named_by lines name = list_any is_dollar lines || has_parts (has (words lines)) (parts_of name)
