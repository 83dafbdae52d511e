-- What one logical line is: nothing, a recipe line, an include line, a definition, a rule, or refused.
use Rattle.std.specs.Prelude.{◌≡◌, ℕ, ◌+◌, Bool, true, false, not, ◌&&◌, ◌||◌, ◌==◌, List, [], ◌∷◌, take, drop, length, Option, Some, None, Result, Ok, Err, slice_index, codes, bytes_eq, if◌then◌else◌}
use Rattle.std.specs.List.{before_first, list_any, list_all}
use Rattle.byte_strings.specs.Blanks.{is_blank, trimmed_start, trimmed, first_word}
use Rattle.mk_profile.specs.Profile.{is_wide}
use Rattle.mk_profile.specs.declared.profile.Profile.{Profile}
use Rattle.mk_reader.specs.Blanks.{told_behind}
use Rattle.mk_reader.specs.Directive.{told_as}
use Rattle.mk_reader.specs.Spelled.{is_name_byte, is_apart, without_plus}
use Rattle.mk_lines.specs.Quoted.{signs_in}
use Rattle.mk_lines.specs.Text.{is_hash, is_dollar, is_empty, begins_with, ends_with, without_last, is_text}
use Rattle.mk_reader.specs.Special.{special_name, is_refused, takes_no_prerequisites}
use Rattle.mk_reader.specs.declared.special.SpecialName.{SpecialName}
use Rattle.mk_reader.specs.declared.item.Definition.{Definition}
use Rattle.mk_reader.specs.declared.item.DefinitionKind.{DefinitionKind}
use Rattle.mk_reader.specs.declared.item.DefinitionKind.TheVariants.{IfUndefined, AtOnce, AtOnceAlone, Output, NoSign}
use Rattle.mk_reader.specs.declared.item.RecipeLine.{RecipeLine}
use Rattle.mk_reader.specs.declared.item.Rule.{Rule}
use Rattle.mk_reader.specs.declared.fault.Cause.{Cause}
use Rattle.mk_reader.specs.declared.fault.Cause.TheVariants.{NotText, MissingSeparator, Unsupported}
use Rattle.mk_reader.specs.declared.fault.Refusal.{Refusal}
use Rattle.mk_reader.specs.declared.fault.ReadFault.{ReadFault}
use Rattle.mk_reader.specs.declared.fault.ReadFault.TheVariants.{OutOfMemory, Refused}
use Rattle.mk_lines.specs.declared.line.LogicalLine.{LogicalLine}
use Rattle.mk_lines.specs.declared.reference.Place.TheVariants.{Outside}
use Rattle.mk_reader.specs.declared.form.Form.{Form}
use Rattle.mk_reader.specs.declared.fault.Feature.TheVariants as feature
use Rattle.mk_reader.specs.declared.form.Form.TheVariants as form
use Rattle.mk_lines.specs.References.{first_outside}
use Rattle.mk_lines.specs.Semicolon.{opens_recipe}

-- this line of the file is refused for this cause
abbrev pub refusal : List ℕ → ℕ → Cause → Refusal
refusal file line cause = record { file = file; line = line; cause = cause }

-- the fault is this refusal, unless memory ran out
abbrev pub Refuses : ReadFault → Refusal → Type 0
Refuses OutOfMemory r = Unit {0}
Refuses (Refused q) r = r ≡ q

-- what a function returned is what was to be given, unless memory ran out
abbrev pub Gives : {A : Type 0} → Result A ReadFault → Result A Refusal → Type 0
Gives (Ok x) given = given ≡ Ok x
Gives (Err OutOfMemory) given = Unit {0}
Gives (Err (Refused q)) given = given ≡ Err q

-- whether the files of an include line that begins with this word have to be there; other words begin none
unfoldable pub include_kind : Profile → List ℕ → Option Bool
include_kind profile word =
    if bytes_eq word (codes "include") then Some true
    else (if is_wide profile && (bytes_eq word (codes "-include") || bytes_eq word (codes "sinclude")) then Some false else None)

-- an include line: in the strict profile a reference in it, or no name, is refused
unfoldable pub include_form : Profile → List ℕ → ℕ → Bool → List ℕ → Result Form Refusal
include_form profile file number required names =
    if not (is_wide profile) && (list_any is_dollar names || is_empty (trimmed_start names)) then Err (refusal file number (Unsupported feature.Include))
    else Ok (form.Include (record { line = number; is_required = required; names = names }))

-- a definition whose value has no blanks at its ends
unfoldable pub defined_as : List ℕ → ℕ → List ℕ → Bool → List ℕ → Definition
defined_as file number name append value = record { file = file; line = number; name = name; append = append; value = trimmed value; is_fixed = false }

-- this isn't one word
unfoldable pub is_no_name : List ℕ → Bool
is_no_name name = is_empty name || list_any is_blank name

-- a definition that is taken as it stands
unfoldable pub named_form : List ℕ → ℕ → List ℕ → Bool → List ℕ → Result Form Refusal
named_form file number name append value =
    if is_no_name name then Err (refusal file number MissingSeparator) else Ok (form.Definition (defined_as file number name append value))

-- a definition that counts by what stands above it
unfoldable pub kind_form : List ℕ → ℕ → DefinitionKind → List ℕ → List ℕ → Result Form Refusal
kind_form file number kind name value =
    if is_no_name name then Err (refusal file number MissingSeparator)
    else Ok (form.DefinitionLine (record { kind = kind; definition = defined_as file number name false value }))

-- what stands around `?=`, which the strict profile refuses
unfoldable pub optional_form : Profile → List ℕ → ℕ → List ℕ → List ℕ → Result Form Refusal
optional_form profile file number left right =
    if not (is_wide profile) then Err (refusal file number (Unsupported feature.OptionalDefinition)) else kind_form file number IfUndefined (trimmed left) right

-- what stands around a `=` that is no part of another sign: `+` directly before it appends
unfoldable pub assigned_form : List ℕ → ℕ → List ℕ → List ℕ → Result Form Refusal
assigned_form file number left right =
    if ends_with 43 left then named_form file number (trimmed (without_last left)) true right else named_form file number (trimmed left) false right

-- what stands around the `=` of a definition: `?` directly before it is another sign, and in the wide profile `!`
unfoldable pub definition_form : Profile → List ℕ → ℕ → List ℕ → List ℕ → Result Form Refusal
definition_form profile file number left right =
    if ends_with 63 left then optional_form profile file number (without_last left) right
    else (if is_wide profile && ends_with 33 left then kind_form file number Output (trimmed (without_last left)) right
    else assigned_form file number left right)

-- the prerequisites end before the first `;` outside references
unfoldable pub prerequisites_of : List ℕ → Option ℕ → List ℕ
prerequisites_of right None = trimmed right
prerequisites_of right (Some semicolon) = trimmed (take semicolon right)

-- what follows that `;` is the first line of the recipe
unfoldable pub recipe_of : ℕ → List ℕ → Option ℕ → List RecipeLine
recipe_of number right None = []
recipe_of number right (Some semicolon) = record { text = drop (semicolon + 1) right; line = number } ∷ []

-- a rule whose first target is, or isn't, a special name
unfoldable pub judged_form : Profile → Option SpecialName → Rule → Result Form Refusal
judged_form profile None rule = Ok (form.Rule (record { special = None; rule = rule }))
judged_form profile (Some name) rule =
    if is_refused profile name || (takes_no_prerequisites profile name && not (is_empty rule.prerequisites)) then Err (refusal rule.file rule.line (Unsupported (feature.SpecialName name)))
    else Ok (form.Rule (record { special = Some name; rule = rule }))

-- a rule: it has a target
unfoldable pub rule_form : Profile → List ℕ → ℕ → Bool → List ℕ → List ℕ → Result Form Refusal
rule_form profile file number is_double targets right =
    if is_empty targets then Err (refusal file number MissingSeparator)
    else judged_form profile (special_name profile (first_word targets)) (record {
      file = file;
      line = number;
      is_double = is_double;
      targets = targets;
      prerequisites = prerequisites_of right (first_outside 59 59 Outside right);
      recipe = recipe_of number right (first_outside 59 59 Outside right);
    })

-- `sh`, blanks and `=`
unfoldable pub begins_shell_definition : List ℕ → Bool
begins_shell_definition right = bytes_eq (take 2 right) (codes "sh") && begins_with 61 (trimmed_start (drop 2 right))

-- every make takes this for a macro's name
unfoldable pub is_macro_name : List ℕ → Bool
is_macro_name name = not (is_empty name) && list_all is_name_byte name

-- behind `:=` stands a definition, with its `=` at this place and blanks around it
unfoldable pub conditional_at : List ℕ → Option ℕ → Bool
conditional_at right None = false
conditional_at right (Some at) = is_macro_name (trimmed (without_plus (take at right))) && is_apart (take at right) (drop (at + 1) right)

-- what stands around `::`, which the wide profile has: as `::=`, as `:::=`, and in a rule
unfoldable pub double_form : Profile → List ℕ → ℕ → List ℕ → List ℕ → Result Form Refusal
double_form profile file number left right =
    if not (is_wide profile) then Err (refusal file number (Unsupported feature.DoubleColon))
    else (if begins_with 61 right then kind_form file number AtOnce (trimmed left) (drop 1 right)
    else (if begins_with 58 right && begins_with 61 (drop 1 right) then kind_form file number AtOnceAlone (trimmed left) (drop 1 (drop 1 right))
    else rule_form profile file number true (trimmed left) right))

-- what stands around `:=`, which the wide profile has where it isn't that of a conditional macro
unfoldable pub set_form : Profile → List ℕ → ℕ → List ℕ → List ℕ → Result Form Refusal
set_form profile file number left right =
    if not (is_wide profile) || (is_no_name (trimmed left) || conditional_at right (first_outside 61 61 Outside right)) then Err (refusal file number (Unsupported feature.ColonDefinition))
    else kind_form file number AtOnce (trimmed left) right

-- what stands around the `:` of a rule; `::` and `:=` are other signs, and `:sh =` is refused
unfoldable pub colon_form : Profile → List ℕ → ℕ → List ℕ → List ℕ → Result Form Refusal
colon_form profile file number left right =
    if begins_with 58 right then double_form profile file number left (drop 1 right)
    else (if begins_with 61 right then set_form profile file number left (drop 1 right)
    else (if begins_shell_definition right then Err (refusal file number (Unsupported feature.ShellDefinition))
    else rule_form profile file number false (trimmed left) right))

-- a line without a sign: in the wide profile one that begins with a reference is told by what it comes to
unfoldable pub unsigned_form : Profile → List ℕ → ℕ → List ℕ → Result Form Refusal
unsigned_form profile file number line =
    if not (is_wide profile && begins_with 36 line) then Err (refusal file number MissingSeparator)
    else Ok (form.DefinitionLine (record { kind = NoSign; definition = record { file = file; line = number; name = []; append = false; value = line; is_fixed = false } }))

-- the first `=` or `:` outside references decides, in the wide profile of those that no backslash quotes
unfoldable pub decided_form : Profile → List ℕ → ℕ → List ℕ → Option ℕ → Result Form Refusal
decided_form profile file number line None = unsigned_form profile file number line
decided_form profile file number line (Some at) =
    if slice_index line at == 61 then definition_form profile file number (take at line) (drop (at + 1) line)
    else colon_form profile file number (take at line) (drop (at + 1) line)

-- the first word says whether a line includes files, which comes before `=` and `:`, and how a line is told that is refused
abbrev pub opened_form : Profile → List ℕ → ℕ → List ℕ → Option Bool → Result Form Refusal
opened_form profile file number line (Some required) = include_form profile file number required (drop (length (first_word line)) line)
opened_form profile file number line None = told_as profile line (decided_form profile file number line (first_outside 61 58 Outside (signs_in profile line)))

-- a line without its comment and the blanks at its ends
unfoldable pub line_form : Profile → List ℕ → ℕ → List ℕ → Result Form Refusal
line_form profile file number line =
    if is_empty line then Ok form.Blank else opened_form profile file number line (include_kind profile (first_word line))

-- what stands before the comment of a line of the wide profile, where `\#` is a `#`; behind a backslash that isn't written yet, or not
abbrev pub unescaped_from : (behind : Bool) → List ℕ → List ℕ
unescaped_from false [] = []
unescaped_from false (b ∷ bs) = if b == 35 then [] else (if b == 92 then unescaped_from true bs else b ∷ unescaped_from false bs)
unescaped_from true [] = 92 ∷ []
unescaped_from true (b ∷ bs) = if b == 35 then 35 ∷ unescaped_from false bs else 92 ∷ b ∷ unescaped_from false bs

-- what stands before the comment, which may hold any bytes
abbrev pub content_in : (wide : Bool) → List ℕ → List ℕ
content_in false text = before_first is_hash text
content_in true text = unescaped_from false text

-- what a line holds: in the wide profile all of it, where a recipe stands behind its `;`
unfoldable pub line_content : Profile → List ℕ → List ℕ
line_content profile text = if is_wide profile && opens_recipe text then text else content_in (is_wide profile) text

-- a line without its comment
unfoldable pub content_form : Profile → List ℕ → ℕ → List ℕ → Result Form Refusal
content_form profile file number content =
    if is_text content then told_behind profile content (line_form profile file number (trimmed content)) else Err (refusal file number NotText)

-- a line that is no recipe line
unfoldable pub statement_form : Profile → List ℕ → ℕ → List ℕ → Result Form Refusal
statement_form profile file number text = content_form profile file number (line_content profile text)

-- a recipe line has no comments; one of blanks alone is passed over
unfoldable pub recipe_form : List ℕ → ℕ → List ℕ → Result Form Refusal
recipe_form file number text =
    if is_text text then (if is_empty (trimmed_start text) then Ok form.Blank else Ok (form.Recipe (record { text = text; line = number })))
    else Err (refusal file number NotText)

-- the form of a logical line of the file
unfoldable pub form_of : Profile → List ℕ → LogicalLine → Result Form Refusal
form_of profile file line =
    if line.is_recipe then recipe_form file line.number line.text else statement_form profile file line.number line.text
