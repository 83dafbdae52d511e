-- How include lines, definitions and rules are spelled: each by its sign, and by what stands around that (make(1S), "Macros" and
-- "Targets and Rules"). Blanks at the ends of a line and its comment are off.
use Rattle.std.specs.Prelude.{◌≡◌, ◌⊎◌, ℕ, Bool, true, false, not, ◌&&◌, ◌||◌, ◌==◌, List, [], ◌∷◌, ◌++◌, length, reverse, Option, Some, None, codes, if◌then◌else◌}
use Rattle.std.specs.Char.{is_ascii_alphanumeric}
use Rattle.std.specs.List.{list_any, list_all}
use Rattle.byte_strings.specs.Blanks.{is_blank}
use Rattle.mk_profile.specs.Profile.{is_wide}
use Rattle.mk_profile.specs.declared.profile.Profile.{Profile}
use Rattle.mk_lines.specs.Text.{is_empty, begins_with, ends_with, without_last}
use Rattle.mk_lines.specs.Quoted.{signs_in}
use Rattle.mk_reader.specs.Special.{name_text, is_known, is_refused, takes_no_prerequisites}
use Rattle.mk_reader.specs.declared.special.SpecialName.{SpecialName}
use Rattle.mk_reader.specs.declared.item.Definition.{Definition}
use Rattle.mk_reader.specs.declared.item.DefinitionKind.{DefinitionKind}
use Rattle.mk_reader.specs.declared.item.DefinitionLine.{DefinitionLine}
use Rattle.mk_reader.specs.declared.item.DefinitionKind.TheVariants.{IfUndefined, AtOnce, AtOnceAlone, Output, NoSign}
use Rattle.mk_lines.specs.References.{Whole, Without, IsCutAsSeen}
use Rattle.mk_lines.specs.Semicolon.{ends_sign}

-- Signs

-- the line is cut there, where the wide profile doesn't see the colons that a backslash quotes
abbrev pub IsCut : Profile → (sign : ℕ) (line left right : List ℕ) → Type 0
IsCut profile sign line left right =
    (line ≡ left ++ sign ∷ right) × (before : List ℕ) × (behind : List ℕ) × IsCutAsSeen sign (signs_in profile line) before behind × (length before ≡ length left)

-- neither sign is seen
abbrev pub HasNone : Profile → (line : List ℕ) → Type 0
HasNone profile line = Without 61 58 (signs_in profile line)

-- Blanks

abbrev pub AllBlank : List ℕ → Type 0
AllBlank text = list_all is_blank text ≡ true

-- blanks may stand around this, which begins and ends with none
abbrev pub begins_blank : List ℕ → Bool
begins_blank [] = false
begins_blank (b ∷ bs) = is_blank b

abbrev pub Padded : (text core : List ℕ) → Type 0
Padded text core =
    (front : List ℕ) × (back : List ℕ) × (text ≡ front ++ (core ++ back)) × AllBlank front × AllBlank back
    × (begins_blank core ≡ false) × (begins_blank (reverse core) ≡ false)

-- the word of at least one byte with which a text begins, or nothing where it begins with a blank
abbrev pub BeginsWithWord : (text word : List ℕ) → Type 0
BeginsWithWord text word =
    (rest : List ℕ) × (text ≡ word ++ rest) × (list_any is_blank word ≡ false) × ((is_empty rest || begins_blank rest) ≡ true)

-- Include lines

-- the word says that files are included, and whether they have to be there; the two words of files that may be missing
-- are the wide profile's (`-include`: POSIX make; `sinclude`: GNU make)
abbrev pub BeginsInclude : Profile → (word : List ℕ) → (required : Bool) → Type 0
BeginsInclude profile word true = word ≡ codes "include"
BeginsInclude profile word false = (is_wide profile ≡ true) × ((word ≡ codes "-include") ⊎ (word ≡ codes "sinclude"))

-- such a word stands first, and this follows
abbrev pub IsInclude : Profile → (line : List ℕ) (required : Bool) (names : List ℕ) → Type 0
IsInclude profile line required names =
    (word : List ℕ) × BeginsInclude profile word required × (line ≡ word ++ names) × ((is_empty names || begins_blank names) ≡ true)

abbrev pub IsNoInclude : Profile → (line : List ℕ) → Type 0
IsNoInclude profile line = (required : Bool) (names : List ℕ) → IsInclude profile line required names → ⊥

-- Definitions

-- what stands before the `=`: a name, or a name and `+` directly before the `=`, which appends
abbrev pub SpellsName : (left name : List ℕ) (append : Bool) → Type 0
SpellsName left name true = (rest : List ℕ) × (left ≡ rest ++ 43 ∷ []) × Padded rest name
SpellsName left name false = (begins_with 43 (reverse left) ≡ false) × Padded left name

-- the first `=` outside references comes before any `:`; no `?` stands directly before it, and in the wide profile no `!`
abbrev pub SpellsAssignment : Profile → (line left right : List ℕ) → Type 0
SpellsAssignment profile line left right =
    IsCut profile 61 line left right × (begins_with 63 (reverse left) ≡ false) × ((is_wide profile && begins_with 33 (reverse left)) ≡ false)

abbrev pub SpellsDefinition : Profile → (line name : List ℕ) (append : Bool) (value : List ℕ) → Type 0
SpellsDefinition profile line name append value =
    (left : List ℕ) × (right : List ℕ) × SpellsAssignment profile line left right
    × SpellsName left name append × (is_empty name ≡ false) × (list_any is_blank name ≡ false) × Padded right value

-- the name is one word
abbrev pub IsOneWord : (name : List ℕ) → Type 0
IsOneWord name = (is_empty name ≡ false) × (list_any is_blank name ≡ false)

-- the first `:` outside references comes before any `=`
abbrev pub SpellsColon : Profile → (line left right : List ℕ) → Type 0
SpellsColon profile line left right = IsCut profile 58 line left right

-- the names that every make takes for macros (POSIX make, "Macros")
abbrev pub is_name_byte : ℕ → Bool
is_name_byte b = is_ascii_alphanumeric b || (b == 95 || b == 46)

-- without a `+` at its end
unfoldable pub without_plus : List ℕ → List ℕ
without_plus bytes = if ends_with 43 bytes then without_last bytes else bytes

-- blanks stand around a sign: before its `=`, or `+=`, and behind it, where anything stands there
abbrev pub is_apart : (left value : List ℕ) → Bool
is_apart left value = begins_blank (reverse (without_plus left)) && (is_empty value || begins_blank value)

-- a conditional macro follows the targets and `:=` in make(1S): such a name, and `=` or `+=` with blanks around it (own: without them, as in
-- `A := x=y`, it is a text for GNU make's sake)
abbrev pub IsConditional : (right : List ℕ) → Type 0
IsConditional right =
    (left : List ℕ) × (value : List ℕ) × (right ≡ left ++ 61 ∷ value) × Whole 61 61 left
    × (name : List ℕ) × (append : Bool) × SpellsName left name append × (is_empty name ≡ false) × (list_all is_name_byte name ≡ true) × (is_apart left value ≡ true)

-- one word stands before `:=`, and no conditional macro behind it
abbrev pub IsSet : (left right : List ℕ) → Type 0
IsSet left right = ((name : List ℕ) × Padded left name × IsOneWord name) × (IsConditional right → ⊥)

-- what stands around the sign of a definition of this kind (POSIX make, "Macros"; `:=`: GNU make)
abbrev pub SpellsSign : Profile → DefinitionKind → (line left right : List ℕ) → Type 0
SpellsSign profile IfUndefined line left right = IsCut profile 61 line (left ++ 63 ∷ []) right
SpellsSign profile AtOnce line left right = SpellsColon profile line left (58 ∷ 61 ∷ right) ⊎ (SpellsColon profile line left (61 ∷ right) × IsSet left right)
SpellsSign profile AtOnceAlone line left right = SpellsColon profile line left (58 ∷ 58 ∷ 61 ∷ right)
SpellsSign profile Output line left right = IsCut profile 61 line (left ++ 33 ∷ []) right
SpellsSign profile NoSign line left right = ⊥

-- a definition of the wide profile, which counts by what stands above it; it doesn't append
abbrev pub SpellsKind : Profile → (line : List ℕ) → DefinitionKind → Definition → Type 0
SpellsKind profile line kind d =
    (left : List ℕ) × (right : List ℕ) × SpellsSign profile kind line left right
    × Padded left d.name × IsOneWord d.name × (d.append ≡ false) × (d.is_fixed ≡ false) × Padded right d.value

-- a line of the wide profile that begins with a reference and has no sign outside references: what it comes to says whether it is an empty
-- line (GNU make, which takes it for what it comes to; that it is refused where it doesn't come to nothing: own)
abbrev pub HasNoSign : Profile → (line : List ℕ) → Type 0
HasNoSign profile line = HasNone profile line × ((is_wide profile && begins_with 36 line) ≡ true)

abbrev pub IsUnsigned : Profile → (file : List ℕ) (number : ℕ) (line : List ℕ) → DefinitionLine → Type 0
IsUnsigned profile file number line l =
    HasNoSign profile line
    × (l ≡ record { kind = NoSign; definition = record { file = file; line = number; name = []; append = false; value = line; is_fixed = false } })

-- Rules

-- behind the `:` of `NAME:sh =`
abbrev pub IsShell : (right : List ℕ) → Type 0
IsShell right = (blanks : List ℕ) × (rest : List ℕ) × (right ≡ codes "sh" ++ (blanks ++ 61 ∷ rest)) × AllBlank blanks

-- the `:` is a rule's: no `::`, `:=` or `:sh =`
abbrev pub IsRuleEnd : (right : List ℕ) → Type 0
IsRuleEnd right = (begins_with 58 right ≡ false) × (begins_with 61 right ≡ false) × (IsShell right → ⊥)

-- the prerequisites, and behind the first `;` outside references, where there is one, the recipe's first line
abbrev pub SpellsEnd : (right prerequisites : List ℕ) (recipe : Option (List ℕ)) → Type 0
SpellsEnd right prerequisites None = Without 59 59 right × Padded right prerequisites
SpellsEnd right prerequisites (Some recipe) =
    (before : List ℕ) × (right ≡ before ++ 59 ∷ recipe) × Whole 59 59 before × Padded before prerequisites

-- what stands around the sign of a rule: `:`, or in the wide profile `::` (GNU make manual, "Double-Colon Rules")
abbrev pub SpellsRuleSign : Profile → (is_double : Bool) → (line left right : List ℕ) → Type 0
SpellsRuleSign profile false line left right = SpellsColon profile line left right × IsRuleEnd right
SpellsRuleSign profile true line left right = SpellsColon profile line left (58 ∷ right) × (is_wide profile ≡ true) × (ends_sign right ≡ false)

abbrev pub SpellsRule : Profile → (is_double : Bool) → (line targets prerequisites : List ℕ) (recipe : Option (List ℕ)) → Type 0
SpellsRule profile is_double line targets prerequisites recipe =
    (left : List ℕ) × (right : List ℕ) × SpellsRuleSign profile is_double line left right
    × Padded left targets × (is_empty targets ≡ false) × SpellsEnd right prerequisites recipe

-- the first target is this special name of the profile, or none
abbrev pub HasSpecial : Profile → (targets : List ℕ) → Option SpecialName → Type 0
HasSpecial profile targets None = (name : SpecialName) → is_known profile name ≡ true → BeginsWithWord targets (name_text name) → ⊥
HasSpecial profile targets (Some name) = (is_known profile name ≡ true) × BeginsWithWord targets (name_text name)

-- such a rule is refused
abbrev pub is_refused_with : Profile → (prerequisites : List ℕ) → Option SpecialName → Bool
is_refused_with profile prerequisites None = false
is_refused_with profile prerequisites (Some name) = is_refused profile name || (takes_no_prerequisites profile name && not (is_empty prerequisites))
