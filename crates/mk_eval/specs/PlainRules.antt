-- Printed rules that give themselves in each profile.
use Rattle.std.specs.Prelude.{◌≡◌, ℕ, true, false, not, ◌&&◌, List, [], ◌∷◌, Some, None, bytes_eq, codes}
use Rattle.std.specs.List.{list_any}
use Rattle.byte_strings.specs.Blanks.{words}
use Rattle.mk_profile.specs.Profile.{is_wide}
use Rattle.mk_profile.specs.declared.profile.Profile.{Profile}
use Rattle.mk_lines.specs.References.{Without}
use Rattle.mk_lines.specs.Quoted.{without_quoted}
use Rattle.mk_lines.specs.Text.{is_dollar, is_empty, ends_with}
use Rattle.mk_wildcards.specs.Pattern.{has_wildcard}
use Rattle.mk_reader.specs.Printed.{PlainItem, definition, rule}
use Rattle.mk_eval.specs.Judged.{opens_vpath, refused_among, searches}
use Rattle.mk_eval.specs.Short.{has_other_names}
use Rattle.mk_eval.specs.Static.{DefinesMacro}

-- neither a reference nor a wildcard stands in the text, and each word of it is the name that it stands for
abbrev pub IsPlainText : List ℕ → Type 0
IsPlainText text = (list_any is_dollar text ≡ false) × (has_wildcard text ≡ false) × (has_other_names text ≡ false)

abbrev pub IsPlainLine : Profile → (targets prerequisites : List ℕ) → Type 0
IsPlainLine profile targets prerequisites = is_wide profile ≡ true → IsPlainText targets × IsPlainText prerequisites

-- a rule of these targets and prerequisites gives itself in each profile
abbrev pub IsPlainRule : Profile → (targets prerequisites : List ℕ) → Type 0
IsPlainRule profile targets prerequisites =
    is_wide profile ≡ true → (DefinesMacro prerequisites → ⊥) × Without 58 58 (without_quoted prerequisites) × IsPlainText targets × IsPlainText prerequisites

-- the wide profile doesn't refuse the line by name
abbrev pub IsTakenRule : Profile → (targets : List ℕ) → Type 0
IsTakenRule profile targets = is_wide profile ≡ true → (ends_with 38 targets ≡ false) × (opens_vpath targets ≡ false) × (refused_among (words targets) ≡ None)

-- nor one of a special rule
abbrev pub IsTakenSpecial : Profile → (targets : List ℕ) → Type 0
IsTakenSpecial profile targets = is_wide profile ≡ true → refused_among (words targets) ≡ None

abbrev pub IsTakenDefinition : Profile → (name value : List ℕ) → Type 0
IsTakenDefinition profile name value =
    is_wide profile ≡ true → (bytes_eq name (codes ".SHELLFLAGS") ≡ false) × ((bytes_eq name (codes "VPATH") && searches value) ≡ false)
    × ((bytes_eq name (codes ".RECIPEPREFIX") && not (is_empty value)) ≡ false)

-- so it is of each rule, and of each definition; a special rule is told by its name
abbrev pub ArePlainRules : Profile → List PlainItem → Type 0
ArePlainRules profile [] = Unit {0}
ArePlainRules profile (definition name append value ∷ more) = IsTakenDefinition profile name value × ArePlainRules profile more
ArePlainRules profile (rule None is_double targets prerequisites recipe ∷ more) =
    IsTakenRule profile targets × IsPlainRule profile targets prerequisites × ArePlainRules profile more
ArePlainRules profile (rule (Some name) is_double targets prerequisites recipe ∷ more) =
    IsTakenSpecial profile targets × IsPlainLine profile targets prerequisites × ArePlainRules profile more
