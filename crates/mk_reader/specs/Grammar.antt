-- What a line of a makefile is: nothing, an include line, a definition, a rule or a recipe line, each told by how its text is
-- spelled, or refused, each refusal told by what stands there (make(1S); the refusals are own).
use Rattle.std.specs.Prelude.{◌≡◌, ◌⊎◌, ℕ, Bool, true, false, not, ◌&&◌, ◌||◌, List, [], ◌∷◌, Option, Some, None, Result, Ok, Err}
use Rattle.std.specs.List.{list_any, list_all}
use Rattle.byte_strings.specs.Blanks.{is_blank}
use Rattle.mk_profile.specs.Profile.{is_wide}
use Rattle.mk_profile.specs.declared.profile.Profile.{Profile}
use Rattle.mk_lines.specs.Text.{is_dollar, is_empty, begins_with, is_text}
use Rattle.mk_reader.specs.Blanks.{told_behind}
use Rattle.mk_reader.specs.Directive.{told_as}
use Rattle.mk_reader.specs.declared.item.DefinitionKind.{DefinitionKind}
use Rattle.mk_reader.specs.declared.item.DefinitionKind.TheVariants.{IfUndefined}
use Rattle.mk_reader.specs.declared.item.RecipeLine.{RecipeLine}
use Rattle.mk_reader.specs.declared.fault.Cause.{Cause}
use Rattle.mk_reader.specs.declared.fault.Refusal.{Refusal}
use Rattle.mk_lines.specs.declared.line.LogicalLine.{LogicalLine}
use Rattle.mk_reader.specs.declared.form.Form.{Form}
use Rattle.mk_reader.specs.declared.fault.Feature.TheVariants as feature
use Rattle.mk_reader.specs.declared.fault.Cause.TheVariants as cause
use Rattle.mk_reader.specs.declared.form.Form.TheVariants as form
use Rattle.mk_reader.specs.Spelled.{HasNone, AllBlank, Padded, IsInclude, IsNoInclude, SpellsName, SpellsAssignment, SpellsDefinition, SpellsColon, IsSet, SpellsSign, SpellsKind, IsUnsigned, IsShell, SpellsRuleSign, SpellsRule, HasSpecial, is_refused_with}
use Rattle.mk_reader.specs.Comments.{HasContent}

-- Refusals

-- a definition whose name isn't one word
abbrev pub NamesNoWord : Profile → (line : List ℕ) → Type 0
NamesNoWord profile line =
    (left : List ℕ) × (right : List ℕ) × SpellsAssignment profile line left right
    × (name : List ℕ) × (append : Bool) × SpellsName left name append × ((is_empty name || list_any is_blank name) ≡ true)

-- one of the wide profile whose name isn't one word
abbrev pub NamesNoWordOfKind : Profile → (line : List ℕ) → Type 0
NamesNoWordOfKind profile line =
    (is_wide profile ≡ true) × (kind : DefinitionKind) × (left : List ℕ) × (right : List ℕ) × SpellsSign profile kind line left right
    × (name : List ℕ) × Padded left name × ((is_empty name || list_any is_blank name) ≡ true)

-- a rule without a target
abbrev pub HasNoTarget : Profile → (line : List ℕ) → Type 0
HasNoTarget profile line =
    (is_double : Bool) × (left : List ℕ) × (right : List ℕ) × SpellsRuleSign profile is_double line left right × AllBlank left

-- why a line is refused that isn't empty and is no include line
abbrev pub IsRefused : Profile → (line : List ℕ) → Cause → Type 0
IsRefused profile line cause.MissingSeparator =
    (HasNone profile line × ((is_wide profile && begins_with 36 line) ≡ false))
    ⊎ (NamesNoWord profile line ⊎ (NamesNoWordOfKind profile line ⊎ HasNoTarget profile line))
IsRefused profile line (cause.Unsupported feature.OptionalDefinition) =
    (is_wide profile ≡ false) × (left : List ℕ) × (right : List ℕ) × SpellsSign profile IfUndefined line left right
IsRefused profile line (cause.Unsupported feature.DoubleColon) =
    (left : List ℕ) × (right : List ℕ) × SpellsColon profile line left (58 ∷ right) × (is_wide profile ≡ false)
IsRefused profile line (cause.Unsupported feature.ColonDefinition) =
    (left : List ℕ) × (right : List ℕ) × SpellsColon profile line left (61 ∷ right) × (is_wide profile ≡ true → IsSet left right → ⊥)
IsRefused profile line (cause.Unsupported feature.ShellDefinition) = (left : List ℕ) × (right : List ℕ) × SpellsColon profile line left right × IsShell right
IsRefused profile line (cause.Unsupported (feature.SpecialName name)) =
    (is_double : Bool) × (targets : List ℕ) × (prerequisites : List ℕ) × (recipe : Option (List ℕ))
    × SpellsRule profile is_double line targets prerequisites recipe
    × HasSpecial profile targets (Some name) × (is_refused_with profile prerequisites (Some name) ≡ true)
IsRefused profile line (cause.Unsupported feature.Include) = ⊥
IsRefused profile line (cause.Unsupported (feature.Directive directive)) = ⊥
IsRefused profile line (cause.Unsupported feature.TargetMacro) = ⊥
IsRefused profile line (cause.Unsupported feature.QuotedPercent) = ⊥
IsRefused profile line (cause.Unsupported feature.GroupedTargets) = ⊥
IsRefused profile line (cause.Unsupported feature.ShellFlags) = ⊥
IsRefused profile line (cause.Unsupported feature.SearchPath) = ⊥
IsRefused profile line (cause.Unsupported feature.RecipePrefix) = ⊥
IsRefused profile line (cause.Unsupported feature.IncludeWildcard) = ⊥
IsRefused profile line cause.NotText = ⊥
IsRefused profile line cause.BlanksInFront = ⊥
IsRefused profile line cause.TabFirst = ⊥
IsRefused profile line cause.IncludeDepth = ⊥
IsRefused profile line (cause.IncludeMissing name) = ⊥
IsRefused profile line (cause.IncludeUnmade name) = ⊥
IsRefused profile line (cause.Macro why) = ⊥
IsRefused profile line (cause.Static why) = ⊥

-- Lines

-- this line of the file is refused for this cause
abbrev pub refusal : (file : List ℕ) (number : ℕ) (why : Cause) → Refusal
refusal file number why = record { file = file; line = number; cause = why }

abbrev pub IsRefusal : (file : List ℕ) (number : ℕ) → Refusal → Type 0
IsRefusal file number refused = (refused.file ≡ file) × (refused.line ≡ number)

-- the first line of a recipe that stands behind a `;`
abbrev pub first_line : (number : ℕ) → Option (List ℕ) → List RecipeLine
first_line number None = []
first_line number (Some text) = record { text = text; line = number } ∷ []

-- what a line is that isn't empty and is no include line: a definition, a rule, or refused
abbrev pub IsStatement : Profile → (file : List ℕ) (number : ℕ) (line : List ℕ) → Result Form Refusal → Type 0
IsStatement profile file number line (Ok (form.Definition d)) = (d.file ≡ file) × (d.line ≡ number) × (d.is_fixed ≡ false) × SpellsDefinition profile line d.name d.append d.value
IsStatement profile file number line (Ok (form.DefinitionLine l)) =
    IsUnsigned profile file number line l
    ⊎ ((is_wide profile ≡ true) × (l.definition.file ≡ file) × (l.definition.line ≡ number) × SpellsKind profile line l.kind l.definition)
IsStatement profile file number line (Ok (form.Rule u)) =
    (u.rule.file ≡ file) × (u.rule.line ≡ number) × (recipe : Option (List ℕ)) × (u.rule.recipe ≡ first_line number recipe)
    × SpellsRule profile u.rule.is_double line u.rule.targets u.rule.prerequisites recipe
    × HasSpecial profile u.rule.targets u.special × (is_refused_with profile u.rule.prerequisites u.special ≡ false)
IsStatement profile file number line (Ok form.Blank) = ⊥
IsStatement profile file number line (Ok (form.Recipe recipe)) = ⊥
IsStatement profile file number line (Ok (form.Include include)) = ⊥
IsStatement profile file number line (Err refused) = IsRefusal file number refused × IsRefused profile line refused.cause

-- in the strict profile an include line names files, and one with a reference, or without a name, is refused
abbrev pub is_bad_include : Profile → (names : List ℕ) → Bool
is_bad_include profile names = not (is_wide profile) && (list_any is_dollar names || list_all is_blank names)

abbrev pub IsIncludeForm : Profile → (file : List ℕ) (number : ℕ) (required : Bool) (names : List ℕ) → Result Form Refusal → Type 0
IsIncludeForm profile file number required names told =
    ((is_bad_include profile names ≡ false) × (told ≡ Ok (form.Include (record { line = number; is_required = required; names = names }))))
    ⊎ ((is_bad_include profile names ≡ true) × (told ≡ Err (refusal file number (cause.Unsupported feature.Include))))

-- what a line is, without its comment and the blanks at its ends; the word `include` comes before `=` and `:`, and a line that is
-- refused is told in the wide profile by the directive that it begins with
abbrev pub IsLine : Profile → (file : List ℕ) (number : ℕ) (line : List ℕ) → Result Form Refusal → Type 0
IsLine profile file number line told =
    ((line ≡ []) × (told ≡ Ok form.Blank))
    ⊎ (((required : Bool) × (names : List ℕ) × IsInclude profile line required names × IsIncludeForm profile file number required names told)
    ⊎ ((is_empty line ≡ false) × IsNoInclude profile line
    × ((plain : Result Form Refusal) × IsStatement profile file number line plain × (told ≡ told_as profile line plain))))

abbrev pub IsTextLine : Profile → (file : List ℕ) (number : ℕ) (text : List ℕ) → Result Form Refusal → Type 0
IsTextLine profile file number text told =
    (content : List ℕ) × HasContent profile text content
    × (((is_text content ≡ false) × (told ≡ Err (refusal file number cause.NotText)))
    ⊎ ((is_text content ≡ true) × ((line : List ℕ) × Padded content line
    × ((plain : Result Form Refusal) × IsLine profile file number line plain × (told ≡ told_behind profile content plain)))))

-- a recipe line has no comments; one of blanks alone is passed over
abbrev pub IsRecipeLine : (file : List ℕ) (number : ℕ) (text : List ℕ) → Result Form Refusal → Type 0
IsRecipeLine file number text told =
    ((is_text text ≡ false) × (told ≡ Err (refusal file number cause.NotText)))
    ⊎ (((is_text text ≡ true) × AllBlank text × (told ≡ Ok form.Blank))
    ⊎ ((is_text text ≡ true) × (list_all is_blank text ≡ false) × (told ≡ Ok (form.Recipe (record { text = text; line = number })))))

abbrev pub IsOfKind : Profile → (is_recipe : Bool) (file : List ℕ) (number : ℕ) (text : List ℕ) → Result Form Refusal → Type 0
IsOfKind profile true file number text told = IsRecipeLine file number text told
IsOfKind profile false file number text told = IsTextLine profile file number text told

-- what a logical line of the file is in a profile, or why it is refused
abbrev pub IsForm : Profile → (file : List ℕ) (line : LogicalLine) → Result Form Refusal → Type 0
IsForm profile file line told = IsOfKind profile line.is_recipe file line.number line.text told
