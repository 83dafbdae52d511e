-- Static pattern rules, `TARGETS: TARGET-PATTERN: PREREQUISITE-PATTERNS`, and macros of a target: how they are spelled, and what
-- their words say (GNU make manual, "Static Pattern Rules" and "Target-specific Variable Values").
use Rattle.std.specs.Prelude.{◌≡◌, ℕ, Bool, true, false, not, ◌&&◌, ◌||◌, ◌==◌, List, [], ◌∷◌, ◌++◌, flat_map, Option, Some, None, if◌then◌else◌}
use Rattle.std.specs.List.{list_any, list_all}
use Rattle.byte_strings.specs.Blanks.{words}
use Rattle.mk_lines.specs.Text.{is_dollar, is_backslash, begins_with}
use Rattle.mk_lines.specs.References.{Whole}
use Rattle.mk_reader.specs.declared.item.Rule.{Rule}
use Rattle.mk_reader.specs.declared.fault.Cause.{Cause}
use Rattle.mk_reader.specs.declared.fault.Cause.TheVariants.{Static, Unsupported}
use Rattle.mk_reader.specs.declared.fault.Feature.TheVariants.{QuotedPercent}
use Rattle.mk_reader.specs.declared.fault.StaticCause.TheVariants.{NoPercent, Mixed}

-- the text with each `$` doubled, which expands to it
abbrev pub doubled_byte : ℕ → List ℕ
doubled_byte b = if is_dollar b then 36 ∷ b ∷ [] else b ∷ []

abbrev pub doubled : List ℕ → List ℕ
doubled text = flat_map doubled_byte text

-- the text is cut at the first such byte that stands outside references
abbrev pub IsCutAt : (byte : ℕ) (text left right : List ℕ) → Type 0
IsCutAt byte text left right = (text ≡ left ++ byte ∷ right) × Whole byte byte left

-- a sign that may stand before the `=` of a definition: `:`, `::`, `:::`, `+`, `?` or `!`
abbrev pub is_sign_byte : ℕ → Bool
is_sign_byte b = b == 58 || (b == 43 || (b == 63 || b == 33))

-- one word, with or without a sign behind it
abbrev pub name_macro : List (List ℕ) → Bool
name_macro [] = false
name_macro (name ∷ []) = true
name_macro (name ∷ sign ∷ []) = list_all is_sign_byte sign
name_macro (name ∷ sign ∷ other ∷ more) = false

-- what stands behind the `:` of a rule line defines a macro
abbrev pub DefinesMacro : (text : List ℕ) → Type 0
DefinesMacro text = (left : List ℕ) × (value : List ℕ) × IsCutAt 61 text left value × (name_macro (words left) ≡ true)

abbrev pub is_percent : ℕ → Bool
is_percent b = b == 37

abbrev pub has_percent : List ℕ → Bool
has_percent word = list_any is_percent word

-- the word with the stem in place of its first `%`; a word without one stands as it is
abbrev pub with_stem : (stem word : List ℕ) → List ℕ
with_stem stem [] = []
with_stem stem (b ∷ bs) = if is_percent b then stem ++ bs else b ∷ with_stem stem bs

-- a backslash stands directly before a `%`, which for GNU make is then no place of the stem
abbrev pub quotes_percent : List ℕ → Bool
quotes_percent [] = false
quotes_percent (b ∷ bs) = (is_backslash b && begins_with 37 bs) || quotes_percent bs

-- why a rule is refused that has this one target pattern
abbrev pub pattern_fault : (targets : List (List ℕ)) (pattern : List ℕ) (prerequisites : List (List ℕ)) → Option Cause
pattern_fault targets pattern prerequisites =
    if not (has_percent pattern) then Some (Static NoPercent)
    else (if list_any has_percent targets then Some (Static Mixed)
    else (if quotes_percent pattern || list_any quotes_percent prerequisites then Some (Unsupported QuotedPercent) else None))

-- each prerequisite pattern with the stem, behind a space
abbrev pub prerequisites_with : (stem : List ℕ) → List (List ℕ) → List ℕ
prerequisites_with stem patterns = flat_map (λ pattern. 32 ∷ with_stem stem pattern) patterns

-- what the rule says of this target with this stem, as a rule of its own, whose texts aren't expanded again
abbrev pub rule_for : Rule → (target stem : List ℕ) (patterns : List (List ℕ)) → Rule
rule_for rule target stem patterns = record rule { targets = doubled target; prerequisites = doubled (prerequisites_with stem patterns) }
