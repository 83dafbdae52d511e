-- The rule lines of a makefile's items: each is expanded with the definitions above it.
use Rattle.std.specs.Prelude.{◌≡◌, ℕ, ◌⊎◌, ◌&&◌, is_none, List, [], ◌∷◌, Option, Some, None, if◌then◌else◌}
use Rattle.mk_profile.specs.Profile.{is_wide}
use Rattle.mk_profile.specs.declared.profile.Profile.{Profile}
use Rattle.byte_strings.specs.Blanks.{words}
use Rattle.mk_macros.specs.Ranks.{Defined, with_definition, rule_meanings}
use Rattle.mk_macros.specs.Expansion.{gives, ExpandsTo, ExpandsToFault}
use Rattle.mk_macros.specs.declared.definitions.Rank.TheVariants.{Makefile}
use Rattle.mk_macros.specs.declared.fault.MacroFault.{MacroFault}
use Rattle.mk_macros.specs.declared.fault.MacroFault.TheVariants.{OutOfMemory}
use Rattle.mk_reader.specs.declared.item.Definition.{Definition}
use Rattle.mk_reader.specs.declared.item.RecipeLine.{RecipeLine}
use Rattle.mk_reader.specs.declared.item.Rule.{Rule}
use Rattle.mk_reader.specs.declared.item.Item.{Item}
use Rattle.mk_reader.specs.declared.item.Item.TheVariants as item
use Rattle.mk_reader.specs.declared.special.SpecialName.{SpecialName}
use Rattle.mk_reader.specs.declared.special.SpecialName.TheVariants.{Phony}
use Rattle.mk_rule_lines.specs.declared.rule_line.RuleLine.{RuleLine}
use Rattle.mk_rule_lines.specs.declared.fault.TextFault.{TextFault}
use Rattle.mk_rule_lines.specs.declared.fault.TextPlace.{TextPlace}
use Rattle.mk_rule_lines.specs.declared.fault.RuleFault.{RuleFault}
use Rattle.mk_rule_lines.specs.declared.fault.RuleFault.TheVariants as fault

-- what is defined behind a definition of the makefile
abbrev pub behind : Defined → Definition → Defined
behind given d = with_definition given Makefile d.name d.value d.append

-- what is defined behind these items
abbrev pub behind_items : Defined → List Item → Defined
behind_items given [] = given
behind_items given (item.Definition d ∷ items) = behind_items (behind given d) items
behind_items given (item.Rule rule ∷ items) = behind_items given items
behind_items given (item.Special special ∷ items) = behind_items given items

-- the words of what a text expands to
pub record AreWordsOf (given : Defined) (text : List ℕ) (ws : List (List ℕ)) : Type 0 where
  pub expansion : List ℕ
  pub expands : ExpandsTo (rule_meanings given) text (gives expansion)
  pub cut : ws ≡ words expansion

-- what names the targets of a line: what stands before its colon; in a line of `.PHONY` what stands behind it
abbrev pub targets_text : Option SpecialName → Rule → List ℕ
targets_text (Some Phony) rule = rule.prerequisites
targets_text _ rule = rule.targets

-- the prerequisites of a line: the words of what stands behind its colon. A line of `.PHONY` has none
abbrev pub ArePrerequisites : Defined → Option SpecialName → Rule → List (List ℕ) → Type 0
ArePrerequisites given (Some Phony) rule ws = ws ≡ []
ArePrerequisites given _ rule ws = AreWordsOf given rule.prerequisites ws

-- the recipe of a line: its own. A line of `.PHONY` has none (own)
abbrev pub recipe_in : Option SpecialName → Rule → List RecipeLine
recipe_in (Some Phony) rule = []
recipe_in _ rule = rule.recipe

-- the line is that of a rule, which may be a special one. A line of `.PHONY` is a rule line for the names that it lists, without
-- prerequisites and recipe. A special rule means the same with `::`
pub record IsRuleLine (given : Defined) (special : Option SpecialName) (rule : Rule) (l : RuleLine) : Type 0 where
  pub file : l.file ≡ rule.file
  pub number : l.line ≡ rule.line
  pub profile : l.profile ≡ given.language
  pub name : l.special ≡ special
  pub targets : AreWordsOf given (targets_text special rule) l.targets
  pub prerequisites : ArePrerequisites given special rule l.prerequisites
  pub recipe : l.recipe ≡ recipe_in special rule
  pub double : l.is_double ≡ (is_none special && rule.is_double)

-- the lines are those of the items, each expanded with the definitions above it (make(1S), "Macros")
pub data AreRuleLines : Defined → List Item → List RuleLine → Type 0 where
  no_items : {given : Defined} → AreRuleLines given [] []
  behind_definition : {given : Defined} {d : Definition} {items : List Item} {lines : List RuleLine} →
      AreRuleLines (behind given d) items lines → AreRuleLines given (item.Definition d ∷ items) lines
  a_rule : {given : Defined} {rule : Rule} {l : RuleLine} {items : List Item} {lines : List RuleLine} →
      IsRuleLine given None rule l → AreRuleLines given items lines → AreRuleLines given (item.Rule rule ∷ items) (l ∷ lines)
  a_special : {given : Defined} {name : SpecialName} {rule : Rule} {l : RuleLine} {items : List Item} {lines : List RuleLine} →
      IsRuleLine given (Some name) rule l → AreRuleLines given items lines →
      AreRuleLines given (item.Special (record { name = name; rule = rule }) ∷ items) (l ∷ lines)

-- the fault is what the expansion of a text meets
abbrev pub MeetsFault : Defined → (text : List ℕ) → MacroFault → Type 0
MeetsFault given text OutOfMemory = ⊥
MeetsFault given text f = ExpandsToFault (rule_meanings given) text f

-- the place of a line as it is told: in the wide profile (own)
abbrev pub told_place : Profile → (file : List ℕ) (line : ℕ) → Option TextPlace
told_place profile file line = if is_wide profile then Some (record { file = file; line = line }) else None

-- the rule meets the fault in its targets or in its prerequisites, and the place is that of its line
pub record IsFaultAt (given : Defined) (rule : Rule) (f : TextFault) : Type 0 where
  pub text : MeetsFault given rule.targets f.cause ⊎ MeetsFault given rule.prerequisites f.cause
  pub place : f.place ≡ told_place given.language rule.file rule.line

-- the rule meets it, or else it gives a line, and what stands behind it meets it
abbrev pub MeetsOrGives : Defined → Option SpecialName → Rule → (Behind : Type 0) → TextFault → Type 0
MeetsOrGives given special rule Behind f = IsFaultAt given rule f ⊎ ((l : RuleLine) × IsRuleLine given special rule l × Behind)

-- the fault is that of the first rule of the items that has one, under the definitions above it: each rule before it gives a line
abbrev pub HasFirstFault : Defined → List Item → TextFault → Type 0
HasFirstFault given [] f = ⊥
HasFirstFault given (item.Definition d ∷ items) f = HasFirstFault (behind given d) items f
HasFirstFault given (item.Rule rule ∷ items) f = MeetsOrGives given None rule (HasFirstFault given items f) f
HasFirstFault given (item.Special special ∷ items) f = MeetsOrGives given (Some special.name) special.rule (HasFirstFault given items f) f

-- the fault of a rule's texts, of its line and of items; want of memory says nothing of them
abbrev pub AreTextsFault : Defined → (targets prerequisites : List ℕ) → MacroFault → Type 0
AreTextsFault given targets prerequisites OutOfMemory = Unit {0}
AreTextsFault given targets prerequisites f = MeetsFault given targets f ⊎ MeetsFault given prerequisites f

abbrev pub IsRuleLineFault : Defined → Rule → RuleFault → Type 0
IsRuleLineFault given rule fault.OutOfMemory = Unit {0}
IsRuleLineFault given rule (fault.Macro f) = IsFaultAt given rule f
IsRuleLineFault given rule _ = ⊥

abbrev pub IsLinesFault : Defined → List Item → RuleFault → Type 0
IsLinesFault given items fault.OutOfMemory = Unit {0}
IsLinesFault given items (fault.Macro f) = HasFirstFault given items f
IsLinesFault given items _ = ⊥

-- how the fault of an expansion is told of a place
abbrev pub IsToldAt : Option TextPlace → MacroFault → RuleFault → Type 0
IsToldAt place OutOfMemory told = told ≡ fault.OutOfMemory
IsToldAt place f told = told ≡ fault.Macro (record { place = place; cause = f })
