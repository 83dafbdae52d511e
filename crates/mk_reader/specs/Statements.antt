-- The statements of a file: what its lines say, in their order, down to the first line that is refused.
use Rattle.std.specs.Prelude.{◌≡◌, ℕ, Bool, true, false, not, ◌&&◌, if◌then◌else◌, List, [], ◌∷◌, ◌++◌, Option, Some, None, Result, Ok, Err, is_some}
use Rattle.mk_profile.specs.declared.profile.Profile.{Profile}
use Rattle.mk_profile.specs.Profile.{is_wide}
use Rattle.mk_lines.specs.Lines.{logical_lines, joined_lines}
use Rattle.mk_reader.specs.Grammar.{refusal, IsTextLine, IsForm}
use Rattle.mk_reader.specs.Form.{statement_form, form_of}
use Rattle.mk_reader.specs.declared.special.SpecialName.{SpecialName}
use Rattle.mk_reader.specs.declared.item.DefinitionKind.{DefinitionKind}
use Rattle.mk_reader.specs.declared.item.DefinitionKind.TheVariants.{NoSign}
use Rattle.mk_reader.specs.declared.item.RecipeLine.{RecipeLine}
use Rattle.mk_reader.specs.declared.item.Rule.{Rule}
use Rattle.mk_reader.specs.declared.item.Item.{Item}
use Rattle.mk_reader.specs.declared.item.Item.TheVariants as item
use Rattle.mk_reader.specs.declared.item.Statement.{Statement}
use Rattle.mk_reader.specs.declared.item.Statement.TheVariants as statement
use Rattle.mk_reader.specs.declared.fault.Cause.{Cause}
use Rattle.mk_reader.specs.declared.fault.Cause.TheVariants.{MissingSeparator, BlanksInFront, TabFirst}
use Rattle.mk_reader.specs.declared.fault.Refusal.{Refusal}
use Rattle.mk_reader.specs.declared.fault.ReadFault.{ReadFault}
use Rattle.mk_reader.specs.declared.fault.ReadFault.TheVariants.{OutOfMemory, Refused}
use Rattle.mk_lines.specs.declared.line.LogicalLine.{LogicalLine}
use Rattle.mk_reader.specs.declared.form.UnfinishedRule.{UnfinishedRule}
use Rattle.mk_reader.specs.declared.form.Form.{Form}
use Rattle.mk_reader.specs.declared.form.Form.TheVariants as form

abbrev pub item_of : Option SpecialName → Rule → Item
item_of None rule = item.Rule rule
item_of (Some name) rule = item.Special (record { name = name; rule = rule })

-- the rule with more lines of its recipe
abbrev pub with_lines : UnfinishedRule → List RecipeLine → Item
with_lines unfinished more = item_of unfinished.special (record unfinished.rule { recipe = unfinished.rule.recipe ++ more })

-- a line and the recipe lines below it, down to the next line that is neither a recipe line nor blank
abbrev pub recipe_from : Result Form Refusal → List RecipeLine → List RecipeLine
recipe_from (Ok form.Blank) below = below
recipe_from (Ok (form.Recipe line)) below = line ∷ below
recipe_from (Ok (form.Include include)) below = []
recipe_from (Ok (form.DefinitionLine line)) below = []
recipe_from (Ok (form.Definition definition)) below = []
recipe_from (Ok (form.Rule unfinished)) below = []
recipe_from (Err fault) below = []

-- these are the recipe lines at the front of the lines, down to the next line that is neither a recipe line nor blank
abbrev pub RecipeBelow : Profile → List ℕ → List LogicalLine → List RecipeLine → Type 0
RecipeBelow profile file [] below = below ≡ []
RecipeBelow profile file (line ∷ more) below =
    (told : Result Form Refusal) × IsForm profile file line told × (rest : List RecipeLine) × RecipeBelow profile file more rest × (below ≡ recipe_from told rest)

-- Lines that begin with a TAB where no rule stands above them. The wide profile reads them as GNU make does: blank lines and comments mean nothing,
-- definitions and include lines what they mean elsewhere, and all else is a recipe line that belongs to no rule

abbrev pub lacks_sign : DefinitionKind → Bool
lacks_sign NoSign = true
lacks_sign _ = false

-- a rule line, or one that what it comes to may make one
abbrev pub may_be_rule : Form → Bool
may_be_rule (form.Rule unfinished) = true
may_be_rule (form.DefinitionLine line) = lacks_sign line.kind
may_be_rule _ = false

abbrev pub lacks_separator : Cause → Bool
lacks_separator MissingSeparator = true
lacks_separator BlanksInFront = true
lacks_separator _ = false

-- a line that is told as this elsewhere
abbrev pub told_outside : List ℕ → ℕ → Result Form Refusal → Result Form Refusal
told_outside file number (Ok told) = if may_be_rule told then Err (refusal file number TabFirst) else Ok told
told_outside file number (Err refused) = Err (record { file = refused.file; line = refused.line; cause = if lacks_separator refused.cause then TabFirst else refused.cause })

abbrev pub first_of : List (List ℕ) → List ℕ
first_of [] = []
first_of (one ∷ more) = one

-- the text of a recipe line, joined as that of other lines
abbrev pub joined_plainly : List ℕ → List ℕ
joined_plainly text = first_of (joined_lines (Some text))

abbrev pub IsToldOutside : (tab : Bool) → Profile → List ℕ → LogicalLine → Result Form Refusal → Type 0
IsToldOutside false profile file line told = IsForm profile file line told
IsToldOutside true profile file line told =
    (elsewhere : Result Form Refusal) × IsTextLine profile file line.number (joined_plainly line.text) elsewhere × (told ≡ told_outside file line.number elsewhere)

-- what a line is where a rule stands above it, with nothing but recipe lines and blank lines between, or none does
abbrev pub IsTold : Profile → List ℕ → (above : Bool) → LogicalLine → Result Form Refusal → Type 0
IsTold profile file above line told = IsToldOutside (not above && (line.is_recipe && is_wide profile)) profile file line told

-- a statement, and behind it what Rest allows
abbrev pub Before : Statement → (List Statement → Type 0) → List Statement → Type 0
Before one Rest statements = (rest : List Statement) × Rest rest × (statements ≡ one ∷ rest)

-- a recipe line is a part of the rule above it, and there has to be one
abbrev pub BelowRule : List ℕ → ℕ → Bool → (Bool → List Statement → Type 0) → List Statement → Type 0
BelowRule file number true Rest statements = Rest true statements
BelowRule file number false Rest statements = statements ≡ statement.Refused (refusal file number TabFirst) ∷ []

-- what a line of this form and the lines behind it say. The Bool says whether a rule stands above the line with
-- nothing but recipe lines and blank lines between, Rest says what the lines behind say.
abbrev pub FormStatements : List ℕ → ℕ → Bool → Result Form Refusal → List RecipeLine → (Bool → List Statement → Type 0) → List Statement → Type 0
FormStatements file number above (Err fault) below Rest statements = statements ≡ statement.Refused fault ∷ []
FormStatements file number above (Ok form.Blank) below Rest statements = Rest above statements
FormStatements file number above (Ok (form.Recipe line)) below Rest statements = BelowRule file number above Rest statements
FormStatements file number above (Ok (form.Include include)) below Rest statements = Before (statement.Include include) (Rest false) statements
FormStatements file number above (Ok (form.DefinitionLine line)) below Rest statements = Before (statement.Definition line) (Rest false) statements
FormStatements file number above (Ok (form.Definition definition)) below Rest statements =
    Before (statement.Item (item.Definition definition)) (Rest false) statements
FormStatements file number above (Ok (form.Rule unfinished)) below Rest statements =
    Before (statement.Item (with_lines unfinished below)) (Rest true) statements

-- what the lines of a file say
abbrev pub LineStatements : Profile → List ℕ → Bool → List LogicalLine → List Statement → Type 0
LineStatements profile file above [] statements = statements ≡ []
LineStatements profile file above (line ∷ more) statements =
    (told : Result Form Refusal) × IsTold profile file above line told × (below : List RecipeLine) × RecipeBelow profile file more below
    × FormStatements file line.number above told below (λ now. LineStatements profile file now more) statements

-- these are the statements of a text that is read in this profile, under this file name
abbrev pub AreStatements : Profile → (file text : List ℕ) → List Statement → Type 0
AreStatements profile file text statements = LineStatements profile file false (logical_lines (is_wide profile) 1 (Some text)) statements

-- What is gathered of a file while it is read.

-- what a line is, computed
unfoldable pub outside_form : Profile → List ℕ → ℕ → List ℕ → Result Form Refusal
outside_form profile file number text = told_outside file number (statement_form profile file number (joined_plainly text))

unfoldable pub form_below : Profile → List ℕ → (above : Bool) → LogicalLine → Result Form Refusal
form_below profile file above line =
    if not above && (line.is_recipe && is_wide profile) then outside_form profile file line.number line.text else form_of profile file line

-- the item of a rule that may be unfinished, with more lines of its recipe
abbrev pub finished : Option UnfinishedRule → List RecipeLine → List Statement
finished None more = []
finished (Some unfinished) more = statement.Item (with_lines unfinished more) ∷ []

-- the statement with one more line of its recipe, if it is a rule
abbrev pub with_line : Statement → RecipeLine → Statement
with_line (statement.Item (item.Rule rule)) line = statement.Item (item.Rule (record rule { recipe = rule.recipe ++ line ∷ [] }))
with_line (statement.Item (item.Special special)) line =
    statement.Item (item.Special (record special { rule = record special.rule { recipe = special.rule.recipe ++ line ∷ [] } }))
with_line (statement.Item (item.Definition definition)) line = statement.Item (item.Definition definition)
with_line (statement.Definition definition) line = statement.Definition definition
with_line (statement.Include include) line = statement.Include include
with_line (statement.Refused refused) line = statement.Refused refused

-- a line is added to the recipe of the rule that stands last, if one does
abbrev pub AddsLine : List Statement → RecipeLine → List Statement → Type 0
AddsLine old line new =
    (front : List Statement) (rule : UnfinishedRule) → old ≡ front ++ statement.Item (with_lines rule []) ∷ [] → new ≡ front ++ statement.Item (with_lines rule (line ∷ [])) ∷ []

-- so a recipe line is taken below a rule; where none stands above, it is refused
abbrev pub RecipeLineTaken : List ℕ → ℕ → RecipeLine → List Statement → Bool → List Statement → Bool → Bool → Type 0
RecipeLineTaken file number line old true new now ended = (ended ≡ false) × AddsLine old line new × (now ≡ true)
RecipeLineTaken file number line old false new now ended = (ended ≡ true) × (new ≡ old ++ statement.Refused (refusal file number TabFirst) ∷ [])

-- a line that is refused for this is taken in, unless memory ran out
abbrev pub IsFaultTaken : ReadFault → List Statement → List Statement → Bool → Type 0
IsFaultTaken OutOfMemory old new ended = ⊥
IsFaultTaken (Refused fault) old new ended = (ended ≡ true) × (new ≡ old ++ statement.Refused fault ∷ [])

-- a line that was told as this form is taken in behind these statements, which end with a rule that recipe lines may be added to, or don't; it
-- leaves these, which end so or not, and ends the file's statements or not
abbrev pub Taken : List ℕ → ℕ → Result Form Refusal → List Statement → Bool → List Statement → Bool → Bool → Type 0
Taken file number (Err fault) old above new now ended = (ended ≡ true) × (new ≡ old ++ statement.Refused fault ∷ [])
Taken file number (Ok form.Blank) old above new now ended = (ended ≡ false) × (new ≡ old) × (now ≡ above)
Taken file number (Ok (form.Recipe line)) old above new now ended = RecipeLineTaken file number line old above new now ended
Taken file number (Ok (form.Include include)) old above new now ended = (ended ≡ false) × (new ≡ old ++ statement.Include include ∷ []) × (now ≡ false)
Taken file number (Ok (form.DefinitionLine line)) old above new now ended = (ended ≡ false) × (new ≡ old ++ statement.Definition line ∷ []) × (now ≡ false)
Taken file number (Ok (form.Definition definition)) old above new now ended =
    (ended ≡ false) × (new ≡ old ++ statement.Item (item.Definition definition) ∷ []) × (now ≡ false)
Taken file number (Ok (form.Rule rule)) old above new now ended = (ended ≡ false) × (new ≡ old ++ statement.Item (with_lines rule []) ∷ []) × (now ≡ true)

-- where these statements and this rule were gathered and these lines are left, the file comes to these statements
abbrev pub ComesTo : Profile → List ℕ → List Statement → Option UnfinishedRule → List LogicalLine → List Statement → Type 0
ComesTo profile file gathered unfinished left whole =
    (below : List RecipeLine) × RecipeBelow profile file left below × (rest : List Statement)
    × LineStatements profile file (is_some unfinished) left rest × (whole ≡ gathered ++ finished unfinished below ++ rest)

-- so it does where these statements were gathered, of which the last is a rule that recipe lines may be added to, or isn't
abbrev pub Comes : Profile → List ℕ → List Statement → (above : Bool) → List LogicalLine → List Statement → Type 0
Comes profile file gathered above left whole =
    (old : List Statement) (unfinished : Option UnfinishedRule) → gathered ≡ old ++ finished unfinished [] → above ≡ is_some unfinished
    → ComesTo profile file old unfinished left whole
