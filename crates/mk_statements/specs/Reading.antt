-- The statements of a text, line by line (GNU make manual, "How make Parses a Makefile", "Recipe Syntax" and "Defining Multi-Line Variables"; GNU
-- make 4.3).
use Rattle.std.specs.Prelude.{◌≡◌, ℕ, Bool, true, false, not, ◌&&◌, List, [], ◌∷◌, ◌++◌, drop, length, Option, Some, None, option_map, if◌then◌else◌}
use Rattle.std.specs.List.{list_any}
use Rattle.byte_strings.specs.Blanks.{trimmed}
use Rattle.mk_lines.specs.Text.{is_nul, begins_with, without_last}
use Rattle.mk_lines.specs.Lines.{Physical, lines_left, groups, number_after}
use Rattle.mk_conditionals.specs.Define.{body_line}
use Rattle.mk_conditionals.specs.declared.define.BodyLine.{BodyLine}
use Rattle.mk_conditionals.specs.declared.define.BodyLine.TheVariants.{Inside, Ends}
use Rattle.mk_statements.specs.Logical.{kept, joined}
use Rattle.mk_statements.specs.Cut.{cut, recipe_at}
use Rattle.mk_statements.specs.Told.{Told, nothing, refused, told_of, told_by, kind_of, rule_told, or_rule, behind_tab, with_body}
use Rattle.mk_statements.specs.declared.said.Fault.TheVariants.{HasNul, MissingEndef}
use Rattle.mk_statements.specs.declared.said.Kind.{Kind}
use Rattle.mk_statements.specs.declared.said.Kind.TheVariants.{Says, Begins, Rule}
use Rattle.mk_statements.specs.declared.content.Content.{Content}
use Rattle.mk_statements.specs.declared.content.Content.TheVariants as content
use Rattle.mk_statements.specs.declared.content.Line.{Line}
use Rattle.mk_statements.specs.declared.content.Uncommented.{Uncommented}
use Rattle.mk_statements.specs.declared.content.Begun.{Begun}
use Rattle.mk_statements.specs.declared.content.Begun.TheVariants.{Whole, Opens}
use Rattle.mk_statements.specs.declared.statement.Statement.{Statement}
use Rattle.mk_statements.specs.declared.statement.Statement.TheVariants.{Plain, Tab}

-- a line that begins with a TAB is a recipe's where a rule is open, and says this where none is
pub data Meaning : Type 0 where
  plain : (told : Told) → Meaning
  tab : (recipe : List ℕ) (told : Told) → Meaning

-- a statement, and the line in which it begins
pub record Stated : Type 0 where
  pub line : ℕ
  pub meaning : Meaning

abbrev pub stated_at : ℕ → Meaning → Stated
stated_at line meaning = record { line = line; meaning = meaning }

-- a joined line without its comment
unfoldable pub uncommented : (joined : List ℕ) → List ℕ
uncommented joined = (cut false joined).front

-- a rule is cut at its `;`, and the recipe behind it stays as it stands
unfoldable pub rule_of : (kept joined : List ℕ) → Told
rule_of kept joined = rule_told (trimmed (cut true joined).front) (recipe_at (cut true kept).behind)

-- what a line means, by its text as it stands and joined (GNU make takes no notice of what stands behind a NUL: own)
unfoldable pub meaning : (kept joined : List ℕ) → Meaning
meaning kept joined =
    if list_any is_nul kept then plain (refused HasNul)
    else (if begins_with 9 kept then tab (drop 1 kept) (behind_tab (kind_of (told_of (uncommented joined))) (told_of (uncommented joined)))
    else plain (or_rule (told_of (uncommented joined)) (rule_of kept joined)))

abbrev pub is_begun : Kind → Bool
is_begun Says = false
is_begun Begins = true
is_begun Rule = false

-- the line begins a `define`
unfoldable pub begins_define : (kept joined : List ℕ) → Bool
begins_define kept joined = not (list_any is_nul kept) && (not (begins_with 9 kept) && is_begun (kind_of (told_of (uncommented joined))))

-- a `define` whose lines are these, each ended by a newline: the last of these isn't the body's
unfoldable pub defined : (text lines : List ℕ) → (text_behind : Bool) → Told
defined text lines text_behind = if list_any is_nul lines then refused HasNul else with_body (told_of text) (without_last lines) text_behind

-- whether a `define` is open: in which line it began, with which text, how many inner ones are open, and its lines so far
pub data Place : Type 0 where
  outside : Place
  within : (line : ℕ) (text : List ℕ) (depth : ℕ) (lines : List ℕ) → Place

-- a line of a body, and what comes behind it
abbrev pub in_body : (line : ℕ) (text lines : List ℕ) → BodyLine → (joined : List ℕ) → (further : Place → List Stated) → List Stated
in_body line text lines (Inside depth) joined further = further (within line text depth (lines ++ joined ++ 10 ∷ []))
in_body line text lines (Ends text_behind) joined further = stated_at line (plain (defined text lines text_behind)) ∷ further outside

-- a line where no `define` is open, and what comes behind it
abbrev pub at_line : (line : ℕ) (kept joined : List ℕ) → (further : Place → List Stated) → List Stated
at_line line kept joined further =
    if begins_define kept joined then further (within line (uncommented joined) 0 []) else stated_at line (meaning kept joined) ∷ further outside

-- the statements of logical lines, of which this is the number of the first
abbrev pub reading : Place → ℕ → List (List Physical) → List Stated
reading outside number [] = []
reading outside number (group ∷ more) =
    at_line number (kept group) (joined group) (λ place. reading place (number_after number (length group)) more)
reading (within line text depth lines) number [] = stated_at line (plain (refused MissingEndef)) ∷ []
reading (within line text depth lines) number (group ∷ more) =
    in_body line text lines (body_line depth (joined group)) (joined group) (λ place. reading place (number_after number (length group)) more)

-- the statements of what is left of a text
unfoldable pub statements_left : Place → ℕ → Option (List ℕ) → List Stated
statements_left place number left = reading place number (groups (lines_left left))

-- the statements of a text
unfoldable pub statements : (text : List ℕ) → List Stated
statements text = statements_left outside 1 (Some text)

-- What the code has of them

abbrev pub joined_or : (text : List ℕ) → Option (List ℕ) → List ℕ
joined_or text None = text
joined_or text (Some whole) = whole

abbrev pub joined_by : Uncommented → List ℕ
joined_by line = joined_or line.text line.whole

abbrev pub meaning_of : Content → Meaning
meaning_of (content.Refused fault) = plain (refused fault)
meaning_of (content.Text text) = plain (or_rule (told_of text) nothing)
meaning_of (content.Rule text recipe) = plain (rule_told (trimmed text) (option_map (λ r. r.items) recipe))
meaning_of (content.Define text lines text_behind) = plain (with_body (told_of text) (without_last lines.items) text_behind)
meaning_of (content.Tab kept text) = tab (drop 1 kept) (behind_tab (kind_of (told_of text)) (told_of text))

abbrev pub stated : Line → Stated
stated line = record { line = line.number; meaning = meaning_of line.content }

abbrev pub meaning_by : Statement → Meaning
meaning_by (Plain said) = plain (told_by said)
meaning_by (Tab recipe said) = tab recipe.now (told_by said)

abbrev pub IsBegun : (kept joined : List ℕ) → Begun → Type 0
IsBegun kept joined (Whole content) = (begins_define kept joined ≡ false) × (meaning_of content ≡ meaning kept joined)
IsBegun kept joined (Opens text) = (begins_define kept joined ≡ true) × (text ≡ uncommented joined)

-- a `define` that has come to its end, or to that of the text
abbrev pub body_told : (text lines : List ℕ) → Option Bool → Told
body_told text lines None = refused MissingEndef
body_told text lines (Some text_behind) = defined text lines text_behind
