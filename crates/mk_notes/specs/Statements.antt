-- What the statements of a file give to be noted. Own.
use Rattle.std.specs.Prelude.{ℕ, Bool, true, false, not, ◌&&◌, ◌==◌, List, [], ◌∷◌, ◌++◌, map, Option, Some, None, codes, bytes_eq, if◌then◌else◌}
use Rattle.std.specs.List.{list_any}
use Rattle.byte_strings.specs.Blanks.{is_blank, first_word}
use Rattle.mk_profile.specs.Profile.{is_wide}
use Rattle.mk_profile.specs.declared.profile.Profile.{Profile}
use Rattle.mk_lines.specs.Text.{is_empty, ends_with}
use Rattle.mk_reader.specs.declared.item.Item.{Item}
use Rattle.mk_reader.specs.declared.item.Item.TheVariants as item
use Rattle.mk_reader.specs.declared.item.RecipeLine.{RecipeLine}
use Rattle.mk_reader.specs.declared.item.Rule.{Rule}
use Rattle.mk_reader.specs.declared.item.Statement.{Statement}
use Rattle.mk_reader.specs.declared.item.Statement.TheVariants as statement
use Rattle.mk_reader.specs.declared.special.SpecialName.{SpecialName}
use Rattle.mk_reader.specs.declared.special.SpecialName.TheVariants.{Suffixes}
use Rattle.mk_notes.specs.Names.{is_target, is_macro_elsewhere, is_suffix_name, is_named_by}
use Rattle.mk_notes.specs.Notes.{all_noted}
use Rattle.mk_notes.specs.References.{listed, subjects_in, is_automatic, is_dollar}
use Rattle.mk_notes.specs.declared.note.Note.{Note}
use Rattle.mk_notes.specs.declared.note.Subject.{Subject}
use Rattle.mk_notes.specs.declared.note.Subject.TheVariants as subject

-- the lines of a recipe, each with its number
abbrev pub recipe_texts : List RecipeLine → List (ℕ × List ℕ)
recipe_texts raws = map (λ raw. (raw.line, raw.text)) raws

abbrev pub rule_texts : Rule → List (ℕ × List ℕ)
rule_texts rule = (rule.line, rule.targets) ∷ (rule.line, rule.prerequisites) ∷ recipe_texts rule.recipe

abbrev pub item_texts : Item → List (ℕ × List ℕ)
item_texts (item.Definition d) = (d.line, d.value) ∷ []
item_texts (item.Rule rule) = rule_texts rule
item_texts (item.Special special) = rule_texts special.rule

-- the texts of a statement as they stand there, each with the number of its line
abbrev pub texts_of : Statement → List (ℕ × List ℕ)
texts_of (statement.Item one) = item_texts one
texts_of (statement.Definition line) = (line.definition.line, line.definition.value) ∷ []
texts_of (statement.Include include) = (include.line, include.names) ∷ []
texts_of (statement.Refused refusal) = []

-- the notes with those on the references of these texts of the file
abbrev pub texts_noted : Profile → (file : List ℕ) → List (ℕ × List ℕ) → List Note → List Note
texts_noted profile file [] notes = notes
texts_noted profile file ((line, text) ∷ more) notes =
    texts_noted profile file more (all_noted file line (subjects_in profile false text) notes)

-- a rule as suffix rules are written (POSIX make, "Inference Rules"): with a recipe and no prerequisites, for one name that is made
-- of one or two suffixes
abbrev pub is_suffix_rule : Rule → Bool
is_suffix_rule rule = if is_empty rule.recipe then false else (is_empty rule.prerequisites && is_suffix_name rule.targets)

-- the first word of a text is a prerequisite, whatever references come to
abbrev pub begins_with_prerequisite : (text : List ℕ) → Bool
begins_with_prerequisite text =
    not (is_empty (first_word text)) && (not (list_any is_dollar (first_word text)) && not (bytes_eq (first_word text) (codes "|")))

-- a rule of such a name with prerequisites (POSIX make, "Inference Rules": there should be none; GNU make 4.3 passes them over)
abbrev pub is_plain_target : Rule → Bool
is_plain_target rule =
    if is_empty rule.recipe then false else (begins_with_prerequisite rule.prerequisites && is_suffix_name rule.targets)

-- what the target of a rule is noted as: a name with a meaning elsewhere, or in the strict profile a `&` that groups no targets, or, since
-- it knows no suffixes by itself, a suffix rule; in the wide profile one that would be a suffix rule without its prerequisites
abbrev pub target_of : Profile → Rule → Option Subject
target_of profile rule =
    if is_target rule.targets then Some (subject.Target rule.targets)
    else (if not (is_wide profile) && ends_with 38 rule.targets then Some (subject.Target (codes "&"))
    else (if not (is_wide profile) && is_suffix_rule rule then Some (subject.SuffixRule rule.targets)
    else (if is_wide profile && is_plain_target rule then Some (subject.PlainTarget rule.targets) else None)))

-- what a macro's name is noted as that a definition has
abbrev pub macro_of : Profile → (name : List ℕ) → Option Subject
macro_of profile name = if is_macro_elsewhere profile name then Some (subject.Target name) else None

-- the notes with one on the target of an item that is a rule, or on the name of a definition
abbrev pub target_noted : Profile → (file : List ℕ) → Item → List Note → List Note
target_noted profile file (item.Definition d) notes = all_noted file d.line (listed (macro_of profile d.name)) notes
target_noted profile file (item.Rule rule) notes = all_noted file rule.line (listed (target_of profile rule)) notes
target_noted profile file (item.Special special) notes = notes

-- the notes with those on a statement: on its target or the name that it defines, and then on its texts
abbrev pub statement_noted : Profile → (file : List ℕ) → Statement → List Note → List Note
statement_noted profile file (statement.Item one) notes = texts_noted profile file (item_texts one) (target_noted profile file one notes)
statement_noted profile file (statement.Definition line) notes =
    texts_noted profile file ((line.definition.line, line.definition.value) ∷ []) (target_noted profile file (item.Definition line.definition) notes)
statement_noted profile file s notes = texts_noted profile file (texts_of s) notes

-- the notes with those on the statements of a file, in their order
abbrev pub statements_noted : Profile → (file : List ℕ) → List Statement → List Note → List Note
statements_noted profile file [] notes = notes
statements_noted profile file (s ∷ more) notes = statements_noted profile file more (statement_noted profile file s notes)

-- the names of a line of `.SUFFIXES`, with a blank behind them
abbrev pub special_suffixes : SpecialName → Rule → List ℕ
special_suffixes Suffixes rule = rule.prerequisites ++ 32 ∷ []
special_suffixes _ rule = []

abbrev pub suffixes_of : Item → List ℕ
suffixes_of (item.Definition d) = []
suffixes_of (item.Rule rule) = []
suffixes_of (item.Special special) = special_suffixes special.name special.rule

-- those of a statement
abbrev pub statement_suffixes : Statement → List ℕ
statement_suffixes (statement.Item one) = suffixes_of one
statement_suffixes s = []

-- the byte of an automatic macro that is one byte and would be empty
abbrev pub automatic_in : Profile → (name : List ℕ) → Option ℕ
automatic_in profile [] = None
automatic_in profile (b ∷ rest) = if is_empty rest && is_automatic profile b then Some b else None

-- what is kept of a name that is defined, if what refers to it would else be empty: the byte of an automatic macro, or a blank for
-- any name that has one
abbrev pub mark_of : Profile → (name : List ℕ) → Option ℕ
mark_of profile name = if list_any is_blank name then Some 32 else automatic_in profile name

abbrev pub kept_mark : Option ℕ → List ℕ
kept_mark None = []
kept_mark (Some mark) = mark ∷ []

abbrev pub marks : Profile → (name : List ℕ) → List ℕ
marks profile name = kept_mark (mark_of profile name)

abbrev pub marks_of : Profile → Item → List ℕ
marks_of profile (item.Definition d) = marks profile d.name
marks_of profile (item.Rule rule) = []
marks_of profile (item.Special special) = []

-- what a statement defines of them
abbrev pub statement_marks : Profile → Statement → List ℕ
statement_marks profile (statement.Item one) = marks_of profile one
statement_marks profile (statement.Definition line) = marks profile line.definition.name
statement_marks profile (statement.Include include) = []
statement_marks profile (statement.Refused refusal) = []

abbrev pub has_mark : (mark : ℕ) → List ℕ → Bool
has_mark mark defined = list_any (λ m. m == mark) defined

-- a note counts once all is read: one on a reference where nothing defines such a name, one on a suffix rule where these lines of
-- `.SUFFIXES` don't name its suffixes
abbrev pub counts : (suffixes defined : List ℕ) → Subject → Bool
counts suffixes defined (subject.Function word) = not (has_mark 32 defined)
counts suffixes defined (subject.Automatic b) = not (has_mark b defined)
counts suffixes defined (subject.SuffixRule name) = not (is_named_by suffixes name)
counts suffixes defined (subject.PlainTarget name) = true
counts suffixes defined (subject.Target name) = true
counts suffixes defined (subject.Leading name prefix) = true
counts suffixes defined (subject.BuiltIn name) = true
counts suffixes defined (subject.Undefined name) = true
