-- The items of a text, or its first fault in the order of reading; included files are read in place.
use Rattle.std.specs.Prelude.{◌≡◌, ℕ, zero, suc, Bool, true, false, ◌&&◌, ◌⊎◌, List, [], ◌∷◌, ◌++◌, Option, Some, None, is_some, Result, Ok, Err, Vec, if◌then◌else◌}
use Rattle.std.specs.declared.alloc.Global.{Global}
use Rattle.std.specs.List.{list_any, list_all}
use Rattle.byte_strings.specs.Blanks.{is_blank, first_word, words}
use Rattle.mk_profile.specs.Profile.{is_wide}
use Rattle.mk_profile.specs.declared.profile.Profile.{Profile}
use Rattle.mk_short_names.specs.Short.{short_name}
use Rattle.mk_macros.specs.Expansion as expansion
use Rattle.mk_macros.specs.Expansion.{gives, fails, ExpandsTo}
use Rattle.mk_macros.specs.Ranks.{Defined, in_force, with_definition, with_mark, rule_meanings}
use Rattle.mk_macros.specs.declared.definitions.Rank.TheVariants.{Makefile}
use Rattle.mk_macros.specs.declared.fault.MacroFault.{MacroFault}
use Rattle.mk_macros.specs.declared.fault.MacroFault.TheVariants as macro_fault
use Rattle.mk_lines.specs.Text.{is_dollar, is_text}
use Rattle.mk_lines.specs.References.{Without}
use Rattle.mk_lines.specs.Quoted.{IsColonCut, without_quoted}
use Rattle.mk_reader.specs.Grammar.{refusal}
use Rattle.mk_reader.specs.Special.{special_name, is_refused}
use Rattle.mk_reader.specs.declared.special.SpecialName.{SpecialName}
use Rattle.mk_reader.specs.Statements.{AreStatements}
use Rattle.mk_reader.specs.declared.item.Definition.{Definition}
use Rattle.mk_reader.specs.declared.item.DefinitionKind.{DefinitionKind}
use Rattle.mk_reader.specs.declared.item.DefinitionKind.TheVariants.{IfUndefined, AtOnce, AtOnceAlone, Output, NoSign}
use Rattle.mk_reader.specs.declared.item.Item.{Item}
use Rattle.mk_reader.specs.declared.item.Item.TheVariants as item
use Rattle.mk_reader.specs.declared.item.IncludeLine.{IncludeLine}
use Rattle.mk_reader.specs.declared.item.Statement.{Statement}
use Rattle.mk_reader.specs.declared.item.Statement.TheVariants as statement
use Rattle.mk_reader.specs.declared.item.Rule.{Rule}
use Rattle.mk_reader.specs.declared.fault.Cause.{Cause}
use Rattle.mk_reader.specs.declared.fault.Cause.TheVariants.{NotText, MissingSeparator, IncludeDepth, IncludeMissing, Macro, Static, Unsupported}
use Rattle.mk_reader.specs.declared.fault.Feature.TheVariants.{TargetMacro, IncludeWildcard, SpecialName as SpecialRule}
use Rattle.mk_reader.specs.declared.fault.StaticCause.TheVariants.{NoPattern, ManyPatterns, Mismatch}
use Rattle.mk_reader.specs.declared.fault.MacroCause.{MacroCause}
use Rattle.mk_reader.specs.declared.fault.MacroCause.TheVariants as macro_cause
use Rattle.mk_reader.specs.declared.fault.Refusal.{Refusal}
use Rattle.mk_reader.specs.declared.fault.ReadFault.{ReadFault}
use Rattle.mk_reader.specs.declared.fault.ReadFault.TheVariants.{OutOfMemory, Refused}
use Rattle.mk_wildcards.specs.Pattern.{has_wildcard}
use Rattle.mk_eval.specs.Output.{World, output_text, with_shell}
use Rattle.mk_reader.specs.declared.item.Special.{Special}
use Rattle.mk_eval.specs.Judged.{all_judged}
use Rattle.mk_eval.specs.Listed.{listed, listed_text, listed_rule}
use Rattle.mk_eval.specs.Short.{renamed}
use Rattle.mk_eval.specs.Static.{doubled, DefinesMacro, with_stem, pattern_fault, rule_for}
use Rattle.mk_eval.specs.Unmade.{outcome_beside}

-- the items of a text, or its first fault
abbrev pub Outcome : Type 0
Outcome = Result (List Item) Refusal

-- what a function returned is an outcome of this kind, unless memory ran out
abbrev pub GivesItems : Result (Vec Item Global) ReadFault → (Outcome → Type 0) → Type 0
GivesItems (Ok v) Is = Is (Ok v.items)
GivesItems (Err OutOfMemory) Is = Unit {0}
GivesItems (Err (Refused r)) Is = Is (Err r)

-- the same of one item
abbrev pub GivesItem : Result Item ReadFault → (Outcome → Type 0) → Type 0
GivesItem (Ok one) Is = Is (Ok (one ∷ []))
GivesItem (Err OutOfMemory) Is = Unit {0}
GivesItem (Err (Refused r)) Is = Is (Err r)

-- items, and then what the rest gives: its items, or its fault
abbrev pub with_front : List Item → Outcome → Outcome
with_front front (Ok items) = Ok (front ++ items)
with_front front (Err fault) = Err fault

-- a fault ends the reading; behind items comes what Rest allows, in the world that they leave
abbrev pub Then : {W : Type 0} → (W → List Item → W) → W → Outcome → (W → Outcome → Type 0) → Outcome → Type 0
Then after world (Err fault) Rest outcome = outcome ≡ Err fault
Then after world (Ok front) Rest outcome = (rest : Outcome) × Rest (after world front) rest × (outcome ≡ with_front front rest)

-- what things give, one behind the other, each in the world that the items before it leave; One says it of each
abbrev pub InOrder : {W A : Type 0} → (W → List Item → W) → (W → A → Outcome → Type 0) → W → List A → Outcome → Type 0
InOrder after One world [] outcome = outcome ≡ Ok []
InOrder after One world (thing ∷ more) outcome =
    (front : Outcome) × One world thing front × Then after world front (λ now. InOrder after One now more) outcome

-- what is defined behind an item, and behind items
abbrev pub with_item : Defined → Item → Defined
with_item given (item.Definition d) = with_mark (with_definition given Makefile d.name d.value d.append) d.name d.is_fixed
with_item given (item.Rule rule) = given
with_item given (item.Special special) = given

abbrev pub with_items : Defined → List Item → Defined
with_items given [] = given
with_items given (one ∷ more) = with_items (with_item given one) more

-- what counts of it for the lines that are read next: nothing in the strict profile, which has no references in them
abbrev pub behind : Defined → List Item → Defined
behind given items = if is_wide given.language then with_items given items else given

-- the names on an include line, and the targets of a rule line: without a reference they stand there, with one its text is expanded with what is defined above
-- the line
abbrev pub NamesIn : (refers : Bool) → Defined → (text : List ℕ) → expansion.Outcome → Type 0
NamesIn false given text names = names ≡ gives text
NamesIn true given text names = ExpandsTo (rule_meanings given) text names

abbrev pub LineNames : Defined → (text : List ℕ) → expansion.Outcome → Type 0
LineNames given text names = NamesIn (list_any is_dollar text) given text names

-- how the fault of an expansion is told
abbrev pub cause_of : expansion.Fault → MacroCause
cause_of (expansion.refers_to_itself name) = macro_cause.Loop name
cause_of expansion.not_closed = macro_cause.Unclosed
cause_of expansion.dollar_in_brackets = macro_cause.NestedReference
cause_of expansion.too_long = macro_cause.TooLong
cause_of (expansion.calls_function word) = macro_cause.Function word

-- what an include line of the file gives that has these names, or whose text has a fault; Included says it of a name
abbrev pub NamedItems : (Defined → List ℕ → Outcome → Type 0) → (file : List ℕ) → IncludeLine → Defined → expansion.Outcome → Outcome → Type 0
NamedItems Included file include given (gives names) outcome = InOrder behind Included given (words names) outcome
NamedItems Included file include given (fails fault) outcome = outcome ≡ Err (refusal file include.line (Macro (cause_of fault)))

-- the definition with the text that its own came to, which is not expanded again, or the fault
abbrev pub fixed_as : Definition → (is_fixed : Bool) → expansion.Outcome → Outcome
fixed_as d is_fixed (gives text) = Ok (item.Definition (record d { value = doubled text; is_fixed = is_fixed }) ∷ [])
fixed_as d is_fixed (fails fault) = Err (refusal d.file d.line (Macro (cause_of fault)))

-- what a definition gives whose text is expanded with what is defined above it
abbrev pub FixedItems : Definition → (is_fixed : Bool) → Defined → Outcome → Type 0
FixedItems d is_fixed given outcome = (text : expansion.Outcome) × ExpandsTo (rule_meanings given) d.value text × (outcome ≡ fixed_as d is_fixed text)

-- the definition with what its command wrote, which is expanded where it is used; what is no text is refused (own)
abbrev pub written_as : Definition → (output : List ℕ) → Outcome
written_as d output =
    if is_text output then Ok (item.Definition (record d { value = output_text output; is_fixed = false }) ∷ []) else Err (refusal d.file d.line NotText)

-- the same by the command that its text came to, or the fault
abbrev pub run_as : World → Definition → expansion.Outcome → Outcome
run_as world d (gives command) = written_as d (world.outputs d.file d.line command)
run_as world d (fails fault) = Err (refusal d.file d.line (Macro (cause_of fault)))

-- what a definition gives whose text is a command, which is expanded with what is defined above it, and behind the shell that is (POSIX
-- make, "Macros": SHELL)
abbrev pub OutputItems : World → Definition → Defined → Outcome → Type 0
OutputItems world d given outcome = (command : expansion.Outcome) × ExpandsTo (rule_meanings given) (with_shell d.value) command × (outcome ≡ run_as world d command)

-- what a line without a sign gives that came to this text: nothing, where it came to no more than blanks (GNU make, "Parsing Makefiles"); all
-- else is refused (own: GNU make reads it as a rule line)
abbrev pub empty_as : Definition → expansion.Outcome → Outcome
empty_as d (gives text) = if list_all is_blank text then Ok [] else Err (refusal d.file d.line MissingSeparator)
empty_as d (fails fault) = Err (refusal d.file d.line (Macro (cause_of fault)))

-- the same of a line whose text is expanded with what is defined above it
abbrev pub NothingItems : Definition → Defined → Outcome → Type 0
NothingItems d given outcome = (text : expansion.Outcome) × ExpandsTo (rule_meanings given) d.value text × (outcome ≡ empty_as d text)

-- what a definition gives that counts by what stands above it (POSIX make, "Macros"): `?=` gives it where its name has no text at
-- any rank; `::=` and `:=` with its text expanded, as are texts that are appended to it; `:::=` with its text expanded alone; `!=` with
-- what its command writes
abbrev pub KindItems : World → DefinitionKind → Definition → Defined → Outcome → Type 0
KindItems world IfUndefined d given outcome = outcome ≡ Ok (if is_some (in_force (given.ranks d.name)) then [] else item.Definition d ∷ [])
KindItems world AtOnce d given outcome = FixedItems d true given outcome
KindItems world AtOnceAlone d given outcome = FixedItems d false given outcome
KindItems world Output d given outcome = OutputItems world d given outcome
KindItems world NoSign d given outcome = NothingItems d given outcome

-- what is appended to a fixed text is expanded where it stands (POSIX make, `+=`)
abbrev pub DefinitionItems : (expanded : Bool) → Definition → Defined → Outcome → Type 0
DefinitionItems false d given outcome = outcome ≡ Ok (item.Definition d ∷ [])
DefinitionItems true d given outcome = FixedItems d true given outcome

-- the definition appends to a fixed text, which the wide profile alone has
abbrev pub appends_fixed : Definition → Defined → Bool
appends_fixed d given = d.append && (is_wide given.language && (given.ranks d.name).is_fixed)

-- no name's text is fixed, as it is before a makefile is read
abbrev pub NoneFixed : Defined → Type 0
NoneFixed given = (name : List ℕ) → (is_wide given.language && (given.ranks name).is_fixed) ≡ false

-- Rules

-- the rule's line is refused
abbrev pub refused_rule : Rule → Cause → Outcome
refused_rule rule why = Err (refusal rule.file rule.line why)

-- what a static pattern rule gives for one target: a rule of its own where the target is the pattern with a stem
abbrev pub TargetItems : Rule → (pattern : List ℕ) (prerequisites : List (List ℕ)) → (target : List ℕ) → Outcome → Type 0
TargetItems rule pattern prerequisites target outcome =
    ((stem : List ℕ) × (target ≡ with_stem stem pattern) × (outcome ≡ Ok (item.Rule (rule_for rule target stem prerequisites) ∷ [])))
    ⊎ (((stem : List ℕ) → target ≡ with_stem stem pattern → ⊥) × (outcome ≡ refused_rule rule (Static (Mismatch target))))

-- rules define nothing
abbrev pub unmoved : Unit {0} → List Item → Unit {0}
unmoved world items = world

-- what it gives for its targets, in their order
abbrev pub EachTarget : Rule → (pattern : List ℕ) (prerequisites targets : List (List ℕ)) → Outcome → Type 0
EachTarget rule pattern prerequisites targets outcome = InOrder unmoved (λ _. TargetItems rule pattern prerequisites) tt targets outcome

abbrev pub JudgedItems : Option Cause → Rule → (pattern : List ℕ) (prerequisites targets : List (List ℕ)) → Outcome → Type 0
JudgedItems (Some why) rule pattern prerequisites targets outcome = outcome ≡ refused_rule rule why
JudgedItems None rule pattern prerequisites targets outcome = EachTarget rule pattern prerequisites targets outcome

-- it has one target pattern
abbrev pub PatternItems : Rule → (targets patterns prerequisites : List (List ℕ)) → Outcome → Type 0
PatternItems rule targets [] prerequisites outcome = outcome ≡ refused_rule rule (Static NoPattern)
PatternItems rule targets (pattern ∷ []) prerequisites outcome = JudgedItems (pattern_fault targets pattern prerequisites) rule pattern prerequisites targets outcome
PatternItems rule targets (one ∷ other ∷ more) prerequisites outcome = outcome ≡ refused_rule rule (Static ManyPatterns)

-- a fault of an expansion is told with the rule's line; behind a text comes what Rest allows
abbrev pub Behind : Rule → expansion.Outcome → (List ℕ → Outcome → Type 0) → Outcome → Type 0
Behind rule (gives text) Rest outcome = Rest text outcome
Behind rule (fails fault) Rest outcome = outcome ≡ refused_rule rule (Macro (cause_of fault))

-- a text of the rule's line is expanded with what is defined above it
abbrev pub WithText : Rule → Defined → (text : List ℕ) → (List ℕ → Outcome → Type 0) → Outcome → Type 0
WithText rule given text Rest outcome = (told : expansion.Outcome) × ExpandsTo (rule_meanings given) text told × Behind rule told Rest outcome

-- what a static pattern rule gives whose second `:` stands between these texts. Wildcards give way to names in its targets and in its
-- prerequisite patterns before they have a stem, and not in the target pattern; names lose a `./` in front in all of them (GNU make)
abbrev pub StaticItems : World → Rule → (left right : List ℕ) → Defined → Outcome → Type 0
StaticItems world rule left right given outcome =
    WithText rule given rule.targets (λ targets. WithText rule given left (λ patterns. WithText rule given right (λ prerequisites.
    PatternItems rule (words (listed world.folders targets)) (words (renamed patterns)) (words (listed world.folders prerequisites))))) outcome

-- the special name that stands first among the targets of a rule line, which came to this, a `./` in front of it dropped (GNU make); targets
-- without an expansion name none, which is told with the line
abbrev pub special_in : Profile → expansion.Outcome → Option SpecialName
special_in profile (gives text) = special_name profile (short_name (first_word text))
special_in profile (fails fault) = None

-- what a rule gives that names this one
abbrev pub named_rule : Profile → Rule → Option SpecialName → Outcome
named_rule profile rule None = Ok (item.Rule rule ∷ [])
named_rule profile rule (Some name) =
    if is_refused profile name then refused_rule rule (Unsupported (SpecialRule name)) else Ok (item.Special (record { name = name; rule = rule }) ∷ [])

-- the rule with names in the place of wildcards, which are looked for in what its texts come to with what is defined above the line
abbrev pub IsListed : World → Rule → Defined → (targets : expansion.Outcome) → Rule → Type 0
IsListed world rule given targets found =
    (prerequisites : expansion.Outcome) × LineNames given rule.prerequisites prerequisites × (found ≡ listed_rule world.folders rule targets prerequisites)

-- what a rule gives that is no static pattern rule: itself with names in the place of wildcards, or so a special rule, told by what its
-- targets come to with what is defined above the line (own: POSIX make has macros in targets, and special targets by name)
abbrev pub PlainItems : World → Rule → Defined → Outcome → Type 0
PlainItems world rule given outcome =
    (targets : expansion.Outcome) × LineNames given rule.targets targets
    × (found : Rule) × IsListed world rule given targets found
    × (outcome ≡ named_rule given.language found (special_in given.language targets))

-- what a rule of the wide profile gives: what a plain rule gives, or what a static pattern rule gives. The second `:` is one that stands in the
-- makefile outside references (own: GNU make sees also one that comes out of a macro)
abbrev pub WideRuleItems : World → Rule → Defined → Outcome → Type 0
WideRuleItems world rule given outcome =
    (DefinesMacro rule.prerequisites × (outcome ≡ refused_rule rule (Unsupported TargetMacro)))
    ⊎ (((DefinesMacro rule.prerequisites → ⊥) × Without 58 58 (without_quoted rule.prerequisites) × PlainItems world rule given outcome)
    ⊎ ((DefinesMacro rule.prerequisites → ⊥) × (left : List ℕ) × (right : List ℕ) × IsColonCut rule.prerequisites left right × StaticItems world rule left right given outcome))

abbrev pub RuleItems : World → (wide : Bool) → Rule → Defined → Outcome → Type 0
RuleItems world true rule given outcome = WideRuleItems world rule given outcome
RuleItems world false rule given outcome = outcome ≡ Ok (item.Rule rule ∷ [])

-- what a special rule gives whose name stands in the makefile: itself, in the wide profile with names in the place of wildcards
abbrev pub SpecialItems : World → (wide : Bool) → Special → Defined → Outcome → Type 0
SpecialItems world true special given outcome =
    (targets : expansion.Outcome) × LineNames given special.rule.targets targets
    × (found : Rule) × IsListed world special.rule given targets found
    × (outcome ≡ Ok (item.Special (record special { rule = found }) ∷ []))
SpecialItems world false special given outcome = outcome ≡ Ok (item.Special special ∷ [])

-- what an item gives
abbrev pub ItemItems : World → Item → Defined → Outcome → Type 0
ItemItems world (item.Definition d) given outcome = DefinitionItems (appends_fixed d given) d given outcome
ItemItems world (item.Rule rule) given outcome = RuleItems world (is_wide given.language) rule given outcome
ItemItems world (item.Special special) given outcome = SpecialItems world (is_wide given.language) special given outcome

-- what a statement of the file gives; Included says it of a name on an include line
abbrev pub StatementItems : World → (IncludeLine → Defined → List ℕ → Outcome → Type 0) → (file : List ℕ) → Defined → Statement → Outcome → Type 0
StatementItems world Included file given (statement.Item one) outcome = ItemItems world one given outcome
StatementItems world Included file given (statement.Definition line) outcome = KindItems world line.kind line.definition given outcome
StatementItems world Included file given (statement.Include include) outcome =
    (names : expansion.Outcome) × LineNames given include.names names × NamedItems (Included include) file include given names outcome
StatementItems world Included file given (statement.Refused refused) outcome = outcome ≡ Err refused

-- what the text of a file gives, read under this name, where the wide profile refuses some statements by name; the fault of a missing
-- file is told beside the statements of the text
abbrev pub FileItems : World → (IncludeLine → Defined → List ℕ → Outcome → Type 0) → Defined → (file text : List ℕ) → Outcome → Type 0
FileItems world Included given file text outcome =
    (statements : List Statement) × AreStatements given.language file text statements
    × (told : Outcome) × InOrder behind (StatementItems world Included file) given (all_judged (is_wide given.language) file statements) told
    × (outcome ≡ outcome_beside (is_wide given.language) statements told)

-- what a file gives that can't be read: nothing, where the line says that it may be missing
abbrev pub missing_items : (required : Bool) → Refusal → Outcome
missing_items true fault = Err fault
missing_items false fault = Ok []

-- so in the wide profile where the name may stand for others, which aren't looked for: it is refused (own: GNU make reads the files that fit)
abbrev pub unread_items : (is_pattern : Bool) → (file : List ℕ) → IncludeLine → (name : List ℕ) → Outcome
unread_items true file include name = Err (refusal file include.line (Unsupported IncludeWildcard))
unread_items false file include name = missing_items include.is_required (refusal file include.line (IncludeMissing name))

-- what a file gives that an include line of another one names, and that has this content, or can't be read; Included says
-- it of the names in it
abbrev pub AnswerItems : World → (List ℕ → IncludeLine → Defined → List ℕ → Outcome → Type 0) → List ℕ → IncludeLine → Defined → List ℕ → Option (List ℕ) → Outcome → Type 0
AnswerItems world Included file include given name None outcome = outcome ≡ unread_items (is_wide given.language && has_wildcard name) file include name
AnswerItems world Included file include given name (Some text) outcome = FileItems world (Included name) given name text outcome

-- what an include line gives for a name, where so many more levels are allowed
abbrev pub IncludedItems : World → ℕ → List ℕ → IncludeLine → Defined → List ℕ → Outcome → Type 0
IncludedItems world zero file include given name outcome = outcome ≡ Err (refusal file include.line IncludeDepth)
IncludedItems world (suc levels) file include given name outcome =
    AnswerItems world (IncludedItems world levels) file include given name (world.files name) outcome

-- what a text gives, read under this file name with these definitions above it, where so many levels of includes are
-- allowed
abbrev pub TextItems : World → ℕ → Defined → List ℕ → List ℕ → Outcome → Type 0
TextItems world levels given file text outcome = FileItems world (IncludedItems world levels file) given file text outcome

-- how deep includes may be nested (own)
abbrev pub depth : ℕ
depth = 16

-- What functions tell of an include line's text.

-- the fault that the macros tell, unless memory ran out
abbrev pub fault_told : MacroFault → Option expansion.Fault
fault_told macro_fault.OutOfMemory = None
fault_told (macro_fault.Loop name) = Some (expansion.refers_to_itself name)
fault_told macro_fault.Unclosed = Some expansion.not_closed
fault_told macro_fault.NestedReference = Some expansion.dollar_in_brackets
fault_told macro_fault.TooLong = Some expansion.too_long
fault_told (macro_fault.Function word) = Some (expansion.calls_function word)

-- the fault of an include line's text; want of memory says nothing of it
abbrev pub IsNamesFault : Defined → (file : List ℕ) → IncludeLine → ReadFault → Type 0
IsNamesFault given file include OutOfMemory = Unit {0}
IsNamesFault given file include (Refused refused) =
    (fault : expansion.Fault) × LineNames given include.names (fails fault) × (refused ≡ refusal file include.line (Macro (cause_of fault)))

-- the fault of a definition's command
abbrev pub IsCommandFault : Defined → Definition → ReadFault → Type 0
IsCommandFault given d OutOfMemory = Unit {0}
IsCommandFault given d (Refused refused) =
    (fault : expansion.Fault) × ExpandsTo (rule_meanings given) (with_shell d.value) (fails fault) × (refused ≡ refusal d.file d.line (Macro (cause_of fault)))

-- the fault of a text of a rule's line
abbrev pub IsTextFault : Defined → Rule → (text : List ℕ) → ReadFault → Type 0
IsTextFault given rule text OutOfMemory = Unit {0}
IsTextFault given rule text (Refused refused) =
    (fault : expansion.Fault) × ExpandsTo (rule_meanings given) text (fails fault) × (refused ≡ refusal rule.file rule.line (Macro (cause_of fault)))

-- what is told of a text: what it came to, or that it has a fault
abbrev pub IsTold : Option (Vec ℕ Global) → expansion.Outcome → Type 0
IsTold (Some v) names = names ≡ gives v.items
IsTold None names = (fault : expansion.Fault) × (names ≡ fails fault)

-- a text of a rule line, with names in the place of wildcards
abbrev pub IsListedText : World → (text : List ℕ) → Defined → (found : List ℕ) → Type 0
IsListedText world text given found =
    (told : expansion.Outcome) × LineNames given text told × (found ≡ listed_text world.folders text told)
