-- A text has one outcome.
use Rattle.std.proofs.Common.{◌≡◌, ℕ, zero, suc, Bool, true, false, cond, ◌&&◌, ◌||◌, bytes_eq, codes, List, [], ◌∷◌, map, refl, inr, inl, sym, ap, subst, ◌∙◌, Option, Some, None, Result, Ok, Err, Vec}
use Rattle.std.specs.declared.alloc.Global.{Global}
use Rattle.std.specs.List.{list_any}
use Rattle.byte_strings.specs.Blanks.{first_word, words}
use Rattle.mk_profile.specs.Profile.{is_wide}
use Rattle.mk_profile.specs.declared.profile.Profile.{Profile}
use Rattle.mk_macros.specs.Expansion as expansion
use Rattle.mk_macros.specs.Expansion.{gives, fails, ExpandsTo}
use Rattle.mk_macros.specs.Ranks.{Ranks, Defined, redefined, with_definition, rule_meanings}
use Rattle.mk_macros.specs.declared.definitions.Rank.TheVariants.{Makefile}
use Rattle.mk_macros.specs.declared.dynamic.Dynamic.TheVariants.{RuleLine}
use Rattle.mk_macros.proofs.OutcomeLemmas.{expands_once}
use Rattle.mk_macros.proofs.SomeOutcomeLemmas.{outcome_some}
use Rattle.mk_reader.specs.Special.{special_name}
use Rattle.mk_lines.specs.Text.{is_dollar}
use Rattle.mk_lines.specs.References.{Without}
use Rattle.mk_reader.specs.Grammar.{refusal}
use Rattle.mk_lines.specs.Quoted.{without_quoted}
use Rattle.mk_reader.specs.Printed.{PlainItem, definition, rule, ArePlain, printed, next, after_recipe, definition_on, recipe_on, items_on}
use Rattle.mk_reader.specs.declared.fault.Cause.TheVariants.{IncludeDepth, Macro}
use Rattle.mk_reader.specs.declared.directive.Directive.TheVariants.{Vpath}
use Rattle.mk_reader.specs.declared.fault.Feature.TheVariants.{GroupedTargets, ShellFlags, SearchPath, RecipePrefix, Directive}
use Rattle.mk_reader.specs.declared.fault.ReadFault.{ReadFault}
use Rattle.mk_reader.specs.declared.item.Definition.{Definition}
use Rattle.mk_reader.specs.declared.item.DefinitionKind.{DefinitionKind}
use Rattle.mk_reader.specs.declared.item.DefinitionKind.TheVariants.{IfUndefined, AtOnce, AtOnceAlone, Output, NoSign}
use Rattle.mk_reader.specs.declared.item.Item.{Item}
use Rattle.mk_reader.specs.declared.item.Item.TheVariants as item
use Rattle.mk_reader.specs.declared.item.Rule.{Rule}
use Rattle.mk_reader.specs.declared.item.IncludeLine.{IncludeLine}
use Rattle.mk_reader.specs.declared.item.Statement.{Statement}
use Rattle.mk_reader.specs.declared.item.Statement.TheVariants as statement
use Rattle.mk_lines.proofs.ReferenceLemmas.{either}
use Rattle.mk_reader.proofs.StatementLemmas as reading
use Rattle.mk_reader.proofs.WordLemmas.{special_is}
use Rattle.mk_reader.proofs.PrintedItemsLemmas.{printed_read}
use Rattle.mk_eval.specs.Static.{DefinesMacro}
use Rattle.mk_eval.specs.Output.{World, with_shell}
use Rattle.mk_eval.specs.Unmade.{outcome_beside}
use Rattle.mk_eval.specs.Judged.{searches, changes_recipes, opens_vpath, refused_among, at_line, with_refusal, judged, all_judged}
use Rattle.mk_eval.specs.PlainRules.{IsPlainText, IsPlainLine, IsPlainRule, IsTakenRule, IsTakenSpecial, IsTakenDefinition, ArePlainRules}
use Rattle.mk_eval.specs.Listed.{listed_text}
use Rattle.mk_eval.specs.Short.{has_other_names}
use Rattle.mk_eval.proofs.ListedLemmas.{text_plain}
use Rattle.mk_wildcards.specs.Pattern.{has_wildcard}
use Rattle.mk_wildcards.specs.Found.{Folders}
use Rattle.mk_reader.specs.declared.item.Special.{Special}
use Rattle.mk_eval.specs.Makefile.{Outcome, GivesItems, InOrder, behind, NamesIn, LineNames, cause_of, NamedItems, fixed_as, FixedItems, run_as, OutputItems, empty_as, KindItems, DefinitionItems, appends_fixed, ItemItems, StatementItems, FileItems, NoneFixed, IsListed as IsListedRule, RuleItems, SpecialItems, named_rule, special_in, with_item, unread_items, AnswerItems, IncludedItems, TextItems}
use Rattle.mk_eval.proofs.BehindLemmas.{IsListed, behind_listed, behind_language, behind_wide, behind_strict}
use Rattle.mk_eval.proofs.MakefileLemmas.{items_passed_on}
use Rattle.mk_eval.proofs.OrderLemmas.{IsOne, order_one, Some_of, order_some}
use Rattle.mk_eval.proofs.RuleLemmas.{names_one, rule_one, rule_some, special_one, special_some}
use Rattle.mk_eval.proofs.ShortLemmas.{first_short}

and_false : (t : Bool) → (t && false) ≡ false
and_false true = refl
and_false false = refl

abbrev Including : Type 1
Including = IncludeLine → Defined → List ℕ → Outcome → Type 0

abbrev AreOne : Including → Type 0
AreOne Included = (include : IncludeLine) (given : Defined) (name : List ℕ) → IsOne (Included include given name)

named_one : (Included : Including) → AreOne Included → (file : List ℕ) (include : IncludeLine) (given : Defined) (names : expansion.Outcome) → IsOne (NamedItems (Included include) file include given names)
named_one Included i file include given (gives names) one other a b = order_one behind (Included include) (i include) given (words names) one other a b
named_one Included i file include given (fails fault) one other a b = a ∙ sym b

fixed_one : (d : Definition) (is_fixed : Bool) (given : Defined) → IsOne (FixedItems d is_fixed given)
fixed_one d is_fixed given one other (text, is, a) (also, was, b) = a ∙ ap (fixed_as d is_fixed) (expands_once (rule_meanings given) is was) ∙ sym b

definition_one : (expanded : Bool) (d : Definition) (given : Defined) → IsOne (DefinitionItems expanded d given)
definition_one false d given one other a b = a ∙ sym b
definition_one true d given one other a b = fixed_one d true given one other a b

item_one : (world : World) (said : Item) (given : Defined) → IsOne (ItemItems world said given)
item_one world (item.Definition d) given one other a b = definition_one (appends_fixed d given) d given one other a b
item_one world (item.Rule lines) given one other a b = rule_one lines world (is_wide given.language) given one other a b
item_one world (item.Special special) given one other a b = special_one world (is_wide given.language) special given one other a b

output_one : (world : World) (d : Definition) (given : Defined) → IsOne (OutputItems world d given)
output_one world d given one other (command, is, a) (also, was, b) = a ∙ ap (run_as world d) (expands_once (rule_meanings given) is was) ∙ sym b

kind_one : (world : World) (kind : DefinitionKind) (d : Definition) (given : Defined) → IsOne (KindItems world kind d given)
kind_one world IfUndefined d given one other a b = a ∙ sym b
kind_one world AtOnce d given one other a b = fixed_one d true given one other a b
kind_one world AtOnceAlone d given one other a b = fixed_one d false given one other a b
kind_one world Output d given one other a b = output_one world d given one other a b
kind_one world NoSign d given one other (text, is, a) (also, was, b) = a ∙ ap (empty_as d) (expands_once (rule_meanings given) is was) ∙ sym b

statement_one : (world : World) (Included : Including) → AreOne Included → (file : List ℕ) (given : Defined) (said : Statement) → IsOne (StatementItems world Included file given said)
statement_one world Included i file given (statement.Item said) one other a b = item_one world said given one other a b
statement_one world Included i file given (statement.Definition line) one other a b = kind_one world line.kind line.definition given one other a b
statement_one world Included i file given (statement.Include include) one other (names, are, a) (also, were, b) =
    named_one Included i file include given also one other
    (subst (λ n. NamedItems (Included include) file include given n one) (names_one given include.names names also are were) a) b
statement_one world Included i file given (statement.Refused fault) one other a b = a ∙ sym b

file_one : (world : World) (Included : Including) → AreOne Included → (given : Defined) (file text : List ℕ) → IsOne (FileItems world Included given file text)
file_one world Included i given file text one other (statements, are, told, a, is) (also, were, said, b, was) =
    let same = reading.text_one given.language file text statements also are were in
    let alike = order_one behind (StatementItems world Included file) (statement_one world Included i file) given (all_judged (is_wide given.language) file also) told said
    (subst (λ s. InOrder behind (StatementItems world Included file) given (all_judged (is_wide given.language) file s) told) same a) b in
    is ∙ ap (λ s. outcome_beside (is_wide given.language) s told) same ∙ ap (outcome_beside (is_wide given.language) also) alike ∙ sym was

module _ (world : World) where
  answer_one : (Included : List ℕ → Including) → ((file : List ℕ) → AreOne (Included file)) → (file : List ℕ) (include : IncludeLine) (given : Defined) (name : List ℕ) (answer : Option (List ℕ)) → IsOne (AnswerItems world Included file include given name answer)
  answer_one Included i file include given name None one other a b = a ∙ sym b
  answer_one Included i file include given name (Some text) one other a b = file_one world (Included name) (i name) given name text one other a b

  included_one : (levels : ℕ) (file : List ℕ) → AreOne (IncludedItems world levels file)
  included_one zero file include given name one other a b = a ∙ sym b
  included_one (suc levels) file include given name one other a b =
      let deeper = IncludedItems world levels in
      answer_one deeper (included_one levels) file include given name (world.files name) one other a b

  pub text_one : (levels : ℕ) (given : Defined) (file text : List ℕ) (one other : Outcome) → TextItems world levels given file text one → TextItems world levels given file text other → one ≡ other
  text_one levels given file text one other a b = file_one world (IncludedItems world levels file) (included_one levels file) given file text one other a b

  -- so what is an outcome of the text is this one
  pub one_given : (levels : ℕ) (given : Defined) (file text : List ℕ) (result : Result (Vec Item Global) ReadFault) (outcome : Outcome) → GivesItems result (TextItems world levels given file text) → TextItems world levels given file text outcome → GivesItems result (λ told. told ≡ outcome)
  one_given levels given file text result outcome told is = items_passed_on result (TextItems world levels given file text) (λ o. o ≡ outcome) told (λ o h. text_one levels given file text o outcome h is)

-- There is an outcome.

abbrev AreSome : Including → Type 0
AreSome Included = (include : IncludeLine) (given : Defined) → IsListed given → (name : List ℕ) → Some_of (Included include given name)

text_expands : (given : Defined) → IsListed given → (text : List ℕ) → (o : expansion.Outcome) × ExpandsTo (rule_meanings given) text o
text_expands given (listed, e) text =
    subst (λ g. (o : expansion.Outcome) × ExpandsTo (rule_meanings g) text o) (sym e) (outcome_some (is_wide listed.language) listed.texts RuleLine text)

names_some : (given : Defined) → IsListed given → (text : List ℕ) → (names : expansion.Outcome) × LineNames given text names
names_some given is text = either_way (list_any is_dollar text)
  where
    either_way : (refers : Bool) → (names : expansion.Outcome) × NamesIn refers given text names
    either_way true = text_expands given is text
    either_way false = (gives text, refl)

named_some : (Included : Including) → AreSome Included → (file : List ℕ) (include : IncludeLine) (given : Defined) → IsListed given → (names : expansion.Outcome) → Some_of (NamedItems (Included include) file include given names)
named_some Included i file include given is (gives names) = order_some behind IsListed behind_listed (Included include) (i include) given is (words names)
named_some Included i file include given is (fails fault) = (Err (refusal file include.line (Macro (cause_of fault))), refl)

fixed_some : (d : Definition) (is_fixed : Bool) (given : Defined) → IsListed given → Some_of (FixedItems d is_fixed given)
fixed_some d is_fixed given is = let text = text_expands given is d.value in (fixed_as d is_fixed text.0, (text.0, text.1, refl))

definition_some : (expanded : Bool) (d : Definition) (given : Defined) → IsListed given → Some_of (DefinitionItems expanded d given)
definition_some false d given is = (_, refl)
definition_some true d given is = fixed_some d true given is

item_some : (world : World) (said : Item) (given : Defined) → IsListed given → Some_of (ItemItems world said given)
item_some world (item.Definition d) given is = definition_some (appends_fixed d given) d given is
item_some world (item.Rule lines) given is = rule_some lines given (text_expands given is) world (is_wide given.language)
item_some world (item.Special special) given is = special_some world (is_wide given.language) special given (text_expands given is)

output_some : (world : World) (d : Definition) (given : Defined) → IsListed given → Some_of (OutputItems world d given)
output_some world d given is = let command = text_expands given is (with_shell d.value) in (run_as world d command.0, (command.0, command.1, refl))

kind_some : (world : World) (kind : DefinitionKind) (d : Definition) (given : Defined) → IsListed given → Some_of (KindItems world kind d given)
kind_some world IfUndefined d given is = (_, refl)
kind_some world AtOnce d given is = fixed_some d true given is
kind_some world AtOnceAlone d given is = fixed_some d false given is
kind_some world Output d given is = output_some world d given is
kind_some world NoSign d given is = let text = text_expands given is d.value in (empty_as d text.0, (text.0, text.1, refl))

statement_some : (world : World) (Included : Including) → AreSome Included → (file : List ℕ) (given : Defined) → IsListed given → (said : Statement) → Some_of (StatementItems world Included file given said)
statement_some world Included i file given is (statement.Item said) = item_some world said given is
statement_some world Included i file given is (statement.Definition line) = kind_some world line.kind line.definition given is
statement_some world Included i file given is (statement.Include include) =
    let names = names_some given is include.names in
    let whole = named_some Included i file include given is names.0 in
    (whole.0, (names.0, names.1, whole.1))
statement_some world Included i file given is (statement.Refused fault) = (Err fault, refl)

file_some : (world : World) (Included : Including) → AreSome Included → (given : Defined) → IsListed given → (file text : List ℕ) → Some_of (FileItems world Included given file text)
file_some world Included i given is file text =
    let statements = reading.text_some given.language file text in
    let whole = order_some behind IsListed behind_listed (StatementItems world Included file) (statement_some world Included i file) given is (all_judged (is_wide given.language) file statements.0) in
    (outcome_beside (is_wide given.language) statements.0 whole.0, (statements.0, statements.1, whole.0, whole.1, refl))

module _ (world : World) where
  answer_some : (Included : List ℕ → Including) → ((file : List ℕ) → AreSome (Included file)) → (file : List ℕ) (include : IncludeLine) (given : Defined) → IsListed given → (name : List ℕ) (answer : Option (List ℕ)) → Some_of (AnswerItems world Included file include given name answer)
  answer_some Included i file include given is name None = (unread_items (is_wide given.language && has_wildcard name) file include name, refl)
  answer_some Included i file include given is name (Some text) = file_some world (Included name) (i name) given is name text

  included_some : (levels : ℕ) (file : List ℕ) → AreSome (IncludedItems world levels file)
  included_some zero file include given is name = (Err (refusal file include.line IncludeDepth), refl)
  included_some (suc levels) file include given is name =
      let deeper = IncludedItems world levels in
      answer_some deeper (included_some levels) file include given is name (world.files name)

  pub text_some : (levels : ℕ) (given : Defined) → IsListed given → (file text : List ℕ) → Some_of (TextItems world levels given file text)
  text_some levels given is file text = file_some world (IncludedItems world levels file) (included_some levels file) given is file text

-- Statements that are items give these.

-- the item fixes no text, and gives itself
abbrev IsLoose : Profile → Item → Type 0
IsLoose language (item.Definition d) = d.is_fixed ≡ false
IsLoose language (item.Rule lines) = IsPlainRule language lines.targets lines.prerequisites × (special_name language (first_word lines.targets) ≡ None)
IsLoose language (item.Special special) = IsPlainLine language special.rule.targets special.rule.prerequisites

loose_item : (given : Defined) (one : Item) → IsLoose given.language one → (name : List ℕ) → (given.ranks name).is_fixed ≡ false → ((with_item given one).ranks name).is_fixed ≡ false
loose_item given (item.Rule lines) loose name h = h
loose_item given (item.Special special) loose name h = h
loose_item given (item.Definition d) loose name h = at (bytes_eq name d.name) refl
  where
    marked : Ranks → Ranks
    marked r = record r { is_fixed = d.is_fixed }

    later : Defined
    later = with_definition given Makefile d.name d.value d.append

    at : (t : Bool) → bytes_eq name d.name ≡ t → ((with_item given (item.Definition d)).ranks name).is_fixed ≡ false
    at true e = ap (λ t. (cond t (marked (later.ranks d.name)) (later.ranks name)).is_fixed) e ∙ loose
    at false e =
        ap (λ t. (cond t (marked (later.ranks d.name)) (later.ranks name)).is_fixed) e
        ∙ ap (λ t. (cond t (redefined given.language (given.ranks d.name) Makefile d.value d.append) (given.ranks name)).is_fixed) e ∙ h

none_behind : (given : Defined) (one : Item) → IsLoose given.language one → NoneFixed given → NoneFixed (behind given (one ∷ []))
none_behind given one loose h =
    either _ (is_wide given.language)
    (λ wide. subst NoneFixed (sym (behind_wide given (one ∷ []) wide))
    (λ name. ap (λ t. is_wide (with_item given one).language && t) (loose_item given one loose name (ap (λ w. w && (given.ranks name).is_fixed) (sym wide) ∙ h name)) ∙ and_false (is_wide (with_item given one).language)))
    (λ strict. subst NoneFixed (sym (behind_strict given (one ∷ []) strict)) h)

targets_stand : (given : Defined) (text : List ℕ) → list_any is_dollar text ≡ false → LineNames given text (gives text)
targets_stand given text none = subst (λ refers. NamesIn refers given text (gives text)) (sym none) refl

-- a text without a wildcard and a `./` stands as it is
text_listed : (folders : Folders) (text : List ℕ) → has_wildcard text ≡ false → has_other_names text ≡ false → listed_text folders text (gives text) ≡ text
text_listed folders text none here = sym (text_plain folders text text (ap (λ t. t || has_wildcard text) here ∙ none))

rule_listed : (world : World) (lines : Rule) (given : Defined) → IsPlainText lines.targets → IsPlainText lines.prerequisites → IsListedRule world lines given (gives lines.targets) lines
rule_listed world lines given targets prerequisites = (
  gives lines.prerequisites,
  targets_stand given lines.prerequisites prerequisites.0,
  λ i. record lines {
    targets = sym (text_listed world.folders lines.targets targets.1 targets.2) i;
    prerequisites = sym (text_listed world.folders lines.prerequisites prerequisites.1 prerequisites.2) i;
  },
)

pub rule_given : (world : World) (wide : Bool) (lines : Rule) (given : Defined) → special_name given.language (first_word lines.targets) ≡ None →
    (wide ≡ true → (DefinesMacro lines.prerequisites → ⊥) × Without 58 58 (without_quoted lines.prerequisites) × IsPlainText lines.targets × IsPlainText lines.prerequisites) →
    RuleItems world wide lines given (Ok (item.Rule lines ∷ []))
rule_given world true lines given none plain =
    let here = plain refl in
    let listed = rule_listed world lines given here.2 here.3 in
    let named : special_in given.language (gives lines.targets) ≡ None = ap (special_name given.language) (first_short lines.targets here.2.2) ∙ none in
    inr (inl (here.0, here.1, (gives lines.targets, targets_stand given lines.targets here.2.0, lines, listed, sym (ap (named_rule given.language lines) named))))
rule_given world false lines given none plain = refl

special_given : (world : World) (wide : Bool) (special : Special) (given : Defined) → (wide ≡ true → IsPlainText special.rule.targets × IsPlainText special.rule.prerequisites) →
    SpecialItems world wide special given (Ok (item.Special special ∷ []))
special_given world true special given plain =
    let here = plain refl in
    (gives special.rule.targets, targets_stand given special.rule.targets here.0.0, special.rule, rule_listed world special.rule given here.0 here.1, refl)
special_given world false special given plain = refl

item_given : (world : World) (Included : Including) (file : List ℕ) (given : Defined) → NoneFixed given → (one : Item) → IsLoose given.language one → StatementItems world Included file given (statement.Item one) (Ok (one ∷ []))
item_given world Included file given h (item.Definition d) loose =
    subst (λ t. DefinitionItems t d given (Ok (item.Definition d ∷ []))) (sym (ap (λ t. d.append && t) (h d.name) ∙ and_false d.append)) refl
item_given world Included file given h (item.Rule lines) loose = rule_given world (is_wide given.language) lines given loose.1 loose.0
item_given world Included file given h (item.Special special) loose = special_given world (is_wide given.language) special given loose

abbrev AreLoose : Profile → List Item → Type 0
AreLoose language [] = Unit {0}
AreLoose language (one ∷ more) = IsLoose language one × AreLoose language more

items_given : (world : World) (Included : Including) (file : List ℕ) (given : Defined) (items : List Item) → AreLoose given.language items → NoneFixed given → InOrder behind (StatementItems world Included file) given (map statement.Item items) (Ok items)
items_given world Included file given [] loose h = refl
items_given world Included file given (one ∷ more) (here, later) h =
    let still = subst (λ language. AreLoose language more) (sym (behind_language given (one ∷ []))) later in
    (Ok (one ∷ []), item_given world Included file given h one here, (Ok more, items_given world Included file (behind given (one ∷ [])) more still (none_behind given one here h), refl))

plain_loose : (language : Profile) (file : List ℕ) (number : ℕ) (items : List PlainItem) → ArePlain language items → ArePlainRules language items →
    AreLoose language (items_on file number items)
plain_loose language file number [] plain rules = tt
plain_loose language file number (definition name append value ∷ more) (is, plain) (taken, rules) = (refl, plain_loose language file (next number) more plain rules)
plain_loose language file number (rule None double targets prerequisites recipe ∷ more) (is, plain) (taken, here, later) =
    ((here, special_is language targets None is.2), plain_loose language file (after_recipe (next number) recipe) more plain later)
plain_loose language file number (rule (Some name) double targets prerequisites recipe ∷ more) (is, plain) rules =
    (rules.1, plain_loose language file (after_recipe (next number) recipe) more plain rules.2)

-- no line of them is refused by name

definition_taken : (language : Profile) (file : List ℕ) (d : Definition) (wide : Bool) → is_wide language ≡ wide → IsTakenDefinition language d.name d.value →
    judged wide file (statement.Item (item.Definition d)) ≡ statement.Item (item.Definition d)
definition_taken language file d false is taken = refl
definition_taken language file d true is taken =
    let here = taken is in
    ap (λ o. with_refusal file (statement.Item (item.Definition d)) (at_line d.line o))
    (ap (λ t. cond t (Some ShellFlags) (cond (bytes_eq d.name (codes "VPATH") && searches d.value) (Some SearchPath) (cond (changes_recipes d.name d.value) (Some RecipePrefix) None))) here.0
    ∙ ap (λ t. cond t (Some SearchPath) (cond (changes_recipes d.name d.value) (Some RecipePrefix) None)) here.1
    ∙ ap (λ t. cond t (Some RecipePrefix) None) here.2)

rule_taken : (language : Profile) (file : List ℕ) (lines : Rule) (wide : Bool) → is_wide language ≡ wide → IsTakenRule language lines.targets →
    judged wide file (statement.Item (item.Rule lines)) ≡ statement.Item (item.Rule lines)
rule_taken language file lines false is taken = refl
rule_taken language file lines true is taken =
    let here = taken is in
    ap (λ o. with_refusal file (statement.Item (item.Rule lines)) (at_line lines.line o))
    (ap (λ t. cond t (Some GroupedTargets) (cond (opens_vpath lines.targets) (Some (Directive Vpath)) (refused_among (words lines.targets)))) here.0
    ∙ ap (λ t. cond t (Some (Directive Vpath)) (refused_among (words lines.targets))) here.1 ∙ here.2)

special_taken : (language : Profile) (file : List ℕ) (special : Special) (wide : Bool) → is_wide language ≡ wide → IsTakenSpecial language special.rule.targets →
    judged wide file (statement.Item (item.Special special)) ≡ statement.Item (item.Special special)
special_taken language file special false is taken = refl
special_taken language file special true is taken = ap (λ o. with_refusal file (statement.Item (item.Special special)) (at_line special.rule.line o)) (taken is)

abbrev rule_on : (file : List ℕ) (number : ℕ) (double : Bool) (targets prerequisites : List ℕ) (recipe : List (List ℕ)) → Rule
rule_on file number double targets prerequisites recipe =
    record { file = file; line = number; is_double = double; targets = targets; prerequisites = prerequisites; recipe = recipe_on (next number) recipe }

both : {x y : Statement} {xs ys : List Statement} → x ≡ y → xs ≡ ys → (x ∷ xs) ≡ (y ∷ ys)
both e es = cc

plain_taken : (language : Profile) (file : List ℕ) (number : ℕ) (items : List PlainItem) → ArePlainRules language items →
    all_judged (is_wide language) file (map statement.Item (items_on file number items)) ≡ map statement.Item (items_on file number items)
plain_taken language file number [] rules = refl
plain_taken language file number (definition name append value ∷ more) (taken, rules) =
    both (definition_taken language file (definition_on file number name append value) (is_wide language) refl taken) (plain_taken language file (next number) more rules)
plain_taken language file number (rule None double targets prerequisites recipe ∷ more) (taken, here, later) =
    both (rule_taken language file (rule_on file number double targets prerequisites recipe) (is_wide language) refl taken) (plain_taken language file (after_recipe (next number) recipe) more later)
plain_taken language file number (rule (Some name) double targets prerequisites recipe ∷ more) rules =
    both (special_taken language file (record { name = name; rule = rule_on file number double targets prerequisites recipe }) (is_wide language) refl rules.0) (plain_taken language file (after_recipe (next number) recipe) more rules.2)

pub printed_given : (world : World) (levels : ℕ) (given : Defined) (file : List ℕ) (items : List PlainItem) → NoneFixed given → ArePlain given.language items → ArePlainRules given.language items → TextItems world levels given file (printed items) (Ok (items_on file 1 items))
printed_given world levels given file items none plain rules = (
  map statement.Item (items_on file 1 items),
  printed_read given.language file items plain,
  Ok (items_on file 1 items),
  subst (λ said. InOrder behind (StatementItems world (IncludedItems world levels file) file) given said (Ok (items_on file 1 items))) (sym (plain_taken given.language file 1 items rules))
      (items_given world (IncludedItems world levels file) file given (items_on file 1 items) (plain_loose given.language file 1 items plain rules) none),
  refl,
)
