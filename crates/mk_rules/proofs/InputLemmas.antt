-- By the same makefile, looks and entries the inputs are the same.
use Rattle.std.proofs.Common.{◌≡◌, ◌∙◌, ℕ, List, ◌∷◌, Option, Some, None, refl, sym, ap, subst}
use Rattle.byte_strings.specs.Blanks.{words}
use Rattle.mk_macros.specs.Expansion.{gives}
use Rattle.mk_macros.proofs.OutcomeLemmas.{expands_once}
use Rattle.mk_reader.specs.declared.item.Item.{Item}
use Rattle.mk_reader.specs.declared.item.Rule.{Rule}
use Rattle.mk_reader.specs.declared.special.SpecialName.{SpecialName}
use Rattle.mk_reader.specs.declared.special.SpecialName.TheVariants.{Phony}
use Rattle.st_records.specs.declared.record.Entry.{Entry}
use Rattle.mk_macros.specs.Ranks.{Defined, rule_meanings}
use Rattle.mk_profile.specs.declared.profile.Profile.{Profile}
use Rattle.mk_profile.specs.declared.profile.Profile.TheVariants.{Strict, Posix}
use Rattle.mk_makefile.specs.InForce.{AreInForce, AreLinesInForce}
use Rattle.mk_makefile.proofs.InForceLemmas.{left_once}
use Rattle.mk_rule_lines.specs.Lines.{AreWordsOf, targets_text, ArePrerequisites, IsRuleLine, AreRuleLines, no_items, behind_definition, a_rule, a_special}
use Rattle.mk_rule_lines.specs.Rules.{suffixes_of}
use Rattle.mk_rule_lines.specs.declared.rule_line.RuleLine.{RuleLine}
use Rattle.mk_rules.specs.Faults.{AreInputs}
use Rattle.mk_nodes.specs.Prerequisites.{Inputs, seen_looks}
use Rattle.mk_nodes.specs.declared.file_look.FileLook.{FileLook}

words_once : (given : Defined) (text : List ℕ) (ws vs : List (List ℕ)) → AreWordsOf given text ws → AreWordsOf given text vs → ws ≡ vs
words_once given text ws vs of_a of_b =
    let outcomes : gives of_a.expansion ≡ gives of_b.expansion = expands_once (rule_meanings given) of_a.expands of_b.expands in
    let same : of_a.expansion ≡ of_b.expansion = cc in
    of_a.cut ∙ ap words same ∙ sym of_b.cut

prerequisites_once : (given : Defined) (special : Option SpecialName) (rule : Rule) (ws vs : List (List ℕ)) →
    ArePrerequisites given special rule ws → ArePrerequisites given special rule vs → ws ≡ vs
prerequisites_once given None rule ws vs of_a of_b = words_once given rule.prerequisites ws vs of_a of_b
prerequisites_once given (Some Phony) rule ws vs of_a of_b = of_a ∙ sym of_b
prerequisites_once given (Some other) rule ws vs of_a of_b = words_once given rule.prerequisites ws vs of_a of_b

line_once : (given : Defined) (special : Option SpecialName) (rule : Rule) (l m : RuleLine) → IsRuleLine given special rule l → IsRuleLine given special rule m → l ≡ m
line_once given special rule l m of_l of_m =
    let targets : l.targets ≡ m.targets = words_once given (targets_text special rule) l.targets m.targets of_l.targets of_m.targets in
    let prerequisites : l.prerequisites ≡ m.prerequisites
    = prerequisites_once given special rule l.prerequisites m.prerequisites of_l.prerequisites of_m.prerequisites in
    let named : l ≡ record l { file = m.file } = ap (λ f. record l { file = f }) (of_l.file ∙ sym of_m.file) in
    let first : record l { file = m.file } ≡ record l { file = m.file; line = m.line }
    = ap (λ n. record l { file = m.file; line = n }) (of_l.number ∙ sym of_m.number) in
    let read_in : record l { file = m.file; line = m.line } ≡ record l { file = m.file; line = m.line; profile = m.profile }
    = ap (λ p. record l { file = m.file; line = m.line; profile = p }) (of_l.profile ∙ sym of_m.profile) in
    let second : record l { file = m.file; line = m.line; profile = m.profile } ≡ record l { file = m.file; line = m.line; profile = m.profile; special = m.special }
    = ap (λ s. record l { file = m.file; line = m.line; profile = m.profile; special = s }) (of_l.name ∙ sym of_m.name) in
    let third : record l { file = m.file; line = m.line; profile = m.profile; special = m.special } ≡ record l { file = m.file; line = m.line; profile = m.profile; special = m.special; targets = m.targets }
    = ap (λ ts. record l { file = m.file; line = m.line; profile = m.profile; special = m.special; targets = ts }) targets in
    let fourth : record l { file = m.file; line = m.line; profile = m.profile; special = m.special; targets = m.targets }
    ≡ record l { file = m.file; line = m.line; profile = m.profile; special = m.special; targets = m.targets; prerequisites = m.prerequisites }
    = ap (λ ps. record l { file = m.file; line = m.line; profile = m.profile; special = m.special; targets = m.targets; prerequisites = ps }) prerequisites in
    let fifth : record l { file = m.file; line = m.line; profile = m.profile; special = m.special; targets = m.targets; prerequisites = m.prerequisites }
    ≡ record l { file = m.file; line = m.line; profile = m.profile; special = m.special; targets = m.targets; prerequisites = m.prerequisites; recipe = m.recipe }
    = ap (λ r. record l { file = m.file; line = m.line; profile = m.profile; special = m.special; targets = m.targets; prerequisites = m.prerequisites; recipe = r })
    (of_l.recipe ∙ sym of_m.recipe) in
    let sixth : record l { file = m.file; line = m.line; profile = m.profile; special = m.special; targets = m.targets; prerequisites = m.prerequisites; recipe = m.recipe } ≡ m
    = ap (λ d. record l { file = m.file; line = m.line; profile = m.profile; special = m.special; targets = m.targets; prerequisites = m.prerequisites; recipe = m.recipe; is_double = d })
    (of_l.double ∙ sym of_m.double) in
    named ∙ first ∙ read_in ∙ second ∙ third ∙ fourth ∙ fifth ∙ sixth

lines_once : (given : Defined) (items : List Item) (a b : List RuleLine) → AreRuleLines given items a → AreRuleLines given items b → a ≡ b
lines_once given _ _ _ no_items no_items = refl
lines_once given _ _ _ (behind_definition of_a) (behind_definition of_b) = lines_once _ _ _ _ of_a of_b
lines_once given _ _ _ (a_rule {rule = rule} {l = l} {lines = ls} of_l of_a) (a_rule {l = m} {lines = ms} of_m of_b) =
    ap (λ x. x ∷ ls) (line_once given None rule l m of_l of_m) ∙ ap (λ xs. m ∷ xs) (lines_once given _ ls ms of_a of_b)
lines_once given _ _ _ (a_special {name = name} {rule = rule} {l = l} {lines = ls} of_l of_a) (a_special {l = m} {lines = ms} of_m of_b) =
    ap (λ x. x ∷ ls) (line_once given (Some name) rule l m of_l of_m) ∙ ap (λ xs. m ∷ xs) (lines_once given _ ls ms of_a of_b)

in_force_once : (profile : Profile) (lines a b : List RuleLine) → AreInForce profile lines a → AreInForce profile lines b → a ≡ b
in_force_once Strict lines a b of_a of_b = of_a ∙ sym of_b
in_force_once Posix lines a b of_a of_b = left_once (suffixes_of lines) lines a b of_a of_b

all_once : (given : Defined) (items : List Item) (a b : List RuleLine) → AreLinesInForce given items a → AreLinesInForce given items b → a ≡ b
all_once given items a b of_a of_b =
    let same : of_a.lines ≡ of_b.lines = lines_once given items of_a.lines of_b.lines of_a.are of_b.are in
    in_force_once given.language of_b.lines a b (subst (λ ls. AreInForce given.language ls a) same of_a.in_force) of_b.in_force

pub inputs_once : (given : Defined) (items : List Item) (looks : List ℕ → Option FileLook) (entries : List ℕ → Option Entry) (a b : Inputs) →
    AreInputs given items looks entries a → AreInputs given items looks entries b → a ≡ b
inputs_once given items looks entries a b of_a of_b =
    let same : a.lines ≡ b.lines = all_once given items a.lines b.lines of_a.lines of_b.lines in
    let first : a ≡ record a { lines = b.lines } = ap (λ ls. record a { lines = ls }) same in
    let second : record a { lines = b.lines } ≡ record a { lines = b.lines; looks = b.looks }
    = ap (λ t. record a { lines = b.lines; looks = t }) (of_a.looks_are ∙ ap (λ ls. seen_looks ls looks) same ∙ sym of_b.looks_are) in
    let third : record a { lines = b.lines; looks = b.looks } ≡ b
    = ap (λ e. record a { lines = b.lines; looks = b.looks; entries = e }) (of_a.entries_are ∙ sym of_b.entries_are) in
    first ∙ second ∙ third
