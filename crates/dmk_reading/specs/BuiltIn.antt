-- The rules that are built in, and whether they are read.
use Rattle.std.specs.Prelude.{◌⊎◌, ℕ, Bool, not, ◌&&◌, List, [], ◌∷◌, ◌++◌, map, filter, flat_map, codes, Contains}
use Rattle.std.specs.Bool.{Decides}
use Rattle.std.specs.Borrow.{Bor}
use Rattle.mk_profile.specs.declared.profile.Profile.{Profile}
use Rattle.mk_profile.specs.Profile.{is_wide}
use Rattle.mk_macros.specs.Ranks.{Defined}
use Rattle.mk_eval.specs.Output.{World}
use Rattle.mk_eval.specs.Makefile.{Outcome, TextItems, depth}
use Rattle.mk_reader.specs.BuiltIn.{built_in_name}
use Rattle.mk_reader.specs.declared.item.Item.{Item}
use Rattle.mk_reader.specs.declared.item.Item.TheVariants as item
use Rattle.mk_reader.specs.declared.item.Rule.{Rule}
use Rattle.mk_rule_lines.specs.Lines.{AreWordsOf, behind}
use Rattle.dmk_reading.specs.declared.built_in.TheConstants.{RULES}
use Rattle.dmk_reading.specs.declared.makefiles.Makefiles.{Makefiles}

-- the tool's rules are read in the wide profile, unless they are left out (make(1S) and POSIX make, -r)
abbrev pub reads_rules : Makefiles → Profile → Bool
reads_rules makefiles profile = is_wide profile && not makefiles.without_rules

-- a rule line has the name among its targets, expanded with the definitions above it (make(1S), "Macros")
pub record Names (given : Defined) (rule : Rule) (name : List ℕ) : Type 0 where
  pub targets : List (List ℕ)
  pub are : AreWordsOf given rule.targets targets
  pub among : Contains targets name

-- the makefile has a rule of its own for this name
abbrev pub HasOwn : Defined → List Item → (name : List ℕ) → Type 0
HasOwn given [] name = ⊥
HasOwn given (item.Definition d ∷ items) name = HasOwn (behind given d) items name
HasOwn given (item.Rule rule ∷ items) name = Names given rule name ⊎ HasOwn given items name
HasOwn given (item.Special special ∷ items) name = HasOwn given items name

-- for each name it is told whether the makefile has a rule of its own
abbrev pub TellsOwn : Defined → List Item → (own : (name : List ℕ) → Bool) → Type 0
TellsOwn given items own = (name : List ℕ) → Decides (own name) (HasOwn given items name)

-- the suffixes (POSIX make, "Default Rules"; those behind .sh: GNU make)
abbrev pub suffixes_line : List ℕ
suffixes_line = codes ".SUFFIXES: .o .c .y .l .a .sh .cc .cpp .cxx .C .S" ++ 10 ∷ []

-- the names and recipes of these rules
abbrev pub texts : List (Bor (List ℕ) × Bor (List ℕ)) → List (List ℕ × List ℕ)
texts rules = map (λ rule. (rule.0.now, rule.1.now)) rules

-- the rules, each with the lines of its recipe
abbrev pub rules : List (List ℕ × List ℕ)
rules = map (λ rule. (rule.0.now, rule.1.now)) RULES

-- those for whose names the makefile has none
abbrev pub standing : (own : (name : List ℕ) → Bool) → List (List ℕ × List ℕ)
standing own = filter (λ rule. not (own rule.0)) rules

-- a rule's lines
abbrev pub rule_lines : (name recipe : List ℕ) → List ℕ
rule_lines name recipe = name ++ (58 ∷ 10 ∷ recipe)

-- what is read of these rules: the suffixes, and the lines of each (the rules: POSIX make, "Default Rules", with `-o $@`, CPPFLAGS and
-- LDLIBS as GNU make has them)
abbrev pub rules_text : List (List ℕ × List ℕ) → List ℕ
rules_text standing = suffixes_line ++ flat_map (λ rule. rule_lines rule.0 rule.1) standing

-- what the tool's rules give in front of the makefile's items
abbrev pub AreRules : (world : World) → Defined → (items : List Item) → Outcome → Type 0
AreRules world given items outcome =
    (own : (name : List ℕ) → Bool) × TellsOwn given items own × TextItems world depth given built_in_name (rules_text (standing own)) outcome
