-- What is defined for a name, by rank, what is in force, and what a name stands for in a line.
use Rattle.std.specs.Prelude.{ℕ, Bool, true, false, List, [], ◌∷◌, ◌++◌, Option, Some, None, unwrap_or, bytes_eq, if◌then◌else◌}
use Rattle.std.specs.Map.{lookup}
use Rattle.mk_macros.specs.Dynamic.{dynamic_value}
use Rattle.mk_profile.specs.Profile.{is_wide}
use Rattle.mk_profile.specs.declared.profile.Profile.{Profile}
use Rattle.mk_macros.specs.Expansion.{Meaning, Meanings, undefined, dynamic, defined}
use Rattle.mk_macros.specs.declared.definitions.Rank.{Rank}
use Rattle.mk_macros.specs.declared.definitions.Rank.TheVariants.{CommandLine, Makefile, Environment, Tool}
use Rattle.mk_macros.specs.declared.dynamic.Dynamic.{Dynamic}
use Rattle.mk_macros.specs.declared.dynamic.Dynamic.TheVariants.{RuleLine}

-- the text of a name at each rank that has one, and whether the makefile's is fixed: what a line appends to it is then
-- expanded where it stands (POSIX make, `::=`)
pub record Ranks : Type 0 where
  pub command_line : Option (List ℕ)
  pub makefile : Option (List ℕ)
  pub environment : Option (List ℕ)
  pub tool : Option (List ℕ)
  pub is_fixed : Bool

-- nothing is defined
abbrev pub no_ranks : Ranks
no_ranks = record { command_line = None; makefile = None; environment = None; tool = None; is_fixed = false }

-- the first text that there is
abbrev pub or_else : Option (List ℕ) → Option (List ℕ) → Option (List ℕ)
or_else None second = second
or_else (Some text) second = Some text

-- the text that is in force: that of the first rank that has one (POSIX make, "Macros": the command line, the
-- makefile, the environment, the built-in ones)
abbrev pub in_force : Ranks → Option (List ℕ)
in_force r = or_else r.command_line (or_else r.makefile (or_else r.environment r.tool))

-- what is defined once the rank has this text
abbrev pub with_rank : Ranks → Rank → (text : List ℕ) → Ranks
with_rank r CommandLine text = record r { command_line = Some text }
with_rank r Makefile text = record r { makefile = Some text }
with_rank r Environment text = record r { environment = Some text }
with_rank r Tool text = record r { tool = Some text }

-- the tool's own text, where a makefile may append to it: in the wide profile (POSIX make, "Macros": built-in macros are
-- defined before the makefile is read)
abbrev pub tool_base : Profile → Ranks → Option (List ℕ)
tool_base language r = if is_wide language then r.tool else None

-- what an appending definition at this rank adds to: in a makefile also what the environment has, where no makefile
-- defined the name before
abbrev pub base_of : (language : Profile) → Ranks → Rank → Option (List ℕ)
base_of language r CommandLine = r.command_line
base_of language r Makefile = or_else r.makefile (or_else r.environment (tool_base language r))
base_of language r Environment = r.environment
base_of language r Tool = r.tool

-- a text behind another and a space; behind nothing it stands alone
-- (make(1S), appending definitions; that nothing takes no space is our own)
abbrev pub appended : Option (List ℕ) → (text : List ℕ) → List ℕ
appended None text = text
appended (Some []) text = text
appended (Some (b ∷ bs)) text = b ∷ (bs ++ 32 ∷ text)

-- what is defined after one more definition
abbrev pub redefined : (language : Profile) → Ranks → Rank → (text : List ℕ) → (append : Bool) → Ranks
redefined language r rank text false = with_rank r rank text
redefined language r rank text true = with_rank r rank (appended (base_of language r rank) text)

-- what a name with these values stands for
abbrev pub meaning_from : (dynamic_value : Option (List ℕ)) (text : Option (List ℕ)) → Meaning
meaning_from (Some value) text = dynamic value
meaning_from None (Some text) = defined text
meaning_from None None = undefined

-- what is defined for a name
abbrev pub ranks_at : List (List ℕ × Ranks) → (name : List ℕ) → Ranks
ranks_at definitions name = unwrap_or (lookup (bytes_eq name) definitions) no_ranks

-- what each name has once that of one name has changed
abbrev pub with_change : (List ℕ → Ranks) → (name : List ℕ) → (Ranks → Ranks) → List ℕ → Ranks
with_change ranks name change n = if bytes_eq n name then change (ranks name) else ranks n

-- what each name has after one more definition
abbrev pub with_text : (language : Profile) → (List ℕ → Ranks) → Rank → (name text : List ℕ) → (append : Bool) → List ℕ → Ranks
with_text language ranks rank name text append = with_change ranks name (λ r. redefined language r rank text append)

-- what is defined: the language of the texts, and what each name has
pub record Defined : Type 0 where
  pub language : Profile
  pub ranks : (name : List ℕ) → Ranks

-- the same, where the names that have a text are listed, and so are finitely many
pub record Listed : Type 0 where
  pub language : Profile
  pub texts : List (List ℕ × Ranks)

-- nothing is listed
abbrev pub none_listed : Profile → Listed
none_listed profile = record { language = profile; texts = [] }

-- what is defined by a list
abbrev pub defined_by : Listed → Defined
defined_by listed = record { language = listed.language; ranks = ranks_at listed.texts }

-- what is defined after one more definition, in the same language
abbrev pub with_definition : Defined → Rank → (name text : List ℕ) → (append : Bool) → Defined
with_definition before rank name text append = record before { ranks = with_text before.language before.ranks rank name text append }

-- what is defined once the makefile's text of a name is fixed, or isn't
abbrev pub with_mark : Defined → (name : List ℕ) → (is_fixed : Bool) → Defined
with_mark before name is_fixed = record before { ranks = with_change before.ranks name (λ r. record r { is_fixed = is_fixed }) }

-- what a name stands for in a line: dynamic macros hide definitions
abbrev pub meaning_of : (List ℕ → Ranks) → Dynamic → (name : List ℕ) → Meaning
meaning_of ranks line name = meaning_from (dynamic_value line name) (in_force (ranks name))

-- what names stand for in a line
abbrev pub meanings_of : Defined → Dynamic → Meanings
meanings_of given line = record { language = given.language; meaning = meaning_of given.ranks line }

-- what they stand for in a rule line, which has no dynamic macros
abbrev pub rule_meanings : Defined → Meanings
rule_meanings given = meanings_of given RuleLine
