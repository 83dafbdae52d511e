-- What a logical line says that is no recipe's (GNU make manual, "What Makefiles Contain", "Including Other Makefiles", "The vpath Directive" and
-- "The load Directive"; GNU make 4.3, by whose order a line is told).
use Rattle.std.specs.Prelude.{ℕ, Bool, true, false, ◌||◌, List, [], ◌∷◌, Option, Some, None, codes, bytes_eq, option_copied, if◌then◌else◌}
use Rattle.byte_strings.specs.Blanks.{is_nonempty, trimmed_start}
use Rattle.mk_conditionals.specs.Cut.{front_word, behind_word}
use Rattle.mk_conditionals.specs.Spelled as conditionals
use Rattle.mk_assignments.specs.Line as variables
use Rattle.mk_assignments.specs.Steps as assigned
use Rattle.mk_assignments.specs.declared.statement.Modifiers.{Modifiers}
use Rattle.mk_statements.specs.declared.said.Fault.{Fault}
use Rattle.mk_statements.specs.declared.said.Fault.TheVariants.{DefineBehindTab, RecipeBeforeTarget, RecipeWithoutRule}
use Rattle.mk_statements.specs.declared.said.Said.{Said}
use Rattle.mk_statements.specs.declared.said.Said.TheVariants.{Nothing, Conditional, Variables, Define, Includes, Vpath, Loads, Expands, Refused}
use Rattle.mk_statements.specs.declared.said.Kind.{Kind}
use Rattle.mk_statements.specs.declared.said.Kind.TheVariants.{Says, Begins, Rule}

pub data Told : Type 0 where
  nothing : Told
  conditional : conditionals.Said → Told
  variable : variables.Said → Told
  define : (modifiers : Modifiers) (line : variables.Opened) (body : List ℕ) (text_behind : Bool) → Told
  includes : (required : Bool) (names : List ℕ) → Told
  searches : (text : List ℕ) → Told
  loads : (required : Bool) (names : List ℕ) → Told
  expands : (text : List ℕ) (recipe : Option (List ℕ)) → Told
  refused : (fault : Fault) → Told

abbrev pub told_by : Said → Told
told_by Nothing = nothing
told_by (Conditional line) = conditional (conditionals.said_by line)
told_by (Variables statement) = variable (assigned.said_by statement)
told_by (Define d) = define d.modifiers (assigned.opened_by d.line) d.body.now d.has_text_behind
told_by (Includes required names) = includes required names.now
told_by (Vpath text) = searches text.now
told_by (Loads required names) = loads required names.now
told_by (Expands text recipe) = expands text.now (option_copied recipe)
told_by (Refused fault) = refused fault

-- the words that begin a line of this kind
unfoldable pub worded : (word rest : List ℕ) → Option Told
worded word rest =
    if bytes_eq word (codes "include") then Some (includes true rest)
    else (if bytes_eq word (codes "-include") || bytes_eq word (codes "sinclude") then Some (includes false rest)
    else (if bytes_eq word (codes "vpath") then Some (searches rest)
    else (if bytes_eq word (codes "load") then Some (loads true rest)
    else (if bytes_eq word (codes "-load") then Some (loads false rest) else None))))

abbrev pub conditional_or : Option conditionals.Said → (text : List ℕ) → Option Told
conditional_or (Some said) text = Some (conditional said)
conditional_or None text = worded (front_word text) (behind_word text)

abbrev pub variable_or : Option variables.Said → (text : List ℕ) → Option Told
variable_or (Some said) text = Some (variable said)
variable_or None text = conditional_or (conditionals.said text) text

-- what a line says by itself, its comment taken off: a word that is defined, as in `include = x`, begins nothing
unfoldable pub told_of : (text : List ℕ) → Option Told
told_of text = if is_nonempty (trimmed_start text) then variable_or (assigned.said text) text else Some nothing

abbrev pub kind_of : Option Told → Kind
kind_of None = Rule
kind_of (Some (variable (variables.begins modifiers line))) = Begins
kind_of (Some (variable (variables.defines modifiers d))) = Says
kind_of (Some (variable (variables.undefines modifiers name))) = Says
kind_of (Some (variable (variables.exports names))) = Says
kind_of (Some (variable (variables.unexports names))) = Says
kind_of (Some nothing) = Says
kind_of (Some (conditional said)) = Says
kind_of (Some (define modifiers line body text_behind)) = Says
kind_of (Some (includes required names)) = Says
kind_of (Some (searches text)) = Says
kind_of (Some (loads required names)) = Says
kind_of (Some (expands text recipe)) = Says
kind_of (Some (refused fault)) = Says

-- any other line is expanded; before a recipe there has to be a rule
abbrev pub rule_told : (text : List ℕ) → (recipe : Option (List ℕ)) → Told
rule_told text None = expands text None
rule_told [] (Some recipe) = refused RecipeWithoutRule
rule_told (b ∷ text) (Some recipe) = expands (b ∷ text) (Some recipe)

abbrev pub or_rule : Option Told → (rule : Told) → Told
or_rule (Some told) rule = told
or_rule None rule = rule

-- behind a TAB, where no rule is open, no rule may begin; nor a `define` (own: GNU make takes it)
abbrev pub behind_tab : Kind → Option Told → Told
behind_tab Says told = or_rule told nothing
behind_tab Begins told = refused DefineBehindTab
behind_tab Rule told = refused RecipeBeforeTarget

-- the `define` that a line begins, with its body
abbrev pub with_body : Option Told → (body : List ℕ) → (text_behind : Bool) → Told
with_body None body text_behind = nothing
with_body (Some (variable (variables.begins modifiers line))) body text_behind = define modifiers line body text_behind
with_body (Some (variable (variables.defines modifiers d))) body text_behind = nothing
with_body (Some (variable (variables.undefines modifiers name))) body text_behind = nothing
with_body (Some (variable (variables.exports names))) body text_behind = nothing
with_body (Some (variable (variables.unexports names))) body text_behind = nothing
with_body (Some nothing) body text_behind = nothing
with_body (Some (conditional said)) body text_behind = nothing
with_body (Some (define modifiers line old behind)) body text_behind = nothing
with_body (Some (includes required names)) body text_behind = nothing
with_body (Some (searches text)) body text_behind = nothing
with_body (Some (loads required names)) body text_behind = nothing
with_body (Some (expands text recipe)) body text_behind = nothing
with_body (Some (refused fault)) body text_behind = nothing
