-- What a line comes to that isn't expanded yet, and what stands behind its `;`, as a relation (GNU make manual, "How make Reads a Makefile" and
-- "Target-specific Variable Values"; GNU make 4.3).
use Rattle.std.specs.Prelude.{◌≡◌, ◌||◌, not, ℕ, Bool, List, [], ◌∷◌, ◌++◌, length, Option, Some, None, is_some, Result, Ok, Err}
use Rattle.byte_strings.specs.Blanks.{is_nonempty}
use Rattle.mk_words.specs.Words.{behind_spaces}
use Rattle.mk_functions.specs.Variables.{Variables}
use Rattle.mk_functions.specs.Outcome as values
use Rattle.mk_functions.specs.Outcome.{Outcome, gives, fails}
use Rattle.mk_functions.specs.Values.{Answers}
use Rattle.mk_functions.specs.Expansion.{ExpandsTo}
use Rattle.mk_target_lines.specs.Cut.{Cut, behind_mark, unquoted}
use Rattle.mk_target_lines.specs.Names.{names_of}
use Rattle.mk_target_lines.specs.Parts.{Line, Parted, ended, colon, meets, recipe_cut, Parts}
use Rattle.mk_target_lines.specs.Rule.{Rule, Came, nothing, without_targets, defines_for, has_rule, behind_colons, Definition, defined, with_recipe, static, ruled}
use Rattle.mk_target_lines.specs.declared.fault.Fault.{Fault}
use Rattle.mk_target_lines.specs.declared.fault.Fault.TheVariants.{MissingSeparator}
use Rattle.mk_target_lines.specs.declared.mark.Mark.TheVariants.{Byte}

pub data Told : Type 0 where
  comes : (came : Came) → Told
  refused : (fault : Fault) → Told
  has_no_value : (fault : values.Fault) → Told

-- a line without a colon has to be blank
abbrev pub without_colon : (names : List ℕ) → Told
without_colon [] = comes nothing
without_colon (b ∷ bs) = refused MissingSeparator

abbrev pub or_else : Option (List ℕ) → Option (List ℕ) → Option (List ℕ)
or_else (Some text) other = Some text
or_else None other = other

-- what stands behind the colons of a rule, cut at a `;` that comes out of an expansion; where nothing was left to be expanded it isn't looked for again
abbrev pub rule_cut : (has_recipe : Bool) → Line → (text : List ℕ) → Cut
rule_cut has_recipe line text = recipe_cut (has_recipe || not (is_nonempty line.rest)) text

abbrev pub told_rule : Result Rule Fault → Told
told_rule (Ok it) = comes (has_rule it)
told_rule (Err fault) = refused fault

-- a rule whose text behind the colons is this
abbrev pub rule_of : (targets : List (List ℕ)) → (is_double : Bool) → (recipe : Option (List ℕ)) → Line → Cut → Told
rule_of targets is_double recipe line text =
    told_rule (ruled targets is_double line.is_grouped (or_else recipe (or_else line.recipe (behind_mark text.1))) (static text.0))

abbrev pub rule_with : (targets : List (List ℕ)) → Bool × List ℕ → (recipe : Option (List ℕ)) → Line → Outcome → Told
rule_with targets behind recipe line (gives more) = rule_of targets behind.0 recipe line (rule_cut (is_some recipe) line (behind.1 ++ more))
rule_with targets behind recipe line (fails fault) = has_no_value fault

module _ (w : Answers) (variables : Variables) (recipe : Option (List ℕ)) where
  -- a definition isn't expanded; in front of a rule's prerequisites `\=` is a `=`
  abbrev pub Says : (targets : List (List ℕ)) → Bool × List ℕ → Line → Definition → Told → Type 0
  Says targets behind line (Err fault) told = told ≡ refused fault
  Says targets behind line (Ok (Some d)) told = told ≡ comes (defines_for targets d.0 (with_recipe d.1 recipe))
  Says targets behind line (Ok None) told =
      (more : Outcome) × ExpandsTo w variables (unquoted (Byte 61) line.rest) more × (told ≡ rule_with targets behind recipe line more)

  abbrev pub AtTargets : (targets : List (List ℕ)) → Line → Told → Type 0
  AtTargets [] line told = told ≡ comes without_targets
  AtTargets (target ∷ more) line told =
      Says (target ∷ more) (behind_colons line.behind) line (defined ((behind_colons line.behind).1 ++ line.rest)) told

  abbrev pub AtParted : Parted → Told → Type 0
  AtParted (ended names) told = told ≡ without_colon (behind_spaces names)
  AtParted (colon line) told = AtTargets (names_of None line.names).0 line told
  AtParted (meets fault) told = told ≡ has_no_value fault

  -- what the line comes to
  abbrev pub Comes : (text : List ℕ) → Told → Type 0
  Comes text told = (parted : Parted) × Parts w variables (is_some recipe) (length text) [] text parted × AtParted parted told
