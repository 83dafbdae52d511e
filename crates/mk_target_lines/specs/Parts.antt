-- A line up to its colon, as a relation: it is expanded word by word until a colon stands in what a word came to (GNU make manual, "How make Reads a
-- Makefile"; GNU make 4.3). What stands behind isn't expanded yet, since it may be a definition.
use Rattle.std.specs.Prelude.{◌≡◌, ℕ, zero, suc, Bool, true, false, List, [], ◌∷◌, ◌++◌, Option, Some, None, is_some, codes}
use Rattle.mk_words.specs.Patterns.{before_end}
use Rattle.mk_functions.specs.Variables.{Variables}
use Rattle.mk_functions.specs.Outcome.{Outcome, gives, fails, Fault}
use Rattle.mk_functions.specs.Values.{Answers}
use Rattle.mk_functions.specs.Expansion.{ExpandsTo}
use Rattle.mk_target_lines.specs.Cut.{Cut, cut}
use Rattle.mk_target_lines.specs.Words.{next_word}
use Rattle.mk_target_lines.specs.declared.mark.Mark.TheVariants.{Byte}

-- a line with a colon: the text of its names, whether a `&` stands before the colon, what was expanded behind it, what isn't expanded yet, and what stands
-- behind a `;` that came out of an expansion
pub record Line : Type 0 where
  pub names : List ℕ
  pub is_grouped : Bool
  pub behind : List ℕ
  pub rest : List ℕ
  pub recipe : Option (List ℕ)

pub data Parted : Type 0 where
  ended : (names : List ℕ) → Parted
  colon : (line : Line) → Parted
  meets : (fault : Fault) → Parted

-- what a word makes of it: the line goes on behind it, or not
pub data Step : Type 0 where
  goes_on : (names rest : List ℕ) → Step
  stops : (parted : Parted) → Step

-- what a word came to stands behind a space
abbrev pub spaced : (names front : List ℕ) → List ℕ
spaced names front = names ++ 32 ∷ front

abbrev pub ungrouped : Option (List ℕ) → (front : List ℕ) → List ℕ
ungrouped None front = front
ungrouped (Some names) front = names

-- the line with a colon that a word came to, where it came to one
abbrev pub line_in : (names : List ℕ) → Cut → (rest : List ℕ) → (recipe : Option (List ℕ)) → Option Line
line_in names (front, []) rest recipe = None
line_in names (front, b ∷ behind) rest recipe =
    Some (record {
      names = spaced names (ungrouped (before_end (codes "&") front) front);
      is_grouped = is_some (before_end (codes "&") front);
      behind = behind;
      rest = rest;
      recipe = recipe;
    })

abbrev pub or_goes_on : Option Line → (names rest : List ℕ) → Step
or_goes_on None names rest = goes_on names rest
or_goes_on (Some line) names rest = stops (colon line)

abbrev pub or_ended : Option Line → (names : List ℕ) → Parted
or_ended None names = ended names
or_ended (Some line) names = colon line

abbrev pub at_colon : (names : List ℕ) → Cut → (rest : List ℕ) → Step
at_colon names value rest = or_goes_on (line_in names value rest None) (spaced names value.0) rest

-- the word that came to a `;` is the last one: what is left of the line is of the recipe
abbrev pub at_last : (names : List ℕ) → Cut → (recipe : List ℕ) → Parted
at_last names value recipe = or_ended (line_in names value [] (Some recipe)) (spaced names value.0)

abbrev pub with_rest : (names : List ℕ) → Cut → (behind : List ℕ) → Outcome → Step
with_rest names value behind (gives more) = stops (at_last names value (behind ++ more))
with_rest names value behind (fails fault) = stops (meets fault)

-- a `;` that came out of an expansion counts where the line has none
abbrev pub recipe_cut : (has_recipe : Bool) → (value : List ℕ) → Cut
recipe_cut true value = (value, [])
recipe_cut false value = cut (Byte 59) value

module _ (w : Answers) (variables : Variables) (has_recipe : Bool) where
  abbrev pub AtRecipe : (names : List ℕ) → Cut → (rest : List ℕ) → Step → Type 0
  AtRecipe names (front, []) rest step = step ≡ at_colon names (cut (Byte 58) front) rest
  AtRecipe names (front, b ∷ behind) rest step =
      (more : Outcome) × ExpandsTo w variables rest more × (step ≡ with_rest names (cut (Byte 58) front) behind more)

  abbrev pub AtValue : (names : List ℕ) → Outcome → (rest : List ℕ) → Step → Type 0
  AtValue names (gives value) rest step = AtRecipe names (recipe_cut has_recipe value) rest step
  AtValue names (fails fault) rest step = step ≡ stops (meets fault)

  abbrev pub AtWord : (names : List ℕ) → Option (List ℕ × List ℕ) → Step → Type 0
  AtWord names None step = step ≡ stops (ended names)
  AtWord names (Some found) step = (value : Outcome) × ExpandsTo w variables found.0 value × AtValue names value found.1 step

  abbrev pub Then : (Further : (names text : List ℕ) → Parted → Type 0) → Step → Parted → Type 0
  Then Further (goes_on names rest) parted = Further names rest parted
  Then Further (stops it) parted = parted ≡ it

  -- a text of at most so many bytes, and so of at most so many words, behind these names
  abbrev pub Parts : (size : ℕ) → (names text : List ℕ) → Parted → Type 0
  Parts zero names text parted = parted ≡ ended names
  Parts (suc size) names text parted = (step : Step) × AtWord names (next_word text) step × Then (Parts size) step parted
