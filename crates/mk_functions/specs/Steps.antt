-- What each piece of a text asks for: the value of a text, and what is made of that; or what it comes to (GNU make manual, "Basics of
-- Variable References", "Substitution References", "Computed Variable Names", "Functions for Conditionals", "The foreach Function" and "The call Function").
use Rattle.std.specs.Prelude.{ℕ, nat_lt, if◌then◌else◌, List, [], ◌∷◌, ◌++◌, length, Option, Some, None, bytes_eq}
use Rattle.std.specs.List.{list_any}
use Rattle.byte_strings.specs.Blanks.{is_nonempty}
use Rattle.mk_words.specs.Words.{words_of, behind_spaces, before_spaces}
use Rattle.mk_words.specs.Counted.{first_word}
use Rattle.mk_words.specs.Patterns.{pattern_of}
use Rattle.mk_words.specs.Changed.{substitution_of}
use Rattle.mk_pieces.specs.Function.{function_named}
use Rattle.mk_pieces.specs.Piece.{Use, whole, substituted, Piece, plain, reference, unclosed, computed, call, named}
use Rattle.mk_pieces.specs.declared.function.Function.{Function}
use Rattle.mk_pieces.specs.declared.function.Function.TheVariants.{OfWords, OfVariable, Asks, Says, Error, OfTwo, OfThree, If, Or, And, Foreach, Call}
use Rattle.mk_pieces.specs.declared.function.Function.TheVariants as function
use Rattle.mk_functions.specs.declared.variable.Flavor.{Flavor}
use Rattle.mk_functions.specs.declared.variable.Flavor.TheVariants.{Recursive, Simple}
use Rattle.mk_functions.specs.Variables.{Variable, Variables}
use Rattle.mk_functions.specs.Scope.{Site, variable_in, value_count, padded, Entry, stays, opens, binds, passes}
use Rattle.mk_functions.specs.Outcome.{Outcome, gives, fails, refers_to_itself, not_closed, too_long, too_few, refuses, limit, given}
use Rattle.mk_functions.specs.Values.{Answers, applied}

-- what a piece is that waits for a value
pub data State : Type 0 where
  -- a reference, for the value of its variable
  value_of : (use_of : Use) → State
  -- a reference, for its name
  name_in : State
  -- a function, for the value of an argument, behind these values and before these texts
  argument : (f : Function) (values left : List (List ℕ)) → State
  -- `if`, for its condition, before its branches
  condition : (branches : List (List ℕ)) → State
  -- a piece that comes to just that value
  last : State
  or_argument : (left : List (List ℕ)) → State
  and_argument : (left : List (List ℕ)) → State
  -- `foreach`, for its name, then for its list, then for its body with one word, before these words and behind what was made
  loop_name : (list body : List ℕ) → State
  loop_list : (name body : List ℕ) → State
  loop_body : (name body : List ℕ) (left : List (List ℕ)) (made : Option (List ℕ)) → State

pub data Step : Type 0 where
  asks : (entry : Entry) (text : List ℕ) (state : State) → Step
  answers : (outcome : Outcome) → Step

abbrev pub trimmed : List ℕ → List ℕ
trimmed text = before_spaces (behind_spaces text)

-- References

-- what a reference takes of a value
abbrev pub used : Use → (value : List ℕ) → List ℕ
used whole value = value
used (substituted from to) value = substitution_of (pattern_of from) to value

abbrev pub opened_step : (opened : List (List ℕ)) (name text : List ℕ) → Use → Step
opened_step opened name text use_of = if list_any (bytes_eq name) opened then answers (fails (refers_to_itself name)) else asks (opens name) text (value_of use_of)

abbrev pub flavor_step : Flavor → (opened : List (List ℕ)) (name text : List ℕ) → Use → Step
flavor_step Simple opened name text use_of = answers (gives (used use_of text))
flavor_step Recursive opened name text use_of = opened_step opened name text use_of

abbrev pub variable_step : Option Variable → (opened : List (List ℕ)) (name : List ℕ) → Use → Step
variable_step None opened name use_of = answers (gives [])
variable_step (Some v) opened name use_of = flavor_step v.flavor opened name v.text use_of

-- a name that isn't defined stands for nothing, the text of a simple variable for itself, and that of a recursive one for its value
abbrev pub reference_step : Variables → Site → (name : List ℕ) → Use → Step
reference_step variables site name use_of = variable_step (variable_in variables site.scope name) site.opened name use_of

-- a name that brackets came to is read once: it may be NAME:FROM=TO
abbrev pub named_step : Variables → Site → Piece → Step
named_step variables site (reference name use_of) = reference_step variables site name use_of
named_step variables site _ = answers (fails not_closed)

-- Conditionals

abbrev pub branch_step : List (List ℕ) → Step
branch_step [] = answers (gives [])
branch_step (text ∷ more) = asks stays text last

abbrev pub tail_of : List (List ℕ) → List (List ℕ)
tail_of [] = []
tail_of (x ∷ xs) = xs

-- the first branch where the condition comes to any bytes, else the second, if there is one
abbrev pub chosen_step : (value : List ℕ) (branches : List (List ℕ)) → Step
chosen_step value branches = if is_nonempty value then branch_step branches else branch_step (tail_of branches)

abbrev pub if_step : (arguments : List (List ℕ)) → Step
if_step (text ∷ one ∷ more) = asks stays (trimmed text) (condition (one ∷ more))
if_step _ = answers (fails (too_few If))

abbrev pub or_step : (left : List (List ℕ)) → Step
or_step [] = answers (gives [])
or_step (text ∷ left) = asks stays (trimmed text) (or_argument left)

-- behind a value that has bytes
abbrev pub and_step : (value : List ℕ) (left : List (List ℕ)) → Step
and_step value [] = answers (gives value)
and_step value (text ∷ left) = asks stays (trimmed text) (and_argument left)

-- Loops

abbrev pub foreach_step : (arguments : List (List ℕ)) → Step
foreach_step (name ∷ list ∷ body ∷ more) = asks stays name (loop_name list body)
foreach_step _ = answers (fails (too_few Foreach))

-- what was made, if anything was
abbrev pub made_or_nothing : Option (List ℕ) → List ℕ
made_or_nothing None = []
made_or_nothing (Some made) = made

-- a space stands between each two values
abbrev pub behind_made : Option (List ℕ) → (value : List ℕ) → List ℕ
behind_made None value = value
behind_made (Some made) value = made ++ 32 ∷ value

-- the body's value with each word in turn
abbrev pub loop_step : (name body : List ℕ) (left : List (List ℕ)) (made : Option (List ℕ)) → Step
loop_step name body [] made = answers (given (made_or_nothing made))
loop_step name body (word ∷ left) made =
    if nat_lt limit (length (made_or_nothing made)) then answers (fails too_long)
    else asks (binds name word) body (loop_body name body left made)

-- Functions whose arguments are all expanded

-- a simple variable that is called stands for its text; the text of a recursive one is expanded with the values bound to their numbers
abbrev pub called_flavor : Flavor → (count : ℕ) (values : List (List ℕ)) (text : List ℕ) → Step
called_flavor Simple count values text = answers (given text)
called_flavor Recursive count values text = asks (passes (padded count values)) text last

abbrev pub called_variable : Option Variable → (count : ℕ) (values : List (List ℕ)) → Step
called_variable None count values = answers (gives [])
called_variable (Some v) count values = called_flavor v.flavor count values v.text

-- a name that is that of a function calls the function
abbrev pub called_step : Answers → Variables → Site → Option Function → (name : List ℕ) (values : List (List ℕ)) → Step
called_step w variables site (Some f) name values = answers (applied w (variable_in variables site.scope) f values)
called_step w variables site None name values = called_variable (variable_in variables site.scope name) (value_count site.scope) (name ∷ values)

abbrev pub named_call : Answers → Variables → Site → (name : List ℕ) (values : List (List ℕ)) → Step
named_call w variables site name values =
    if is_nonempty name then called_step w variables site (function_named name) name values else answers (gives [])

-- the first word of the first value is the name of what is called
abbrev pub call_step : Answers → Variables → Site → (values : List (List ℕ)) → Step
call_step w variables site [] = answers (gives [])
call_step w variables site (name ∷ values) = named_call w variables site (first_word (words_of name)) values

abbrev pub applied_step : Answers → Variables → Site → Function → (values : List (List ℕ)) → Step
applied_step w variables site Call values = call_step w variables site values
applied_step w variables site f values = answers (applied w (variable_in variables site.scope) f values)

abbrev pub argument_step : Answers → Variables → Site → Function → (values left : List (List ℕ)) → Step
argument_step w variables site f values [] = applied_step w variables site f values
argument_step w variables site f values (text ∷ left) = asks stays text (argument f values left)

-- The steps of a piece

abbrev pub started : Answers → Variables → Site → Function → (arguments : List (List ℕ)) → Step
started w variables site If arguments = if_step arguments
started w variables site Or arguments = or_step arguments
started w variables site And arguments = and_step [] arguments
started w variables site Foreach arguments = foreach_step arguments
started w variables site (function.Refused f) arguments = answers (fails (refuses f))
started w variables site f arguments = argument_step w variables site f [] arguments

-- the first
abbrev pub piece_step : Answers → Variables → Site → Piece → Step
piece_step w variables site (plain bytes) = answers (gives bytes)
piece_step w variables site (reference name use_of) = reference_step variables site name use_of
piece_step w variables site unclosed = answers (fails not_closed)
piece_step w variables site (computed inner) = asks stays inner name_in
piece_step w variables site (call f arguments) = started w variables site f arguments

-- the one behind a value that was waited for
abbrev pub resumed : Answers → Variables → Site → State → (value : List ℕ) → Step
resumed w variables site (value_of use_of) value = answers (gives (used use_of value))
resumed w variables site name_in value = named_step variables site (named value)
resumed w variables site (argument f values left) value = argument_step w variables site f (values ++ value ∷ []) left
resumed w variables site (condition branches) value = chosen_step value branches
resumed w variables site last value = answers (gives value)
resumed w variables site (or_argument left) value = if is_nonempty value then answers (gives value) else or_step left
resumed w variables site (and_argument left) value = if is_nonempty value then and_step value left else answers (gives [])
resumed w variables site (loop_name list body) value = asks stays list (loop_list (first_word (words_of value)) body)
resumed w variables site (loop_list name body) value = loop_step name body (words_of value) None
resumed w variables site (loop_body name body left made) value = loop_step name body left (Some (behind_made made value))
