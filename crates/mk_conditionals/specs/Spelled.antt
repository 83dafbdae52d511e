-- What a line says of conditionals, as it is read from its front (GNU make manual, "Syntax of Conditionals").
use Rattle.std.specs.Prelude.{ℕ, Bool, true, false, ◌||◌, ◌==◌, List, [], ◌∷◌, take, drop, length, Option, Some, None, codes, bytes_eq, if◌then◌else◌}
use Rattle.byte_strings.specs.Blanks.{is_nonempty, first_word, trimmed_start, trimmed_end}
use Rattle.mk_conditionals.specs.Cut.{front_word, behind_word, cut}
use Rattle.mk_conditionals.specs.declared.directive.Question.{Question}
use Rattle.mk_conditionals.specs.declared.directive.Question.TheVariants.{Equal, Defined, Invalid}
use Rattle.mk_conditionals.specs.declared.directive.Test.{Test}
use Rattle.mk_conditionals.specs.declared.directive.Directive.{Directive}
use Rattle.mk_conditionals.specs.declared.directive.Directive.TheVariants.{Begins, Turns, Ends}
use Rattle.mk_conditionals.specs.declared.directive.DirectiveLine.{DirectiveLine}

-- what a test asks, without where its texts lie
pub data Asked : Type 0 where
  equal : (first second : List ℕ) → Asked
  defined : (name : List ℕ) → Asked
  invalid : Asked

pub record Condition : Type 0 where
  pub is_negated : Bool
  pub asked : Asked

-- what a line says, and whether text stands behind that is passed over
abbrev pub Said : Type 0
Said = Directive Condition × Bool

abbrev pub asked_by : Question → Asked
asked_by (Equal first second) = equal first.now second.now
asked_by (Defined name) = defined name.now
asked_by Invalid = invalid

abbrev pub condition_of : Test → Condition
condition_of test = record { is_negated = test.is_negated; asked = asked_by test.question }

abbrev pub with_conditions : Directive Test → Directive Condition
with_conditions (Begins test) = Begins (condition_of test)
with_conditions (Turns None) = Turns None
with_conditions (Turns (Some test)) = Turns (Some (condition_of test))
with_conditions Ends = Ends

abbrev pub said_by : DirectiveLine → Said
said_by line = (with_conditions line.directive, line.has_text_behind)

-- the first argument, the second one, and what stands behind them
abbrev pub Arguments : Type 0
Arguments = List ℕ × List ℕ × List ℕ

abbrev pub with_first : (first : List ℕ) → Option (List ℕ × List ℕ) → Option Arguments
with_first first None = None
with_first first (Some found) = Some (first, found.0, found.1)

-- blanks at the end of the first argument and in front of the second are dropped, and those at the end of the second are its own
abbrev pub second_in_parentheses : Option (List ℕ × List ℕ) → Option Arguments
second_in_parentheses None = None
second_in_parentheses (Some found) = with_first (trimmed_end found.0) (cut true 41 (trimmed_start found.1))

abbrev pub is_quote : ℕ → Bool
is_quote b = b == 34 || b == 39

abbrev pub quoted : List ℕ → Option (List ℕ × List ℕ)
quoted [] = None
quoted (b ∷ bs) = if is_quote b then cut false b bs else None

abbrev pub second_in_quotes : Option (List ℕ × List ℕ) → Option Arguments
second_in_quotes None = None
second_in_quotes (Some found) = with_first found.0 (quoted (trimmed_start found.1))

-- what two texts stand in: parentheses with a comma between them, or quotes, each of its own kind
abbrev pub arguments : List ℕ → Option Arguments
arguments [] = None
arguments (b ∷ bs) = if b == 40 then second_in_parentheses (cut true 44 bs) else second_in_quotes (quoted (b ∷ bs))

-- a test, and whether text stands behind it
abbrev pub Tested : Type 0
Tested = Condition × Bool

abbrev pub compared : (negated : Bool) → Option Arguments → Tested
compared negated None = (record { is_negated = negated; asked = invalid }, false)
compared negated (Some found) = (record { is_negated = negated; asked = equal found.0 found.1 }, is_nonempty (trimmed_start found.2))

-- the name that an expanded text is: what stands before the first blank, where nothing else stands behind it (GNU make 4.3)
unfoldable pub tested_name : (expanded : List ℕ) → Option (List ℕ)
tested_name expanded =
    if is_nonempty (trimmed_start (drop (length (first_word expanded)) expanded)) then None else Some (first_word expanded)

-- how many words there are is told by what the text expands to
abbrev pub asked_for : (negated : Bool) → (rest : List ℕ) → Tested
asked_for negated rest = (record { is_negated = negated; asked = defined rest }, false)

-- the test that a word begins, with what stands behind it
unfoldable pub tested : (word rest : List ℕ) → Option Tested
tested word rest =
    if bytes_eq word (codes "ifeq") then Some (compared false (arguments rest))
    else (if bytes_eq word (codes "ifneq") then Some (compared true (arguments rest))
    else (if bytes_eq word (codes "ifdef") then Some (asked_for false rest)
    else (if bytes_eq word (codes "ifndef") then Some (asked_for true rest) else None)))

-- an `else` turns to the test that stands behind it; other text there is passed over (GNU make lets another `else` follow then: own)
abbrev pub turned : (rest : List ℕ) → Option Tested → Said
turned rest None = (Turns None, is_nonempty rest)
turned rest (Some found) = (Turns (Some found.0), found.1)

abbrev pub begun : Option Tested → Option Said
begun None = None
begun (Some found) = Some (Begins found.0, found.1)

abbrev pub said_behind : (word rest : List ℕ) → Option Said
said_behind word rest =
    if bytes_eq word (codes "endif") then Some (Ends, is_nonempty rest)
    else (if bytes_eq word (codes "else") then Some (turned rest (tested (front_word rest) (behind_word rest))) else begun (tested word rest))

abbrev pub begins_with : (front text : List ℕ) → Bool
begins_with front text = bytes_eq front (take (length front) text)

-- the text begins with the sign of a definition, so what stands before it is a name (`:::=` is a later GNU make's)
unfoldable pub is_sign_next : List ℕ → Bool
is_sign_next rest =
    begins_with (codes "=") rest || begins_with (codes ":=") rest || begins_with (codes "::=") rest || begins_with (codes ":::=") rest
    || begins_with (codes "+=") rest || begins_with (codes "?=") rest || begins_with (codes "!=") rest

-- what a logical line says of conditionals, if it says anything; its comment is taken off
unfoldable pub said : List ℕ → Option Said
said text = if is_sign_next (behind_word text) then None else said_behind (front_word text) (behind_word text)
