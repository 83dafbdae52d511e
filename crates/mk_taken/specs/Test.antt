-- What the test of a conditional comes to, by what names stand for there (GNU make manual, "Syntax of Conditionals"; GNU make 4.3).
use Rattle.std.specs.Prelude.{◌≡◌, ℕ, Bool, false, not, if◌then◌else◌, List, Option, Some, None, Result, Ok, Err, bytes_eq}
use Rattle.byte_strings.specs.Blanks.{is_nonempty}
use Rattle.mk_conditionals.specs.Spelled.{Asked, equal, defined, invalid, Condition, tested_name}
use Rattle.mk_functions.specs.Variables.{Variable, Variables}
use Rattle.mk_functions.specs.Outcome.{Outcome, gives, fails, Fault}
use Rattle.mk_functions.specs.Values.{Answers}
use Rattle.mk_functions.specs.Expansion.{ExpandsTo}

-- why a test has no answer: a text of it has no value, or it is spelled as no test is
pub data NoAnswer : Type 0 where
  has_no_value : (fault : Fault) → NoAnswer
  is_no_test : NoAnswer

abbrev pub Answer : Type 0
Answer = Result Bool NoAnswer

-- two texts are compared by what they come to
abbrev pub are_equal : (one : List ℕ) → (other : Outcome) → Answer
are_equal one (gives two) = Ok (bytes_eq one two)
are_equal one (fails fault) = Err (has_no_value fault)

-- a variable counts as defined where its text isn't empty, whatever that comes to
abbrev pub has_text : Option Variable → Bool
has_text None = false
has_text (Some v) = is_nonempty v.text

abbrev pub is_defined : Variables → (name : Option (List ℕ)) → Answer
is_defined variables None = Err is_no_test
is_defined variables (Some name) = Ok (has_text (variables name))

-- the name that `ifdef` asks for is what its text comes to
abbrev pub defined_as : Variables → Outcome → Answer
defined_as variables (gives text) = is_defined variables (tested_name text)
defined_as variables (fails fault) = Err (has_no_value fault)

-- `ifneq` and `ifndef` hold where the others don't
abbrev pub answered : (is_negated : Bool) → Answer → Answer
answered is_negated (Ok is) = Ok (if is_negated then not is else is)
answered is_negated (Err why) = Err why

module _ (w : Answers) (variables : Variables) where
  -- the second text is expanded behind the first one, unless that has no value
  abbrev pub Compares : (first : Outcome) → (second : List ℕ) → Answer → Type 0
  Compares (gives one) second told = (other : Outcome) × ExpandsTo w variables second other × (told ≡ are_equal one other)
  Compares (fails fault) second told = told ≡ Err (has_no_value fault)

  abbrev pub Asks : Asked → Answer → Type 0
  Asks (equal first second) told = (one : Outcome) × ExpandsTo w variables first one × Compares one second told
  Asks (defined text) told = (name : Outcome) × ExpandsTo w variables text name × (told ≡ defined_as variables name)
  Asks invalid told = told ≡ Err is_no_test

  -- what a test comes to
  abbrev pub Holds : Condition → Answer → Type 0
  Holds test told = (asked : Answer) × Asks test.asked asked × (told ≡ answered test.is_negated asked)
