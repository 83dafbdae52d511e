-- What a text comes to.
use Rattle.std.specs.Prelude.{ℕ, nat_lt, if◌then◌else◌, List, length}
use Rattle.mk_words.specs.declared.numbers.NumberFault.{NumberFault}
use Rattle.mk_pieces.specs.declared.function.Function.{Function}
use Rattle.mk_pieces.specs.declared.function.Refused.{Refused}
use Rattle.mk_functions.specs.declared.limits.TheConstants.{MAX_VALUE}

-- why a text has no value
pub data Fault : Type 0 where
  -- a variable whose text refers to the variable
  refers_to_itself : (name : List ℕ) → Fault
  -- brackets that nothing closes
  not_closed : Fault
  too_long : Fault
  -- what is called where no more calls may be nested
  too_deep : (name : List ℕ) → Fault
  too_few : (f : Function) → Fault
  -- an argument of a function that ought to be a number
  miscounts : (f : Function) (fault : NumberFault) → Fault
  -- what `error` says
  told : (text : List ℕ) → Fault
  -- a function that has no value here
  refuses : (f : Refused) → Fault
  -- a function that isn't called by `call` here
  not_called : (f : Function) → Fault

pub data Outcome : Type 0 where
  gives : (bytes : List ℕ) → Outcome
  fails : (fault : Fault) → Outcome

-- no text and no value grows longer (own)
abbrev pub limit : ℕ
limit = MAX_VALUE

-- a value that isn't too long
abbrev pub given : List ℕ → Outcome
given bytes = if nat_lt limit (length bytes) then fails too_long else gives bytes
