-- Where a text is expanded: what is bound to names there, and what is being expanded round it (GNU make manual, "The foreach Function" and
-- "The call Function").
use Rattle.std.specs.Prelude.{ℕ, ◌-◌, Bool, false, ◌&&◌, ◌==◌, if◌then◌else◌, List, [], ◌∷◌, ◌++◌, length, replicate, Option, Some, None, option_map, slice_get, bytes_eq}
use Rattle.byte_strings.specs.Blanks.{is_nonempty}
use Rattle.mk_words.specs.Counted.{first_word}
use Rattle.mk_words.specs.Numbers.{number_by}
use Rattle.mk_functions.specs.Variables.{Variable, Variables}
use Rattle.mk_functions.specs.declared.variable.Flavor.TheVariants.{Simple}
use Rattle.mk_functions.specs.declared.variable.Origin.TheVariants.{Automatic}
use Rattle.mk_functions.specs.declared.limits.TheConstants.{MAX_CALLS}

-- names that are bound for a while: that of a `foreach`, or the numbers of the values of a `call`
pub data Frame : Type 0 where
  bound : (name value : List ℕ) → Frame
  called : (values : List (List ℕ)) → Frame

-- the latest first
abbrev pub Scope : Type 0
Scope = List Frame

-- the number that a name is, as numbers are written: without a zero in front
abbrev pub number_named : (name : List ℕ) → Option ℕ
number_named [] = None
number_named (b ∷ bs) = if b == 48 && is_nonempty bs then None else number_by (b ∷ bs)

-- the value of this number, counted from 0 on
abbrev pub value_numbered : Option ℕ → (values : List (List ℕ)) → Option (List ℕ)
value_numbered None values = None
value_numbered (Some n) values = slice_get values n

abbrev pub value_at : (name : List ℕ) → Frame → Option (List ℕ)
value_at name (bound n value) = if bytes_eq name n then Some value else None
value_at name (called values) = value_numbered (number_named name) values

-- the first value that there is
abbrev pub or_else : {X : Type 0} → Option X → Option X → Option X
or_else None second = second
or_else (Some x) second = Some x

-- what is bound to a name: later bindings hide those before
abbrev pub bound_in : (name : List ℕ) → Scope → Option (List ℕ)
bound_in name [] = None
bound_in name (frame ∷ frames) = or_else (value_at name frame) (bound_in name frames)

-- what is bound to a name isn't expanded again
abbrev pub bound_variable : (value : List ℕ) → Variable
bound_variable value = record { text = value; flavor = Simple; origin = Automatic }

-- what a name stands for
abbrev pub variable_in : Variables → Scope → (name : List ℕ) → Option Variable
variable_in variables scope name = or_else (option_map bound_variable (bound_in name scope)) (variables name)

-- how many values the latest call has
abbrev pub value_count : Scope → ℕ
value_count [] = 0
value_count (bound name value ∷ frames) = value_count frames
value_count (called values ∷ frames) = length values

-- a call within another hides the values of that one, also where it has fewer of its own
abbrev pub padded : (count : ℕ) (values : List (List ℕ)) → List (List ℕ)
padded count values = values ++ replicate (count - length values) []

-- how many more calls may be nested in a text, what is bound there, and the variables whose text it is a part of
pub record Site : Type 0 where
  pub levels : ℕ
  pub scope : Scope
  pub opened : List (List ℕ)

-- where nothing is bound, and no variable is being expanded
abbrev pub outermost : Site
outermost = record { levels = MAX_CALLS; scope = []; opened = [] }

-- how a text lies in another: in the same place, as the text of a variable, with a name bound, or as what is called with values, of which the
-- first is the name
pub data Entry : Type 0 where
  stays : Entry
  opens : (name : List ℕ) → Entry
  binds : (name value : List ℕ) → Entry
  passes : (values : List (List ℕ)) → Entry

-- where such a text is expanded. What is called may refer to itself, to some depth
abbrev pub inside : Entry → Site → Site
inside stays site = site
inside (opens name) site = record { levels = site.levels; scope = site.scope; opened = name ∷ site.opened }
inside (binds name value) site = record { levels = site.levels; scope = bound name value ∷ site.scope; opened = site.opened }
inside (passes values) site = record { levels = site.levels - 1; scope = called values ∷ site.scope; opened = site.opened }

-- no more calls may be nested
abbrev pub is_too_deep : Entry → Site → Bool
is_too_deep stays site = false
is_too_deep (opens name) site = false
is_too_deep (binds name value) site = false
is_too_deep (passes values) site = site.levels == 0

-- what is called
abbrev pub called_name : Entry → List ℕ
called_name stays = []
called_name (opens name) = []
called_name (binds name value) = []
called_name (passes values) = first_word values
