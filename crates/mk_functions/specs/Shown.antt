-- States, steps and faults as the code has them.
use Rattle.std.specs.Prelude.{ℕ, List, ◌∷◌, map, reverse, option_map, Vec}
use Rattle.std.specs.declared.alloc.Global.{Global}
use Rattle.mk_pieces.specs.Piece as piece
use Rattle.mk_functions.specs.Variables.{Variable}
use Rattle.mk_functions.specs.Scope.{Entry, stays, opens, binds, passes}
use Rattle.mk_functions.specs.Outcome.{Fault, refers_to_itself, not_closed, too_long, too_deep, too_few, miscounts, told, refuses, not_called, gives, fails}
use Rattle.mk_functions.specs.Steps as step
use Rattle.mk_functions.specs.declared.fault.Fault as code_fault
use Rattle.mk_functions.specs.declared.fault.Fault.TheVariants as fault
use Rattle.mk_functions.specs.declared.variable.Variable as code_variable
use Rattle.mk_functions.specs.declared.state.Entry as code_entry
use Rattle.mk_functions.specs.declared.state.Entry.TheVariants as entry
use Rattle.mk_functions.specs.declared.state.Taken as code_taken
use Rattle.mk_functions.specs.declared.state.Taken.TheVariants as taken
use Rattle.mk_functions.specs.declared.state.Loop as code_loop
use Rattle.mk_functions.specs.declared.state.State as code_state
use Rattle.mk_functions.specs.declared.state.State.TheVariants as state
use Rattle.mk_functions.specs.declared.state.Step as code_step
use Rattle.mk_functions.specs.declared.state.Step.TheVariants as next

abbrev pub texts : List (Vec ℕ Global) → List (List ℕ)
texts vs = map (λ v. v.items) vs

abbrev pub variable_of : code_variable.Variable → Variable
variable_of v = record { text = v.text.now; flavor = v.flavor; origin = v.origin }

abbrev pub fault_of : code_fault.Fault → Fault
fault_of (fault.RefersToItself name) = refers_to_itself name.items
fault_of fault.NotClosed = not_closed
fault_of fault.TooLong = too_long
fault_of (fault.TooDeep name) = too_deep name.items
fault_of (fault.TooFew f) = too_few f
fault_of (fault.Miscounts f why) = miscounts f why
fault_of (fault.Told text) = told text.items
fault_of (fault.Refuses f) = refuses f
fault_of (fault.NotCalled f) = not_called f

abbrev pub entry_of : code_entry.Entry → Entry
entry_of entry.Stays = stays
entry_of (entry.Opens name) = opens name.items
entry_of (entry.Binds name value) = binds name.items value.items
entry_of (entry.Passes values) = passes (texts values.items)

abbrev pub taken_of : code_taken.Taken → piece.Use
taken_of taken.Whole = piece.whole
taken_of (taken.Substituted from to) = piece.substituted from.items to.items

-- the words that are left lie last to first
abbrev pub loop_of : code_loop.Loop → step.State
loop_of l = step.loop_body l.name.items l.body.now (reverse (texts l.left.items)) (option_map (λ v. v.items) l.made)

abbrev pub state_of : code_state.State → step.State
state_of (state.ValueOf use_of) = step.value_of (taken_of use_of)
state_of state.NameIn = step.name_in
state_of (state.Argument f values left) = step.argument f (texts values.items) left
state_of (state.Condition one more) = step.condition (one.now ∷ more)
state_of state.Last = step.last
state_of (state.OrArgument left) = step.or_argument left
state_of (state.AndArgument left) = step.and_argument left
state_of (state.LoopName list body) = step.loop_name list.now body.now
state_of (state.LoopList name body) = step.loop_list name.items body.now
state_of (state.LoopBody l) = loop_of l

abbrev pub step_of : code_step.Step → step.Step
step_of (next.Adds bytes) = step.answers (gives bytes.items)
step_of (next.Fails fault) = step.answers (fails (fault_of fault))
step_of (next.Asks entry text state) = step.asks (entry_of entry) text.now (state_of state)
