-- Texts that wait for what others come to, innermost first, and what they make of it.
use Rattle.std.specs.Prelude.{◌≡◌, ℕ, ◌≤◌, ◌<◌, List, [], ◌∷◌, ◌++◌, length, map, reverse}
use Rattle.mk_functions.specs.Variables.{Variables}
use Rattle.mk_functions.specs.Scope.{Site, outermost, Entry, inside}
use Rattle.mk_functions.specs.Outcome.{Outcome, gives, fails, Fault, too_long, limit}
use Rattle.mk_functions.specs.Values.{Answers}
use Rattle.mk_functions.specs.Steps.{State, Step, resumed}
use Rattle.mk_functions.specs.Expansion.{Expands, ComesTo, ExpandsTo}
use Rattle.mk_functions.specs.Shown.{entry_of, state_of, fault_of, step_of}
use Rattle.mk_functions.specs.declared.state.Waiting as code_waiting
use Rattle.mk_functions.specs.declared.state.Current as code_current
use Rattle.mk_functions.specs.declared.state.Next as code_next
use Rattle.mk_functions.specs.declared.state.Next.TheVariants as next
use Rattle.mk_functions.specs.declared.fault.Stop as code_stop
use Rattle.mk_functions.specs.declared.fault.Stop.TheVariants as stop

-- how the text lies in this one that is waited for, what for, what was made of this one, and what is left of it
pub record Waiting : Type 0 where
  pub entry : Entry
  pub state : State
  pub made : List ℕ
  pub rest : List ℕ

-- where the text is expanded for which these wait
abbrev pub site_at : List Waiting → Site
site_at [] = outermost
site_at (c ∷ cs) = inside c.entry (site_at cs)

abbrev pub waiting_of : code_waiting.Waiting → Waiting
waiting_of c = record { entry = entry_of c.entry; state = state_of c.state; made = c.made.items; rest = c.rest.now }

-- the code has the innermost last
abbrev pub stack_of : List code_waiting.Waiting → List Waiting
stack_of cs = reverse (map waiting_of cs)

module _ (w : Answers) (variables : Variables) where
  -- what a text comes to behind a piece with this outcome
  pub data Goes (site : Site) (made rest : List ℕ) : (piece outcome : Outcome) → Type 0 where
    then_on : {outcome : Outcome} (added : List ℕ) → length (made ++ added) ≤ limit → Expands w variables site (made ++ added) rest outcome →
        Goes site made rest (gives added) outcome
    then_long : (added : List ℕ) → limit < length (made ++ added) → Goes site made rest (gives added) (fails too_long)
    then_fault : (fault : Fault) → Goes site made rest (fails fault) (fails fault)

  -- what a piece comes to that waits, where what it waits for has this outcome
  abbrev pub Comes : Site → State → (inner of : Outcome) → Type 0
  Comes site state (gives value) of = ComesTo w variables site (resumed w variables site state value) of
  Comes site state (fails fault) of = of ≡ fails fault

  -- what the texts that wait make of an outcome
  abbrev pub Unwinds : List Waiting → (inner root : Outcome) → Type 0
  Unwinds [] inner root = root ≡ inner
  Unwinds (c ∷ cs) inner root =
      (of : Outcome) × (outcome : Outcome) × Comes (site_at cs) c.state inner of × Goes (site_at cs) c.made c.rest of outcome × Unwinds cs outcome root

  -- the whole text comes to what those that wait make of the text at hand
  abbrev pub Leads : (whole : List ℕ) → List Waiting → (made rest : List ℕ) → Type 0
  Leads whole cs made rest = (inner outcome : Outcome) → Expands w variables (site_at cs) made rest inner → Unwinds cs inner outcome → ExpandsTo w variables whole outcome

  -- the same with a piece ahead that has come to this step
  abbrev pub LeadsFrom : (whole : List ℕ) → List Waiting → (made rest : List ℕ) → Step → Type 0
  LeadsFrom whole cs made rest step =
      (of outcome : Outcome) → ComesTo w variables (site_at cs) step of → (inner : Outcome) → Goes (site_at cs) made rest of inner → Unwinds cs inner outcome →
      ExpandsTo w variables whole outcome

  abbrev pub LeadTo : (whole : List ℕ) → List code_waiting.Waiting → code_current.Current → Type 0
  LeadTo whole callers current = Leads whole (stack_of callers) current.made.items current.rest.now

  -- what comes next is the end of the whole text, or a step that leads on
  abbrev pub IsNext : (whole : List ℕ) → (callers : List code_waiting.Waiting) → code_next.Next → Type 0
  IsNext whole callers (next.Done made) = ExpandsTo w variables whole (gives made.items)
  IsNext whole callers (next.Step current step) = LeadsFrom whole (stack_of callers) current.made.items current.rest.now (step_of step)

  -- why there is no value: a fault of the text, or something that says nothing of it
  abbrev pub IsStop : (whole : List ℕ) → code_stop.Stop → Type 0
  IsStop whole stop.OutOfMemory = Unit {0}
  IsStop whole stop.TakesTooLong = Unit {0}
  IsStop whole (stop.Fault fault) = ExpandsTo w variables whole (fails (fault_of fault))
