-- Lines with conditionals among them, as a relation: what isn't taken isn't read, but for its nesting (GNU make manual, "Syntax of Conditionals").
-- W is what is defined, T a test, A a statement, I an item and F a fault of these; A gives items, which change W.
use Rattle.std.specs.Prelude.{◌≡◌, ℕ, Bool, true, false, List, [], ◌∷◌, ◌++◌, Option, Some, None, Result, Ok, Err}
use Rattle.mk_conditionals.specs.Nest.{active, missing}
use Rattle.mk_conditionals.specs.declared.branch.Branch.{Branch}
use Rattle.mk_conditionals.specs.declared.branch.Stage.{Stage}
use Rattle.mk_conditionals.specs.declared.branch.Stage.TheVariants.{Waiting, Taken, Passed}
use Rattle.mk_conditionals.specs.declared.branch.NestFault.{NestFault}
use Rattle.mk_conditionals.specs.declared.branch.NestFault.TheVariants.{ExtraneousElse, ExtraneousEndif, SecondElse}
use Rattle.mk_conditionals.specs.declared.directive.Directive.{Directive}
use Rattle.mk_conditionals.specs.declared.directive.Directive.TheVariants.{Begins, Turns, Ends}

pub data Line (T A : Type 0) : Type 0 where
  directive : (line : ℕ) (d : Directive T) → Line T A
  statement : (s : A) → Line T A

-- why lines are refused: by a test or a statement, or by how conditionals are nested
pub data Why (F : Type 0) : Type 0 where
  faulty : (fault : F) → Why F
  misplaced : (fault : NestFault) → Why F

-- a branch whose test holds, or doesn't
abbrev pub stage_of : Bool → Stage
stage_of true = Taken
stage_of false = Waiting

-- a conditional that is open, as it stands
abbrev pub branch : (line : ℕ) (stage : Stage) (has_else : Bool) → Branch
branch line stage has_else = record { line = line; stage = stage; has_else = has_else }

-- what a test comes to decides of the branch behind it
abbrev pub decided_by : {F : Type 0} → (line : ℕ) → List Branch → Result Bool F → Result (List Branch) (Why F)
decided_by line nest (Ok holds) = Ok (branch line (stage_of holds) false ∷ nest)
decided_by line nest (Err fault) = Err (faulty fault)

-- items in front of others
abbrev pub with_front : {I F : Type 0} → List I → Result (List I) (Why F) → Result (List I) (Why F)
with_front front (Ok items) = Ok (front ++ items)
with_front front (Err why) = Err why

-- what comes behind a directive, with what is open then
abbrev pub ThenNest : {I F : Type 0} → Result (List Branch) (Why F) → (List Branch → Result (List I) (Why F) → Type 0) → Result (List I) (Why F) → Type 0
ThenNest (Err why) Rest outcome = outcome ≡ Err why
ThenNest (Ok nest) Rest outcome = Rest nest outcome

-- the end of lines, by what is missing there
abbrev pub at_end : {I F : Type 0} → Option NestFault → Result (List I) (Why F)
at_end None = Ok []
at_end (Some fault) = Err (misplaced fault)

module _ {W T A I F : Type 0} (after : W → List I → W) (Holds : W → T → Result Bool F → Type 0) (One : W → A → Result (List I) F → Type 0) where
  -- a test is asked
  abbrev pub Asks : W → (line : ℕ) → List Branch → T → Result (List Branch) (Why F) → Type 0
  Asks world line nest test told = (holds : Result Bool F) × Holds world test holds × (told ≡ decided_by line nest holds)

  -- in lines that aren't taken no test is asked, and no branch of what begins there is taken
  abbrev pub Opens : (active : Bool) → W → (line : ℕ) → List Branch → T → Result (List Branch) (Why F) → Type 0
  Opens false world line nest test told = told ≡ Ok (branch line Passed false ∷ nest)
  Opens true world line nest test told = Asks world line nest test told

  -- an `else`, by what became of the branches before it
  abbrev pub TurnsTo : Stage → W → (line : ℕ) → List Branch → Option T → Result (List Branch) (Why F) → Type 0
  TurnsTo Waiting world line nest None told = told ≡ Ok (branch line Taken true ∷ nest)
  TurnsTo Waiting world line nest (Some test) told = Asks world line nest test told
  TurnsTo Taken world line nest None told = told ≡ Ok (branch line Passed true ∷ nest)
  TurnsTo Taken world line nest (Some test) told = told ≡ Ok (branch line Passed false ∷ nest)
  TurnsTo Passed world line nest None told = told ≡ Ok (branch line Passed true ∷ nest)
  TurnsTo Passed world line nest (Some test) told = told ≡ Ok (branch line Passed false ∷ nest)

  -- an `else` behind the `else` of the same conditional is refused
  abbrev pub TurnsBehind : (has_else : Bool) → Stage → W → (line : ℕ) → List Branch → Option T → Result (List Branch) (Why F) → Type 0
  TurnsBehind true stage world line nest test told = told ≡ Err (misplaced SecondElse)
  TurnsBehind false stage world line nest test told = TurnsTo stage world line nest test told

  -- what a directive does to the conditionals that are open
  abbrev pub Steps : W → List Branch → (line : ℕ) → Directive T → Result (List Branch) (Why F) → Type 0
  Steps world nest line (Begins test) told = Opens (active nest) world line nest test told
  Steps world [] line (Turns test) told = told ≡ Err (misplaced ExtraneousElse)
  Steps world (b ∷ nest) line (Turns test) told = TurnsBehind b.has_else b.stage world b.line nest test told
  Steps world [] line Ends told = told ≡ Err (misplaced ExtraneousEndif)
  Steps world (b ∷ nest) line Ends told = told ≡ Ok nest

  -- what comes behind a statement, in the world that its items leave
  abbrev pub Then : W → Result (List I) F → (W → Result (List I) (Why F) → Type 0) → Result (List I) (Why F) → Type 0
  Then world (Err fault) Rest outcome = outcome ≡ Err (faulty fault)
  Then world (Ok front) Rest outcome = (rest : Result (List I) (Why F)) × Rest (after world front) rest × (outcome ≡ with_front front rest)

  -- a statement that isn't taken isn't looked at
  abbrev pub TakenOr : (active : Bool) → W → A → (W → Result (List I) (Why F) → Type 0) → Result (List I) (Why F) → Type 0
  TakenOr false world s Rest outcome = Rest world outcome
  TakenOr true world s Rest outcome = (front : Result (List I) F) × One world s front × Then world front Rest outcome

  -- what lines give: the items of those that are taken, or the first fault
  abbrev pub Lines : List Branch → W → List (Line T A) → Result (List I) (Why F) → Type 0
  Lines nest world [] outcome = outcome ≡ at_end (missing nest)
  Lines nest world (directive line d ∷ more) outcome =
      (told : Result (List Branch) (Why F)) × Steps world nest line d told × ThenNest told (λ now. Lines now world more) outcome
  Lines nest world (statement s ∷ more) outcome = TakenOr (active nest) world s (λ now. Lines nest now more) outcome
