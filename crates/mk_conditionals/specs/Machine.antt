-- The calls of a nest, as the lines that a caller reads in turn ask for them.
use Rattle.std.specs.Prelude.{ℕ, Bool, true, false, List, [], ◌∷◌, Option, Some, None, Result, Ok, Err, if◌then◌else◌}
use Rattle.mk_conditionals.specs.Nest.{active, wants_test, first_branch, turned_if, turned_last, ended, missing}
use Rattle.mk_conditionals.specs.Lines.{Line, directive, statement, Why, faulty, misplaced, with_front, at_end}
use Rattle.mk_conditionals.specs.declared.branch.Branch.{Branch}
use Rattle.mk_conditionals.specs.declared.branch.NestFault.{NestFault}
use Rattle.mk_conditionals.specs.declared.directive.Directive.{Directive}
use Rattle.mk_conditionals.specs.declared.directive.Directive.TheVariants.{Begins, Turns, Ends}

-- what a call of a nest answers, as lines tell it
abbrev pub placed : {A F : Type 0} → Result A NestFault → Result A (Why F)
placed (Ok nest) = Ok nest
placed (Err fault) = Err (misplaced fault)

-- the answer to a test that was asked where it is wanted, and nowhere else
abbrev pub Answered : {W T F : Type 0} → (W → T → Result Bool F → Type 0) → (wanted : Bool) → W → T → Option Bool → Type 0
Answered Holds true world test (Some holds) = Holds world test (Ok holds)
Answered Holds true world test None = ⊥
Answered Holds false world test (Some holds) = ⊥
Answered Holds false world test None = Unit {0}

-- what comes behind a test or a statement, unless that is refused
abbrev pub given : {X Y G : Type 0} → Result X G → (X → Result Y (Why G)) → Result Y (Why G)
given (Ok x) rest = rest x
given (Err fault) rest = Err (faulty fault)

-- what comes behind a directive, unless it is refused
abbrev pub placed_then : {X Y G : Type 0} → Result X (Why G) → (X → Result Y (Why G)) → Result Y (Why G)
placed_then (Ok x) rest = rest x
placed_then (Err why) rest = Err why

-- a test that was asked
abbrev pub answer : {F : Type 0} → Result Bool F → Result (Option Bool) F
answer (Ok is) = Ok (Some is)
answer (Err fault) = Err fault

module _ {W T A I F : Type 0} (after : W → List I → W) (holds : W → T → Result Bool F) (one : W → A → Result (List I) F) where
  -- a test is asked where it is wanted
  abbrev pub asked : (wanted : Bool) → W → T → Result (Option Bool) F
  asked wanted world test = if wanted then answer (holds world test) else Ok None

  -- the call that a directive asks for
  abbrev pub stepped : W → List Branch → (line : ℕ) → Directive T → Result (List Branch) (Why F)
  stepped world nest line (Begins test) = given (asked (active nest) world test) (λ holds. Ok (first_branch line holds ∷ nest))
  stepped world nest line (Turns None) = placed (turned_last nest)
  stepped world nest line (Turns (Some test)) = given (asked (wants_test nest) world test) (λ holds. placed (turned_if nest holds))
  stepped world nest line Ends = placed (ended nest)

  -- lines read in turn, with a nest that changes by its calls
  abbrev pub read_in_turn : List Branch → W → List (Line T A) → Result (List I) (Why F)
  read_in_turn nest world [] = at_end (missing nest)
  read_in_turn nest world (directive line d ∷ more) = placed_then (stepped world nest line d) (λ now. read_in_turn now world more)
  read_in_turn nest world (statement s ∷ more) =
      if active nest then given (one world s) (λ front. with_front front (read_in_turn nest (after world front) more)) else read_in_turn nest world more
