-- The calls of a nest are steps, and lines that are read in turn by them give what lines give.
use Rattle.std.proofs.Common.{◌≡◌, ℕ, Bool, true, false, cond, List, [], ◌∷◌, Option, Some, None, Result, Ok, Err, refl, sym, subst}
use Rattle.mk_conditionals.specs.Nest.{active, wants_test, first_branch, turned_if, turned_last, ended}
use Rattle.mk_conditionals.specs.Lines.{Line, directive, statement, Why, faulty, Opens, TurnsTo, TurnsBehind, Steps, with_front, ThenNest, Then, TakenOr, Lines}
use Rattle.mk_conditionals.specs.Machine.{placed, Answered, given, placed_then, answer, stepped, read_in_turn}
use Rattle.mk_conditionals.specs.declared.branch.Branch.{Branch}
use Rattle.mk_conditionals.specs.declared.branch.Stage.{Stage}
use Rattle.mk_conditionals.specs.declared.branch.Stage.TheVariants.{Waiting, Taken, Passed}
use Rattle.mk_conditionals.specs.declared.directive.Directive.{Directive}
use Rattle.mk_conditionals.specs.declared.directive.Directive.TheVariants.{Begins, Turns, Ends}

module _ {W T A I F : Type 0} (after : W → List I → W) (Holds : W → T → Result Bool F → Type 0) (One : W → A → Result (List I) F → Type 0) where
  opens : (t : Bool) (w : W) (line : ℕ) (nest : List Branch) (test : T) (holds : Option Bool) → Answered Holds t w test holds →
      Opens after Holds One t w line nest test (Ok (first_branch line holds ∷ nest))
  opens true w line nest test None h = absurd h
  opens true w line nest test (Some true) h = (Ok true, h, refl)
  opens true w line nest test (Some false) h = (Ok false, h, refl)
  opens false w line nest test None h = refl
  opens false w line nest test (Some holds) h = absurd h

  pub begins_step : (w : W) (nest : List Branch) (line : ℕ) (test : T) (holds : Option Bool) → Answered Holds (active nest) w test holds →
      Steps after Holds One w nest line (Begins test) (Ok (first_branch line holds ∷ nest))
  begins_step w nest line test holds h = opens (active nest) w line nest test holds h

  turns_to : (stage : Stage) (w : W) (line : ℕ) (nest : List Branch) (test : T) (holds : Option Bool) →
      Answered Holds (wants_test (record { line = line; stage = stage; has_else = false } ∷ nest)) w test holds →
      TurnsTo after Holds One stage w line nest (Some test) (Ok (first_branch line holds ∷ nest))
  turns_to Waiting w line nest test None h = absurd h
  turns_to Waiting w line nest test (Some true) h = (Ok true, h, refl)
  turns_to Waiting w line nest test (Some false) h = (Ok false, h, refl)
  turns_to Taken w line nest test None h = refl
  turns_to Taken w line nest test (Some holds) h = absurd h
  turns_to Passed w line nest test None h = refl
  turns_to Passed w line nest test (Some holds) h = absurd h

  turns_behind : (e : Bool) (stage : Stage) (w : W) (line : ℕ) (nest : List Branch) (test : T) (holds : Option Bool) →
      Answered Holds (wants_test (record { line = line; stage = stage; has_else = e } ∷ nest)) w test holds →
      TurnsBehind after Holds One e stage w line nest (Some test) (placed (turned_if (record { line = line; stage = stage; has_else = e } ∷ nest) holds))
  turns_behind true stage w line nest test holds h = refl
  turns_behind false stage w line nest test holds h = turns_to stage w line nest test holds h

  pub turns_step : (w : W) (nest : List Branch) (line : ℕ) (test : T) (holds : Option Bool) → Answered Holds (wants_test nest) w test holds →
      Steps after Holds One w nest line (Turns (Some test)) (placed (turned_if nest holds))
  turns_step w [] line test holds h = refl
  turns_step w (b ∷ nest) line test holds h = turns_behind b.has_else b.stage w b.line nest test holds h

  last_to : (e : Bool) (stage : Stage) (w : W) (line : ℕ) (nest : List Branch) →
      TurnsBehind after Holds One e stage w line nest None (placed (turned_last (record { line = line; stage = stage; has_else = e } ∷ nest)))
  last_to true stage w line nest = refl
  last_to false Waiting w line nest = refl
  last_to false Taken w line nest = refl
  last_to false Passed w line nest = refl

  pub last_step : (w : W) (nest : List Branch) (line : ℕ) → Steps after Holds One w nest line (Turns None) (placed (turned_last nest))
  last_step w [] line = refl
  last_step w (b ∷ nest) line = last_to b.has_else b.stage w b.line nest

  pub ends_step : (w : W) (nest : List Branch) (line : ℕ) → Steps after Holds One w nest line Ends (placed (ended nest))
  ends_step w [] line = refl
  ends_step w (b ∷ nest) line = refl

  pub begins_fault : (w : W) (nest : List Branch) (line : ℕ) (test : T) (fault : F) → active nest ≡ true → Holds w test (Err fault) →
      Steps after Holds One w nest line (Begins test) (Err (faulty fault))
  begins_fault w nest line test fault e h = subst (λ t. Opens after Holds One t w line nest test (Err (faulty fault))) (sym e) (Err fault, h, refl)

  fault_to : (stage : Stage) (e : Bool) (w : W) (line : ℕ) (nest : List Branch) (test : T) (fault : F) →
      wants_test (record { line = line; stage = stage; has_else = e } ∷ nest) ≡ true → Holds w test (Err fault) →
      TurnsBehind after Holds One e stage w line nest (Some test) (Err (faulty fault))
  fault_to Waiting false w line nest test fault e h = (Err fault, h, refl)
  fault_to Waiting true w line nest test fault e h = absurd (cc)
  fault_to Taken e w line nest test fault is h = absurd (cc)
  fault_to Passed e w line nest test fault is h = absurd (cc)

  pub turns_fault : (w : W) (nest : List Branch) (line : ℕ) (test : T) (fault : F) → wants_test nest ≡ true → Holds w test (Err fault) →
      Steps after Holds One w nest line (Turns (Some test)) (Err (faulty fault))
  turns_fault w [] line test fault e h = absurd (cc)
  turns_fault w (b ∷ nest) line test fault e h = fault_to b.stage b.has_else w b.line nest test fault e h

module _ {W T A I F : Type 0} (after : W → List I → W) (holds : W → T → Result Bool F) (one : W → A → Result (List I) F) where
  abbrev Holds : W → T → Result Bool F → Type 0
  Holds w t r = r ≡ holds w t

  abbrev One : W → A → Result (List I) F → Type 0
  One w s r = r ≡ one w s

  begun : (t : Bool) (found : Result Bool F) (w : W) (nest : List Branch) (line : ℕ) (test : T) → active nest ≡ t → holds w test ≡ found →
      Steps after Holds One w nest line (Begins test) (given (cond t (answer found) (Ok None)) (λ is. Ok (first_branch line is ∷ nest)))
  begun true (Ok is) w nest line test e h =
      begins_step after Holds One w nest line test (Some is) (subst (λ t. Answered Holds t w test (Some is)) (sym e) (sym h))
  begun true (Err fault) w nest line test e h = begins_fault after Holds One w nest line test fault e (sym h)
  begun false found w nest line test e h = begins_step after Holds One w nest line test None (subst (λ t. Answered Holds t w test None) (sym e) tt)

  turned : (t : Bool) (found : Result Bool F) (w : W) (nest : List Branch) (line : ℕ) (test : T) → wants_test nest ≡ t → holds w test ≡ found →
      Steps after Holds One w nest line (Turns (Some test)) (given (cond t (answer found) (Ok None)) (λ is. placed (turned_if nest is)))
  turned true (Ok is) w nest line test e h =
      turns_step after Holds One w nest line test (Some is) (subst (λ t. Answered Holds t w test (Some is)) (sym e) (sym h))
  turned true (Err fault) w nest line test e h = turns_fault after Holds One w nest line test fault e (sym h)
  turned false found w nest line test e h = turns_step after Holds One w nest line test None (subst (λ t. Answered Holds t w test None) (sym e) tt)

  stepped_steps : (w : W) (nest : List Branch) (line : ℕ) (d : Directive T) → Steps after Holds One w nest line d (stepped after holds one w nest line d)
  stepped_steps w nest line (Begins test) = begun (active nest) (holds w test) w nest line test refl refl
  stepped_steps w nest line (Turns None) = last_step after Holds One w nest line
  stepped_steps w nest line (Turns (Some test)) = turned (wants_test nest) (holds w test) w nest line test refl refl
  stepped_steps w nest line Ends = ends_step after Holds One w nest line

  placed_rest : (told : Result (List Branch) (Why F)) (rest : List Branch → Result (List I) (Why F)) (Rest : List Branch → Result (List I) (Why F) → Type 0) →
      ((now : List Branch) → Rest now (rest now)) → ThenNest told Rest (placed_then told rest)
  placed_rest (Ok nest) rest Rest h = h nest
  placed_rest (Err why) rest Rest h = refl

  given_rest : (front : Result (List I) F) (w : W) (rest : W → Result (List I) (Why F)) (Rest : W → Result (List I) (Why F) → Type 0) →
      ((now : W) → Rest now (rest now)) → Then after Holds One w front Rest (given front (λ items. with_front items (rest (after w items))))
  given_rest (Ok items) w rest Rest h = (rest (after w items), h (after w items), refl)
  given_rest (Err fault) w rest Rest h = refl

  taken_rest : (t : Bool) (w : W) (s : A) (rest : W → Result (List I) (Why F)) (Rest : W → Result (List I) (Why F) → Type 0) → ((now : W) → Rest now (rest now)) →
      TakenOr after Holds One t w s Rest (cond t (given (one w s) (λ items. with_front items (rest (after w items)))) (rest w))
  taken_rest true w s rest Rest h = (one w s, refl, given_rest (one w s) w rest Rest h)
  taken_rest false w s rest Rest h = h w

  pub in_turn : (lines : List (Line T A)) (nest : List Branch) (w : W) → Lines after Holds One nest w lines (read_in_turn after holds one nest w lines)
  in_turn [] nest w = refl
  in_turn (directive line d ∷ more) nest w = (
    stepped after holds one w nest line d,
    stepped_steps w nest line d,
    placed_rest (stepped after holds one w nest line d) (λ now. read_in_turn after holds one now w more) (λ now. Lines after Holds One now w more) (λ now. in_turn more now w),
  )
  in_turn (statement s ∷ more) nest w =
      taken_rest (active nest) w s (λ now. read_in_turn after holds one nest now more) (λ now. Lines after Holds One nest now more) (λ now. in_turn more nest now)
