-- Lines have one outcome, where tests and statements have.
use Rattle.std.proofs.Common.{◌≡◌, ℕ, Bool, true, false, List, [], ◌∷◌, Option, Some, None, Result, Ok, Err, refl, sym, ap, subst, ◌∙◌}
use Rattle.mk_conditionals.specs.Nest.{active, missing}
use Rattle.mk_conditionals.specs.Lines.{Line, directive, statement, Why, faulty, misplaced, branch, decided_by, Asks, Opens, TurnsTo, TurnsBehind, Steps, with_front, ThenNest, Then, TakenOr, at_end, Lines}
use Rattle.mk_conditionals.specs.declared.branch.Branch.{Branch}
use Rattle.mk_conditionals.specs.declared.branch.Stage.{Stage}
use Rattle.mk_conditionals.specs.declared.branch.Stage.TheVariants.{Waiting, Taken, Passed}
use Rattle.mk_conditionals.specs.declared.branch.NestFault.TheVariants.{ExtraneousElse, ExtraneousEndif, SecondElse}
use Rattle.mk_conditionals.specs.declared.directive.Directive.{Directive}
use Rattle.mk_conditionals.specs.declared.directive.Directive.TheVariants.{Begins, Turns, Ends}

module _ {W T A I F : Type 0} (after : W → List I → W) (Holds : W → T → Result Bool F → Type 0) (One : W → A → Result (List I) F → Type 0) where
  module _ (one_test : (w : W) (t : T) (a b : Result Bool F) → Holds w t a → Holds w t b → a ≡ b)
      (one_front : (w : W) (s : A) (a b : Result (List I) F) → One w s a → One w s b → a ≡ b) where
    asks_once : (w : W) (line : ℕ) (nest : List Branch) (test : T) (a b : Result (List Branch) (Why F)) → Asks after Holds One w line nest test a → Asks after Holds One w line nest test b → a ≡ b
    asks_once w line nest test a b x y = x.2 ∙ ap (decided_by line nest) (one_test w test x.0 y.0 x.1 y.1) ∙ sym y.2

    opens_once : (t : Bool) (w : W) (line : ℕ) (nest : List Branch) (test : T) (a b : Result (List Branch) (Why F)) → Opens after Holds One t w line nest test a → Opens after Holds One t w line nest test b → a ≡ b
    opens_once false w line nest test a b x y = x ∙ sym y
    opens_once true w line nest test a b x y = asks_once w line nest test a b x y

    turns_to_once : (s : Stage) (w : W) (line : ℕ) (nest : List Branch) (test : Option T) (a b : Result (List Branch) (Why F)) → TurnsTo after Holds One s w line nest test a → TurnsTo after Holds One s w line nest test b → a ≡ b
    turns_to_once Waiting w line nest None a b x y = x ∙ sym y
    turns_to_once Waiting w line nest (Some test) a b x y = asks_once w line nest test a b x y
    turns_to_once Taken w line nest None a b x y = x ∙ sym y
    turns_to_once Taken w line nest (Some test) a b x y = x ∙ sym y
    turns_to_once Passed w line nest None a b x y = x ∙ sym y
    turns_to_once Passed w line nest (Some test) a b x y = x ∙ sym y

    turns_once : (e : Bool) (s : Stage) (w : W) (line : ℕ) (nest : List Branch) (test : Option T) (a b : Result (List Branch) (Why F)) → TurnsBehind after Holds One e s w line nest test a → TurnsBehind after Holds One e s w line nest test b → a ≡ b
    turns_once true s w line nest test a b x y = x ∙ sym y
    turns_once false s w line nest test a b x y = turns_to_once s w line nest test a b x y

    pub steps_once : (w : W) (nest : List Branch) (line : ℕ) (d : Directive T) (a b : Result (List Branch) (Why F)) → Steps after Holds One w nest line d a → Steps after Holds One w nest line d b → a ≡ b
    steps_once w nest line (Begins test) a b x y = opens_once (active nest) w line nest test a b x y
    steps_once w [] line (Turns test) a b x y = x ∙ sym y
    steps_once w (one ∷ nest) line (Turns test) a b x y = turns_once one.has_else one.stage w one.line nest test a b x y
    steps_once w [] line Ends a b x y = x ∙ sym y
    steps_once w (one ∷ nest) line Ends a b x y = x ∙ sym y

    abbrev Once : (W → Result (List I) (Why F) → Type 0) → Type 0
    Once Rest = (w : W) (a b : Result (List I) (Why F)) → Rest w a → Rest w b → a ≡ b

    then_once : (w : W) (front : Result (List I) F) (Rest : W → Result (List I) (Why F) → Type 0) → Once Rest → (a b : Result (List I) (Why F)) → Then after Holds One w front Rest a → Then after Holds One w front Rest b → a ≡ b
    then_once w (Err fault) Rest once a b x y = x ∙ sym y
    then_once w (Ok front) Rest once a b x y = x.2 ∙ ap (with_front front) (once (after w front) x.0 y.0 x.1 y.1) ∙ sym y.2

    taken_once : (t : Bool) (w : W) (s : A) (Rest : W → Result (List I) (Why F) → Type 0) → Once Rest → (a b : Result (List I) (Why F)) → TakenOr after Holds One t w s Rest a → TakenOr after Holds One t w s Rest b → a ≡ b
    taken_once false w s Rest once a b x y = once w a b x y
    taken_once true w s Rest once a b x y =
        then_once w x.0 Rest once a b x.2 (subst (λ f. Then after Holds One w f Rest b) (one_front w s y.0 x.0 y.1 x.1) y.2)

    nest_once : (told : Result (List Branch) (Why F)) (Rest : List Branch → Result (List I) (Why F) → Type 0) →
        ((nest : List Branch) (a b : Result (List I) (Why F)) → Rest nest a → Rest nest b → a ≡ b) → (a b : Result (List I) (Why F)) →
        ThenNest told Rest a → ThenNest told Rest b → a ≡ b
    nest_once (Err why) Rest once a b x y = x ∙ sym y
    nest_once (Ok nest) Rest once a b x y = once nest a b x y

    pub lines_once : (lines : List (Line T A)) (nest : List Branch) (w : W) (a b : Result (List I) (Why F)) → Lines after Holds One nest w lines a → Lines after Holds One nest w lines b → a ≡ b
    lines_once [] nest w a b x y = x ∙ sym y
    lines_once (directive line d ∷ more) nest w a b x y =
        nest_once x.0 (λ now. Lines after Holds One now w more) (λ now one other p q. lines_once more now w one other p q) a b x.2
        (subst (λ told. ThenNest told (λ now. Lines after Holds One now w more) b) (steps_once w nest line d y.0 x.0 y.1 x.1) y.2)
    lines_once (statement s ∷ more) nest w a b x y =
        taken_once (active nest) w s (λ now. Lines after Holds One nest now more) (λ now one other p q. lines_once more nest now one other p q) a b x y

  module _ (a_test : (w : W) (t : T) → (r : Result Bool F) × Holds w t r) (a_front : (w : W) (s : A) → (r : Result (List I) F) × One w s r) where
    abbrev HasStep : W → List Branch → ℕ → Directive T → Type 0
    HasStep w nest line d = (r : Result (List Branch) (Why F)) × Steps after Holds One w nest line d r

    asks_some : (w : W) (line : ℕ) (nest : List Branch) (test : T) → (r : Result (List Branch) (Why F)) × Asks after Holds One w line nest test r
    asks_some w line nest test = let h = a_test w test in (decided_by line nest h.0, (h.0, h.1, refl))

    opens_some : (t : Bool) (w : W) (line : ℕ) (nest : List Branch) (test : T) → (r : Result (List Branch) (Why F)) × Opens after Holds One t w line nest test r
    opens_some false w line nest test = (Ok (branch line Passed false ∷ nest), refl)
    opens_some true w line nest test = asks_some w line nest test

    turns_to_some : (s : Stage) (w : W) (line : ℕ) (nest : List Branch) (test : Option T) → (r : Result (List Branch) (Why F)) × TurnsTo after Holds One s w line nest test r
    turns_to_some Waiting w line nest None = (Ok (branch line Taken true ∷ nest), refl)
    turns_to_some Waiting w line nest (Some test) = asks_some w line nest test
    turns_to_some Taken w line nest None = (Ok (branch line Passed true ∷ nest), refl)
    turns_to_some Taken w line nest (Some test) = (Ok (branch line Passed false ∷ nest), refl)
    turns_to_some Passed w line nest None = (Ok (branch line Passed true ∷ nest), refl)
    turns_to_some Passed w line nest (Some test) = (Ok (branch line Passed false ∷ nest), refl)

    turns_some : (e : Bool) (s : Stage) (w : W) (line : ℕ) (nest : List Branch) (test : Option T) → (r : Result (List Branch) (Why F)) × TurnsBehind after Holds One e s w line nest test r
    turns_some true s w line nest test = (Err (misplaced SecondElse), refl)
    turns_some false s w line nest test = turns_to_some s w line nest test

    pub steps_some : (w : W) (nest : List Branch) (line : ℕ) (d : Directive T) → HasStep w nest line d
    steps_some w nest line (Begins test) = opens_some (active nest) w line nest test
    steps_some w [] line (Turns test) = (Err (misplaced ExtraneousElse), refl)
    steps_some w (one ∷ nest) line (Turns test) = turns_some one.has_else one.stage w one.line nest test
    steps_some w [] line Ends = (Err (misplaced ExtraneousEndif), refl)
    steps_some w (one ∷ nest) line Ends = (Ok nest, refl)

    then_some : (w : W) (front : Result (List I) F) (Rest : W → Result (List I) (Why F) → Type 0) → ((now : W) → (r : Result (List I) (Why F)) × Rest now r) → (r : Result (List I) (Why F)) × Then after Holds One w front Rest r
    then_some w (Err fault) Rest some = (Err (faulty fault), refl)
    then_some w (Ok front) Rest some = let rest = some (after w front) in (with_front front rest.0, (rest.0, rest.1, refl))

    taken_some : (t : Bool) (w : W) (s : A) (Rest : W → Result (List I) (Why F) → Type 0) → ((now : W) → (r : Result (List I) (Why F)) × Rest now r) → (r : Result (List I) (Why F)) × TakenOr after Holds One t w s Rest r
    taken_some false w s Rest some = some w
    taken_some true w s Rest some = let front = a_front w s in let then = then_some w front.0 Rest some in (then.0, (front.0, front.1, then.1))

    nest_some : (told : Result (List Branch) (Why F)) (Rest : List Branch → Result (List I) (Why F) → Type 0) → ((now : List Branch) → (r : Result (List I) (Why F)) × Rest now r) → (r : Result (List I) (Why F)) × ThenNest told Rest r
    nest_some (Err why) Rest some = (Err why, refl)
    nest_some (Ok nest) Rest some = some nest

    pub lines_some : (lines : List (Line T A)) (nest : List Branch) (w : W) → (r : Result (List I) (Why F)) × Lines after Holds One nest w lines r
    lines_some [] nest w = (at_end (missing nest), refl)
    lines_some (directive line d ∷ more) nest w =
        let step = steps_some w nest line d in
        let rest = nest_some step.0 (λ now. Lines after Holds One now w more) (λ now. lines_some more now w) in
        (rest.0, (step.0, step.1, rest.1))
    lines_some (statement s ∷ more) nest w = taken_some (active nest) w s (λ now. Lines after Holds One nest now more) (λ now. lines_some more nest now)
