-- The calls of the code are steps of the reading.
use Rattle.std.proofs.Common.{◌≡◌, ◌<◌, length, ℕ, zero, suc, ◌+◌, Bool, List, [], ◌∷◌, drop, map, Option, Some, Result, Err, refl, sym, ap, ◌∙◌, subst, arith}
use Rattle.mk_conditionals.specs.Lines as conditionals
use Rattle.mk_conditionals.specs.Machine.{placed, Answered}
use Rattle.mk_conditionals.specs.Nest.{wants_test, turned_if}
use Rattle.mk_conditionals.specs.Spelled.{Condition}
use Rattle.mk_conditionals.specs.declared.branch.Branch.{Branch}
use Rattle.mk_conditionals.specs.declared.branch.NestFault.{NestFault}
use Rattle.mk_conditionals.specs.declared.directive.Directive.{Directive}
use Rattle.mk_conditionals.specs.declared.directive.Directive.TheVariants.{Turns}
use Rattle.mk_conditionals.proofs.MachineLemmas.{turns_step}
use Rattle.mk_functions.specs.Shown.{fault_of}
use Rattle.mk_functions.specs.Values.{Answers}
use Rattle.mk_functions.specs.declared.fault.Stop.TheVariants as stop
use Rattle.mk_statements.specs.Reading.{Stated, stated}
use Rattle.mk_statements.specs.declared.content.Line.{Line}
use Rattle.mk_variables.specs.Table.{Table}
use Rattle.mk_variables.specs.Statement as tables
use Rattle.mk_variables.specs.declared.fault.Refusal as code_refusal
use Rattle.mk_variables.specs.declared.fault.Refusal.TheVariants as refusal
use Rattle.mk_variables.specs.Shown.{Refuses}
use Rattle.mk_taken.specs.Test.{NoAnswer, has_no_value, is_no_test}
use Rattle.mk_taken.specs.Place.{Place, Step, refuses, Why, conditional, variable, line, Outcome, refused, unended}
use Rattle.mk_taken.specs.Reading.{unchanged, no_statement, Tests}
use Rattle.mk_taken.specs.Reading as reading
use Rattle.mk_taken.specs.Shown.{Unanswered, IsUnturned, OfVariables, Stops, IsRefused}
use Rattle.mk_taken.specs.declared.fault.NoAnswer as code_answer
use Rattle.mk_taken.specs.declared.fault.NoAnswer.TheVariants as answer
use Rattle.mk_taken.specs.declared.fault.Unturned as code_unturned
use Rattle.mk_taken.specs.declared.fault.Unturned.TheVariants as unturned
use Rattle.mk_taken.specs.declared.fault.Why as code_why
use Rattle.mk_taken.specs.declared.fault.Why.TheVariants as why
use Rattle.mk_taken.specs.declared.fault.Refused as code_refused
use Rattle.mk_taken.specs.declared.fault.Refused.TheVariants as end

-- what is told of one thing is told of another
pub unanswered_map : (P Q : NoAnswer → Type 0) → ((it : NoAnswer) → P it → Q it) → (none : code_answer.NoAnswer) → Unanswered P none → Unanswered Q none
unanswered_map P Q f (answer.Stop stop.OutOfMemory) h = tt
unanswered_map P Q f (answer.Stop stop.TakesTooLong) h = tt
unanswered_map P Q f (answer.Stop (stop.Fault fault)) h = f (has_no_value (fault_of fault)) h
unanswered_map P Q f answer.NoTest h = f is_no_test h

pub unturned_map : (P Q : conditionals.Why NoAnswer → Type 0) → ((it : conditionals.Why NoAnswer) → P it → Q it) → (none : code_unturned.Unturned) →
    IsUnturned P none → IsUnturned Q none
unturned_map P Q f (unturned.Test none) h =
    unanswered_map (λ it. P (conditionals.faulty it)) (λ it. Q (conditionals.faulty it)) (λ it p. f (conditionals.faulty it) p) none h
unturned_map P Q f (unturned.Misplaced fault) h = f (conditionals.misplaced fault) h

pub refuses_map : (P Q : tables.Told → Type 0) → ((it : tables.Refusal) → P (Err it) → Q (Err it)) → (none : code_refusal.Refusal) → Refuses P none → Refuses Q none
refuses_map P Q f (refusal.Stop stop.OutOfMemory) h = tt
refuses_map P Q f (refusal.Stop stop.TakesTooLong) h = tt
refuses_map P Q f (refusal.Stop (stop.Fault fault)) h = f (tables.has_fault (fault_of fault)) h
refuses_map P Q f refusal.NoName h = f tables.has_no_name h

pub stops_map : (P Q : Why → Type 0) → ((it : Why) → P it → Q it) → (none : code_why.Why) → Stops P none → Stops Q none
stops_map P Q f (why.Conditional none) h = unturned_map (λ it. P (conditional it)) (λ it. Q (conditional it)) (λ it p. f (conditional it) p) none h
stops_map P Q f (why.Variables none) h = refuses_map (OfVariables P) (OfVariables Q) (λ it p. f (variable it) p) none h
stops_map P Q f (why.Line fault) h = f (line fault) h

pub turns : (w : Answers) (table : Table) (nest : List Branch) (number : ℕ) (test : Condition) (holds : Option Bool) (told : Result (List Branch) NestFault) →
    Answered (Tests w table) (wants_test nest) tt test holds → turned_if nest holds ≡ told → reading.Turns w table nest number (Turns (Some test)) (placed told)
turns w table nest number test holds told h is =
    subst (λ t. reading.Turns w table nest number (Turns (Some test)) (placed t)) is
    (turns_step unchanged (Tests w table) no_statement tt nest number test holds h)

pub undirected : (w : Answers) (place : Place) (number : ℕ) (d : Directive Condition) (none : code_unturned.Unturned) →
    IsUnturned (λ it. reading.Turns w place.table place.nest number d (Err it)) none →
    Stops (λ it. reading.Directs w place number d (refuses it)) (why.Conditional none)
undirected w place number d none h =
    unturned_map (λ it. reading.Turns w place.table place.nest number d (Err it)) (λ it. reading.Directs w place number d (refuses (conditional it)))
    (λ it p. (Err it, p, refl)) none h

-- a statement that is refused ends the reading
pub stopped : (w : Answers) (place : Place) (s : Stated) (none : code_why.Why) → Stops (λ it. reading.Takes w place s (refuses it)) none → (more : List Stated) →
    IsRefused (reading.Reads w (s ∷ more) place) (end.At s.line none)
stopped w place s none h more =
    stops_map (λ it. reading.Takes w place s (refuses it)) (λ it. reading.Reads w (s ∷ more) place (refused s.line it)) (λ it p. (refuses it, p, refl)) none h

pub refused_map : (P Q : Outcome → Type 0) → ((it : Outcome) → P it → Q it) → (none : code_refused.Refused) → IsRefused P none → IsRefused Q none
refused_map P Q f (end.At number it) h = stops_map (λ it. P (refused number it)) (λ it. Q (refused number it)) (λ it p. f (refused number it) p) it h
refused_map P Q f (end.Unended fault) h = f (unended fault) h

behind-drop : {A : Type 0} (n : ℕ) (xs ys : List A) (x : A) → drop n xs ≡ x ∷ ys → drop (suc n) xs ≡ ys
behind-drop zero xs ys x is = ap (drop 1) is
behind-drop (suc n) [] ys x is = absurd (cc is)
behind-drop (suc n) (y ∷ xs) ys x is = behind-drop n xs ys x is

-- and are fewer than all
pub fewer_behind : {A : Type 0} (n : ℕ) (xs ys : List A) (x : A) → drop n xs ≡ x ∷ ys → length ys < length xs
fewer_behind zero xs ys x is = let count : length xs ≡ length (x ∷ ys) = ap length is in omega arith
fewer_behind (suc n) [] ys x is = absurd (cc is)
fewer_behind (suc n) (y ∷ xs) ys x is = let fewer : length ys < length xs = fewer_behind n xs ys x is in omega arith

-- the lines behind a place are those behind the line that stands there
pub behind_place : {A : Type 0} (n : ℕ) (xs ys : List A) (x : A) → drop n xs ≡ x ∷ ys → drop (n + 1) xs ≡ ys
behind_place n xs ys x is = let next : n + 1 ≡ suc n = omega arith in ap (λ m. drop m xs) next ∙ behind-drop n xs ys x is

-- reading goes on behind a statement
pub next : (w : Answers) (place : Place) (it left : List Line) (s : Line) → it ≡ s ∷ left → (step : Step) (outcome : Outcome) → reading.Takes w place (stated s) step →
    reading.Then s.number (map stated left) (reading.Reads w (map stated left)) step outcome → reading.Reads w (map stated it) place outcome
next w place it left s is step outcome h rest = subst (λ ls. reading.Reads w (map stated ls) place outcome) (sym is) (step, h, rest)
