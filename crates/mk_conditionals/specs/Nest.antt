-- Conditionals that are open, the innermost first, and how they change (GNU make manual, "Syntax of Conditionals").
use Rattle.std.specs.Prelude.{◌≡◌, ℕ, Bool, true, false, not, ◌&&◌, List, [], ◌∷◌, reverse, Option, Some, None, Result, Ok, Err, if◌then◌else◌}
use Rattle.mk_conditionals.specs.declared.branch.Branch.{Branch}
use Rattle.mk_conditionals.specs.declared.branch.Stage.{Stage}
use Rattle.mk_conditionals.specs.declared.branch.Stage.TheVariants.{Waiting, Taken, Passed}
use Rattle.mk_conditionals.specs.declared.branch.NestFault.{NestFault}
use Rattle.mk_conditionals.specs.declared.branch.NestFault.TheVariants.{ExtraneousElse, ExtraneousEndif, SecondElse, MissingEndif}

abbrev pub is_taken : Stage → Bool
is_taken Waiting = false
is_taken Taken = true
is_taken Passed = false

abbrev pub is_waiting : Stage → Bool
is_waiting Waiting = true
is_waiting Taken = false
is_waiting Passed = false

-- lines count where each conditional that is open takes them
abbrev pub active : List Branch → Bool
active [] = true
active (b ∷ bs) = is_taken b.stage && active bs

-- the test behind an `else` is asked where no branch was taken yet, and this one may be
abbrev pub wants_test : List Branch → Bool
wants_test [] = false
wants_test (b ∷ bs) = is_waiting b.stage && not b.has_else

-- a test that wasn't asked lets no branch be taken
abbrev pub stage_behind : (holds : Option Bool) → Stage
stage_behind (Some true) = Taken
stage_behind (Some false) = Waiting
stage_behind None = Passed

abbrev pub first_branch : (line : ℕ) → (holds : Option Bool) → Branch
first_branch line holds = record { line = line; stage = stage_behind holds; has_else = false }

-- `else` takes its lines where no branch was taken before
abbrev pub stage_at_last : Stage → Stage
stage_at_last Waiting = Taken
stage_at_last Taken = Passed
stage_at_last Passed = Passed

abbrev pub last_branch : Branch → Branch
last_branch b = record { line = b.line; stage = stage_at_last b.stage; has_else = true }

-- the branch behind which an `else` may come
abbrev pub turned_from : List Branch → Result Branch NestFault
turned_from [] = Err ExtraneousElse
turned_from (b ∷ bs) = if b.has_else then Err SecondElse else Ok b

-- `else` with a test, by what that came to where it was asked
abbrev pub turned_if : List Branch → (holds : Option Bool) → Result (List Branch) NestFault
turned_if [] holds = Err ExtraneousElse
turned_if (b ∷ bs) holds = if b.has_else then Err SecondElse else Ok (first_branch b.line holds ∷ bs)

-- `else` without one
abbrev pub turned_last : List Branch → Result (List Branch) NestFault
turned_last [] = Err ExtraneousElse
turned_last (b ∷ bs) = if b.has_else then Err SecondElse else Ok (last_branch b ∷ bs)

abbrev pub ended : List Branch → Result (List Branch) NestFault
ended [] = Err ExtraneousEndif
ended (b ∷ bs) = Ok bs

-- what is missing at the end of a text (GNU make names the text's last line, ours the one in which the innermost conditional begins: own)
abbrev pub missing : List Branch → Option NestFault
missing [] = None
missing (b ∷ bs) = Some (MissingEndif b.line)

-- what a call did is what was to be done; at a fault it did nothing
abbrev pub Changes : (old new : List Branch) → Result (Unit {0}) NestFault → (told : Result (List Branch) NestFault) → Type 0
Changes old new (Ok _) told = told ≡ Ok new
Changes old new (Err fault) told = (told ≡ Err fault) × (new ≡ old)

-- a conditional takes lines, or may yet, only where those round it take them
abbrev pub AreNested : List Branch → Type 0
AreNested [] = Unit {0}
AreNested (b ∷ bs) = (is_taken b.stage ≡ true → active bs ≡ true) × (is_waiting b.stage ≡ true → active bs ≡ true) × AreNested bs

-- the innermost conditional stands apart, and the outermost of the others first
abbrev pub nest_of : Option Branch → List Branch → List Branch
nest_of None outer = []
nest_of (Some b) outer = b ∷ reverse outer

abbrev pub IsNest : Option Branch → List Branch → Type 0
IsNest None outer = outer ≡ []
IsNest (Some b) outer = AreNested (b ∷ reverse outer)
