-- What a text comes to, piece by piece from the left (GNU make manual, "How make Reads a Makefile", "Basics of Variable References" and "Function Call Syntax").
use Rattle.std.specs.Prelude.{◌≡◌, ℕ, ◌≤◌, ◌<◌, true, false, List, [], ◌++◌, length, Some, None}
use Rattle.mk_pieces.specs.Piece.{Piece, front}
use Rattle.mk_functions.specs.Variables.{Variables}
use Rattle.mk_functions.specs.Scope.{Site, outermost, Entry, inside, is_too_deep, called_name}
use Rattle.mk_functions.specs.Outcome.{Outcome, gives, fails, Fault, too_long, too_deep, limit}
use Rattle.mk_functions.specs.Values.{Answers}
use Rattle.mk_functions.specs.Steps.{State, Step, asks, answers, piece_step, resumed}

mutual
  -- the outcome of a text, behind the bytes that were made of what stood before it
  pub data Expands (w : Answers) (variables : Variables) : (site : Site) (made text : List ℕ) → Outcome → Type 0 where
    ends : {site : Site} {made text : List ℕ} → front text ≡ None → Expands w variables site made text (gives made)
    goes_on : {site : Site} {made text : List ℕ} {outcome : Outcome} (piece : Piece) (rest added : List ℕ) →
        front text ≡ Some (piece, rest) → ComesTo w variables site (piece_step w variables site piece) (gives added) → length (made ++ added) ≤ limit →
        Expands w variables site (made ++ added) rest outcome → Expands w variables site made text outcome
    is_long : {site : Site} {made text : List ℕ} (piece : Piece) (rest added : List ℕ) →
        front text ≡ Some (piece, rest) → ComesTo w variables site (piece_step w variables site piece) (gives added) → limit < length (made ++ added) →
        Expands w variables site made text (fails too_long)
    meets_fault : {site : Site} {made text : List ℕ} (piece : Piece) (rest : List ℕ) (fault : Fault) →
        front text ≡ Some (piece, rest) → ComesTo w variables site (piece_step w variables site piece) (fails fault) →
        Expands w variables site made text (fails fault)

  -- the outcome of a piece, from a step on
  pub data ComesTo (w : Answers) (variables : Variables) : (site : Site) → Step → Outcome → Type 0 where
    has_answer : {site : Site} {outcome : Outcome} → ComesTo w variables site (answers outcome) outcome
    is_resumed : {site : Site} {entry : Entry} {text : List ℕ} {state : State} {outcome : Outcome} (value : List ℕ) →
        is_too_deep entry site ≡ false → Expands w variables (inside entry site) [] text (gives value) →
        ComesTo w variables site (resumed w variables site state value) outcome →
        ComesTo w variables site (asks entry text state) outcome
    is_stopped : {site : Site} {entry : Entry} {text : List ℕ} {state : State} (fault : Fault) →
        is_too_deep entry site ≡ false → Expands w variables (inside entry site) [] text (fails fault) →
        ComesTo w variables site (asks entry text state) (fails fault)
    is_deep : {site : Site} {entry : Entry} {text : List ℕ} {state : State} →
        is_too_deep entry site ≡ true → ComesTo w variables site (asks entry text state) (fails (too_deep (called_name entry)))

-- the outcome of a text round which nothing is expanded
abbrev pub ExpandsTo : Answers → Variables → (text : List ℕ) → Outcome → Type 0
ExpandsTo w variables text outcome = Expands w variables outermost [] text outcome
