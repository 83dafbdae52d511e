-- Goals that are cut into parts, and when more is made behind a part. That a failure ends a run without -k is what POSIX make says (its
-- "OPTIONS"); where a part ends is own.
use Rattle.std.specs.Prelude.{◌≡◌, ◌≢◌, ◌⊎◌, ℕ, max, Bool, true, false, List, [], ◌∷◌, ◌++◌, Result, Ok}

-- the goals in parts: all of them are one part, or the first of them are, and those behind these are in parts. No goal is left out, and
-- only where none is named a part has none: by it the makefile's first target is made
pub data AreParts : (goals : List (List ℕ)) → (parts : List (List (List ℕ))) → Type 0 where
  at_once : (goals : List (List ℕ)) → AreParts goals (goals ∷ [])
  in_turn : (first behind : List (List ℕ)) (parts : List (List (List ℕ))) → first ≢ [] → behind ≢ [] → AreParts behind parts →
      AreParts (first ++ behind) (first ∷ parts)

-- more is made behind what has this status: it is no failure, or the run goes on behind one
abbrev pub GoesOn : (goes_on : Bool) (status : ℕ) → Type 0
GoesOn goes_on status = (status ≡ 0) ⊎ (goes_on ≡ true)

-- nothing more is: it is a failure, and the run goes on behind none
abbrev pub EndsRun : (goes_on : Bool) (status : ℕ) → Type 0
EndsRun goes_on status = (status ≢ 0) × (goes_on ≡ false)

-- both have a status, and this is the larger one
pub record Joined {Fault : Type 0} (before behind : Result ℕ Fault) (status : ℕ) : Type 0 where
  pub first : ℕ
  pub second : ℕ
  pub is_first : before ≡ Ok first
  pub is_second : behind ≡ Ok second
  pub larger : status ≡ max second first
