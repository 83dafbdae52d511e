-- What a listing fault says of the two sides, and what it leaves in the writer.
use Rattle.std.specs.Prelude.{◌≡◌, ◌⊎◌, ℕ, ◌<◌, List, ◌++◌, length, Option, Result, ⊤, MatchResult}
use Rattle.std.specs.Io.KnownBytes.{Appends, Keeps}
use Rattle.st_disk.specs.declared.which.Which.{Which}
use Rattle.st_file.specs.Side as side_file
use Rattle.st_file.specs.declared.fault.OpenFault.TheVariants as open_faults
use Rattle.st_state.specs.State.{StateMap}
use Rattle.st_listing.specs.Listing.{listing}
use Rattle.st_listing.specs.Read.{Recovers, RefusesWith}
use Rattle.st_listing.specs.declared.listing.ListFault.{ListFault}
use Rattle.st_listing.specs.declared.listing.ListFault.TheVariants as faults

-- an opening fault is that with which the sides are refused, or want of memory; the writer's fault says nothing of them
abbrev pub IsCause : List ℕ → List ℕ → ListFault → Type 0
IsCause a b (faults.Open fault) = RefusesWith a b fault ⊎ (fault ≡ open_faults.OutOfMemory)
IsCause a b faults.Write = ⊤

-- known bytes grow by a beginning of this text, but not by all of it
pub record AppendsPart (old new : Option (List ℕ)) (text : List ℕ) : Type 0 where
  pub front : List ℕ
  pub rest : List ℕ
  pub parts : text ≡ front ++ rest
  pub missing : 0 < length rest
  pub appended : Appends old new front

-- what waited and then this text are what went out and then what waits now
pub record Sends (old new : Option (List ℕ)) (waited waits text : List ℕ) : Type 0 where
  pub front : List ℕ
  pub parts : waited ++ text ≡ front ++ waits
  pub appended : Appends old new front

-- this text was sent; or a part of what waited and of this text went out, and not all of it
abbrev pub SendsOrPart : {T E : Type 0} → Result T E → Option (List ℕ) → Option (List ℕ) → List ℕ → List ℕ → List ℕ → Type 0
SendsOrPart r old new waited waits text =
    MatchResult r (λ _. Sends old new waited waits text) (λ _. AppendsPart old new (waited ++ text))

-- an opening fault comes before the first write; where a write of this text failed, a part of it went out
abbrev pub LeavesText : List ℕ → ListFault → Option (List ℕ) → Option (List ℕ) → Type 0
LeavesText text (faults.Open fault) old new = Keeps old new
LeavesText text faults.Write old new = AppendsPart old new text

-- the same of the listing of the state that the sides recover
abbrev pub LeavesWriter : List ℕ → List ℕ → ListFault → Option (List ℕ) → Option (List ℕ) → Type 0
LeavesWriter a b (faults.Open fault) old new = Keeps old new
LeavesWriter a b faults.Write old new = (m : StateMap) × (Recovers a b m × AppendsPart old new (listing m))

-- a fault of the machine, and not of the two sides
abbrev pub IsOfMachine : ListFault → Type 0
IsOfMachine fault = (fault ≡ faults.Open open_faults.OutOfMemory) ⊎ (fault ≡ faults.Write)

-- the fault is one of this side's bytes
abbrev pub IsOfSide : Which → ListFault → Type 0
IsOfSide side (faults.Open fault) = side_file.IsOfSide side fault
IsOfSide side faults.Write = ⊥
