-- What one worker has read from the pool of tokens, and what it has given back.
use Rattle.std.specs.Prelude.{◌≡◌, ℕ, ◌<◌, ◌≤◌, ◌⊎◌, Bool, true, false, List, [], ◌∷◌, ◌++◌, length, Result, Ok, Err}
use Rattle.jb_slots.specs.declared.fault.BankFault.{BankFault}
use Rattle.jb_slots.specs.declared.bank.Taken.{Taken}
use Rattle.jb_slots.specs.declared.bank.Taken.TheVariants as taken

-- one worker's end of the pool: the bytes that were read, in order, and those that were given back; how many bytes
-- each of the two lists has room for; whether nothing more is read; whether a call answered a fault
pub record EndState : Type 0 where
  pub read : List ℕ
  pub given : List ℕ
  pub room : ℕ
  pub ended : Bool
  pub faulted : Bool

-- an end before its first call
abbrev pub fresh : (room : ℕ) → EndState
fresh room = record { read = []; given = []; room = room; ended = false; faulted = false }

-- the end is done with reading, or has no room to note one more byte
abbrev pub ReadsNoMore : EndState → Type 0
ReadsNoMore s = (s.ended ≡ true) ⊎ (s.room ≤ length s.read)

-- after `take`: a byte is noted; a look that found nothing leaves no trace; after anything else nothing more is read
abbrev pub after_take : EndState → Result Taken BankFault → EndState
after_take s (Ok (taken.Token token)) = record s { read = s.read ++ token ∷ [] }
after_take s (Ok taken.NothingNow) = s
after_take s (Ok taken.End) = record s { ended = true }
after_take s (Err fault) = record s { ended = true; faulted = true }

-- after `give`: the byte is given back; after a fault it isn't, and nothing more is read (own)
abbrev pub after_give : EndState → ℕ → Result (Unit {0}) BankFault → EndState
after_give s token (Ok done) = record s { given = s.given ++ token ∷ [] }
after_give s token (Err fault) = record s { ended = true; faulted = true }

-- what was given back is what was read, or all of it but the last byte
-- (GNU Make manual, "POSIX Jobserver Interaction": each token goes back, and the same character that was read)
abbrev pub ReturnsTokens : (read given : List ℕ) → Type 0
ReturnsTokens read given = (given ≡ read) ⊎ ((last : ℕ) × (read ≡ given ++ last ∷ []))

-- the end reads when it is asked
abbrev pub MayRead : EndState → Type 0
MayRead s = (s.ended ≡ false) × (length s.read < s.room)
