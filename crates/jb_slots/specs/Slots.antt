-- What taking and giving back a job slot does to the worker's end of the pool. A slot is seen as the byte that it was
-- taken with, or None: the implicit one.
use Rattle.std.specs.Prelude.{◌≡◌, ◌⊎◌, ℕ, Option, Some, None, Result, Ok, Err, IsOk}
use Rattle.jb_slots.specs.declared.fault.BankFault.{BankFault}
use Rattle.jb_slots.specs.declared.bank.Taken.TheVariants as taken
use Rattle.jb_slots.specs.declared.slots.Hold.{Hold}
use Rattle.jb_slots.specs.declared.slots.Hold.TheVariants.{Implicit, Token}
use Rattle.jb_slots.specs.Tokens.{EndState, ReadsNoMore, after_take, after_give}

-- the byte that a slot was taken with
abbrev pub token_of : Hold → Option ℕ
token_of (Implicit slot) = None
token_of (Token token) = Some token

-- a slot was taken: for a byte that was read, or the implicit one, with the end left alone or after a take that gave no
-- byte
abbrev pub Acquires : (old new : EndState) (slot : Option ℕ) → Type 0
Acquires old new (Some token) = (ReadsNoMore old → ⊥) × (new ≡ after_take old (Ok (taken.Token token)))
Acquires old new None =
    (new ≡ old) ⊎ (new ≡ after_take old (Ok taken.End)) ⊎ ((fault : BankFault) × (new ≡ after_take old (Err fault)))

-- a slot was given back: for the implicit one nothing is written, for another one the byte that it was taken with
abbrev pub Releases : (old new : EndState) (slot : Option ℕ) → Result (Unit {0}) BankFault → Type 0
Releases old new None answer = IsOk answer × (new ≡ old)
Releases old new (Some token) answer = new ≡ after_give old token answer

-- what one worker may have made of its end: it takes a slot only while it holds none, and gives back the one that it
-- holds. `held` is that slot, where there is one
pub data HasUsed (start : EndState) : (now : EndState) (held : Option (Option ℕ)) → Type 0 where
  nothing_yet : HasUsed start start None
  took : {before now : EndState} {slot : Option ℕ} →
      HasUsed start before None → Acquires before now slot → HasUsed start now (Some slot)
  gave_back : {before now : EndState} {slot : Option ℕ} (answer : Result (Unit {0}) BankFault) →
      HasUsed start before (Some slot) → Releases before now slot answer → HasUsed start now None
