-- What one worker owes the pool, call after call.
use Rattle.std.proofs.Common.{◌≡◌, ◌⊎◌, inl, inr, ℕ, List, [], ◌∷◌, ◌++◌, true, false, Option, Some, None, Result, Ok, Err, refl, sym, ap, subst}
use Rattle.jb_slots.specs.declared.fault.BankFault.{BankFault}
use Rattle.jb_slots.specs.Tokens.{EndState, ReturnsTokens}
use Rattle.jb_slots.specs.Slots.{Acquires, Releases, HasUsed, nothing_yet, took, gave_back}

-- all was given back but the last byte, and the end reads no more after a fault
abbrev pub LacksLast : EndState → Type 0
LacksLast s = (s.ended ≡ true) × (s.faulted ≡ true) × ((last : ℕ) × (s.read ≡ s.given ++ last ∷ []))

-- between two calls the last byte is the slot's, or nothing lacks, or the last byte was lost in a fault
abbrev pub Owes : EndState → Option (Option ℕ) → Type 0
Owes s None = (s.given ≡ s.read) ⊎ LacksLast s
Owes s (Some None) = (s.given ≡ s.read) ⊎ LacksLast s
Owes s (Some (Some token)) = s.read ≡ s.given ++ token ∷ []

still_owes-ended : (s : EndState) → (s.given ≡ s.read) ⊎ LacksLast s → let t : EndState = record s { ended = true } in (t.given ≡ t.read) ⊎ LacksLast t
still_owes-ended s (inl all) = inl all
still_owes-ended s (inr lacks) = inr (refl, lacks.1, lacks.2)

still_owes-fault : (s : EndState) → (s.given ≡ s.read) ⊎ LacksLast s → let t : EndState = record s { ended = true; faulted = true } in (t.given ≡ t.read) ⊎ LacksLast t
still_owes-fault s (inl all) = inl all
still_owes-fault s (inr lacks) = inr (refl, refl, lacks.2)

-- a slot for a byte is taken only where nothing lacks
took-owes : (before now : EndState) (slot : Option ℕ) → Owes before None → Acquires before now slot → Owes now (Some slot)
took-owes before now None owes (inl same) = let P : EndState → Type 0 = λ s. Owes s (Some None) in subst P (sym same) owes
took-owes before now None owes (inr (inl same)) = let P : EndState → Type 0 = λ s. Owes s (Some None) in subst P (sym same) (still_owes-ended before owes)
took-owes before now None owes (inr (inr (fault, same))) = let P : EndState → Type 0 = λ s. Owes s (Some None) in subst P (sym same) (still_owes-fault before owes)
took-owes before now (Some token) (inl all) (may_read, same) =
    let P : EndState → Type 0 = λ s. Owes s (Some (Some token)) in subst P (sym same) (ap (λ (xs : List ℕ). xs ++ token ∷ []) (sym all))
took-owes before now (Some token) (inr lacks) (may_read, same) = absurd (may_read (inl lacks.0))

gave_back-owes : (before now : EndState) (slot : Option ℕ) (answer : Result (Unit {0}) BankFault) → Owes before (Some slot) → Releases before now slot answer → Owes now None
gave_back-owes before now None answer owes (ok, same) = let P : EndState → Type 0 = λ s. Owes s None in subst P (sym same) owes
gave_back-owes before now (Some token) (Ok done) owes same =
    let P : EndState → Type 0 = λ s. Owes s None in subst P (sym same) (inl (sym owes))
gave_back-owes before now (Some token) (Err fault) owes same =
    let P : EndState → Type 0 = λ s. Owes s None in subst P (sym same) (inr (refl, refl, (token, owes)))

all_given : (s : EndState) → s.given ≡ s.read → Owes s None
all_given s all = inl all

pub HasUsed-owes : (start now : EndState) (held : Option (Option ℕ)) → start.given ≡ start.read → HasUsed start now held → Owes now held
HasUsed-owes start now held all nothing_yet = all_given start all
HasUsed-owes start now held all (took {before = before} {now = after} {slot = slot} used acquires) =
    took-owes before after slot (HasUsed-owes start before None all used) acquires
HasUsed-owes start now held all (gave_back {before = before} {now = after} {slot = slot} answer used releases) =
    gave_back-owes before after slot answer (HasUsed-owes start before (Some slot) all used) releases

-- what is owed, in the words of the law
pub Owes-returns : (s : EndState) (held : Option (Option ℕ)) → Owes s held → ReturnsTokens s.read s.given
Owes-returns s None (inl all) = inl all
Owes-returns s None (inr lacks) = inr lacks.2
Owes-returns s (Some None) (inl all) = inl all
Owes-returns s (Some None) (inr lacks) = inr lacks.2
Owes-returns s (Some (Some token)) owes = inr (token, owes)

pub Owes-all : (s : EndState) → Owes s None → s.faulted ≡ false → s.given ≡ s.read
Owes-all s (inl all) fine = all
Owes-all s (inr lacks) fine = let f : s.faulted ≡ true = lacks.1 in cc
