use Rattle.std.proofs.Common.{◌≡◌, All, length}
use Rattle.jb_slots.specs.Tokens.{fresh}
use Rattle.jb_slots.specs.End.{state_of}
use Rattle.jb_slots.proofs.fifo_bank.FifoBanksBanks.open.Given as goal

-- an end for each worker so far, and none has read or written anything
abbrev pub invariant-loop : goal.invariant-loop
invariant-loop l = record {
  count : length l.ends.items ≡ l.counter;
  fresh : All (λ end. state_of end ≡ fresh l.room) l.ends.items;
}
