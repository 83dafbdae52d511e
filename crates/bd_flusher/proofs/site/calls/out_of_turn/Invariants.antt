use Rattle.std.proofs.Common.{◌≡◌, ◌+◌, take}
use Rattle.bd_flusher.specs.Turns.{AreInTurn}
use Rattle.bd_flusher.proofs.site.calls.out_of_turn.Given as goal

-- those so far are in turn, and the next one's turn is known
abbrev pub invariant-loop-ticket : goal.invariant-loop-ticket
invariant-loop-ticket l = record {
  turn : l.turn ≡ l.told + l.ticket-index;
  so_far : AreInTurn l.told (take l.ticket-index l.tickets);
}
