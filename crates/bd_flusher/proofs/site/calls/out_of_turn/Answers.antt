use Rattle.std.proofs.Common.{◌≡◌, Some, slice_get, refl, ◌∙◌, arith, rules}
use Rattle.std.proofs.lemmas.Option.{slice_get_read}
use Rattle.bd_flusher.proofs.TurnLemmas.{one_more_in_turn, all_in_turn}
use Rattle.bd_flusher.proofs.site.calls.out_of_turn.Goals as goal

pub loop-ticket-preserved : goal.loop-ticket-preserved
loop-ticket-preserved c =
    let here : slice_get c.args.tickets.now c.loop-ticket.ticket-index ≡ Some c.ticket-item.result = slice_get_read _ _ _ _ refl c.loop-ticket-test.true c.ticket-item.is in
    let turn : c.ticket-item.result ≡ c.loop-ticket.turn = search rules in
    record {
      turn = omega (arith, c.loop-ticket.invariant.turn);
      so_far = one_more_in_turn c.args.told c.args.tickets.now c.loop-ticket.ticket-index c.ticket-item.result c.loop-ticket.invariant.so_far here (turn ∙ c.loop-ticket.invariant.turn);
    }

pub returns : goal.returns
returns c = all_in_turn c.args.told c.args.tickets.now c.loop-ticket.ticket-index (omega arith) c.loop-ticket.invariant.so_far
