use Rattle.bd_progress.proofs.CallLemmas.{advance_is_move, advance_is_refused}
use Rattle.bd_progress.proofs.calls.advance.Goals as goal

pub returns : goal.returns
returns g c = record {
  made = advance_is_move c.args.board.now c.advance.new.self c.args.node c.args.told (g.T.Told.ticket_of c.args.told) (g.T.Told.noted_of c.args.told)
      c.advance.result c.advance.ensures.ok;
  refused = advance_is_refused c.args.board.now c.advance.new.self c.args.node c.args.told (g.T.Told.ticket_of c.args.told) (g.T.Told.noted_of c.args.told)
      c.advance.result c.advance.ensures.err;
}
