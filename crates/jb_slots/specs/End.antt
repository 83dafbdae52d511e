-- What a contract sees of an end over a pipe.
use Rattle.jb_slots.specs.declared.end.End.{End}
use Rattle.jb_slots.specs.Tokens.{EndState}

-- the state that an end notes
abbrev pub state_of : {P : Type 0} → End P → EndState
state_of e = record { read = e.read.items; given = e.given.items; room = e.room; ended = e.ended; faulted = e.faulted }
