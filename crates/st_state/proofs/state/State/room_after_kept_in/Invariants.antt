use Rattle.std.proofs.Common.{◌≡◌, ◌+◌}
use Rattle.std.proofs.lemmas.Map.Lookups.{map_keys}
use Rattle.st_state.specs.Keepable.{kept_bytes_in}
use Rattle.st_state.proofs.KeptLemmas.{bytes_of}
use Rattle.st_state.proofs.state.State.room_after_kept_in.Given as goal

-- what is left, and what the records of the entries so far take, is the room that there was
abbrev pub invariant-loop-name : goal.invariant-loop-name
invariant-loop-name l = l.left + kept_bytes_in l.fn.form l.self ≡ l.fn.room + bytes_of l.fn.form (map_keys (λ k. k) l.name-iterator)
