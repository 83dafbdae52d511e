use Rattle.std.proofs.Common.{◌≡◌, ◌+◌, ◌≤◌, ◌++◌, map, length, vec_len, vec_capacity}
use Rattle.bd_flusher.proofs.site.records.part.Given as goal

-- with what is left they are what they are to be, and there is room for it
abbrev pub invariant-loop-ticket : goal.invariant-loop-ticket
invariant-loop-ticket l = record {
  tickets : l.tickets.items ++ map (λ n. n.0) l.ticket-iterator.rest.items ≡ l.initial.tickets.items ++ map (λ n. n.0) l.initial.ticket-iterator.rest.items;
  held : l.held.items ++ map (λ n. n.1) l.ticket-iterator.rest.items ≡ l.initial.held.items ++ map (λ n. n.1) l.initial.ticket-iterator.rest.items;
  tickets_room : vec_len l.tickets + length l.ticket-iterator.rest.items ≤ vec_capacity l.tickets;
  held_room : vec_len l.held + length l.ticket-iterator.rest.items ≤ vec_capacity l.held;
}
