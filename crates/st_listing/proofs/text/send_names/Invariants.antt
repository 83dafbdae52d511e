use Rattle.std.proofs.Common.{◌≡◌, ℕ, List, ◌++◌}
use Rattle.std.specs.List.{flat_map}
use Rattle.st_listing.specs.Listing.{line}
use Rattle.st_listing.specs.Writing.{Sends}
use Rattle.st_listing.proofs.text.send_names.Given as goal

abbrev pub invariant-loop-name : goal.invariant-loop-name
invariant-loop-name g l =
    (sent : List ℕ)
    × (flat_map (λ n. line (l.fn.mark ++ n)) l.fn.names ≡ sent ++ flat_map (λ n. line (l.fn.mark ++ n)) l.name-iterator)
    × Sends (g.W.Write.contents l.fn.writer) (g.W.Write.contents l.writer) l.fn.buffer.items l.buffer.items sent
