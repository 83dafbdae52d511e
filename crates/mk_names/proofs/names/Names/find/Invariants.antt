use Rattle.std.proofs.Common.{length}
use Rattle.mk_names.specs.Links.{hashes_of}
use Rattle.mk_names.proofs.ChainLemmas.{Seeks}
use Rattle.mk_names.proofs.names.Names.find.Given as goal

abbrev pub invariant-loop-place : goal.invariant-loop-place
invariant-loop-place l = Seeks l.self (hashes_of l.self-inside.links.items) (length l.self-inside.heads.items) l.name l.place

abbrev pub decreases-loop-place : goal.decreases-loop-place
decreases-loop-place l = l.place
