use Rattle.std.proofs.Common.{◌≡◌, take}
use Rattle.mk_names.specs.Chains.{AreChained}
use Rattle.mk_names.specs.Links.{hashes_of, befores_of}
use Rattle.mk_names.proofs.chains.chain.Given as goal

abbrev pub invariant-loop-number : goal.invariant-loop-number
invariant-loop-number l = record {
  same : hashes_of l.links ≡ hashes_of l.fn.links;
  so_far : AreChained (take l.number (hashes_of l.fn.links)) (take l.number (befores_of l.links)) l.heads;
  place : l.place ≡ l.number;
}
