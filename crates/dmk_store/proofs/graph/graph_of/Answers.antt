use Rattle.std.proofs.Common.{inl, inr, ap}
use Rattle.dmk_store.specs.declared.stop.Stop.TheVariants as stops
use Rattle.dmk_store.proofs.graph.graph_of.Goals as goal

pub returns-in-Err-clause-fault : goal.returns-in-Err-clause-fault
returns-in-Err-clause-fault g c = elim c.in-Err.ensures.fault [
  | inl is ↦ inl (ap stops.Before is)
  | inr (f, is, meets) ↦ inr (f, ap stops.Before is, meets)
]
