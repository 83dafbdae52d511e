use Rattle.mk_rules.proofs.building.put_together.Goals as goal

pub invariant_of-result-clause-table : goal.invariant_of-result-clause-table
invariant_of-result-clause-table c = c.requires.table
