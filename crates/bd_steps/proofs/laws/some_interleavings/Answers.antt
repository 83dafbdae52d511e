use Rattle.bd_steps.proofs.ExampleLemmas.{some_acknowledged, some_cut_off}
use Rattle.bd_steps.proofs.CompactedExample.{some_compaction}
use Rattle.bd_steps.proofs.laws.some_interleavings.Goals as goal

pub returns : goal.returns
returns c = record { acknowledged = some_acknowledged; cut_off = some_cut_off; compacted = some_compaction }
