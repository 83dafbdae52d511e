use Rattle.jb_host.proofs.SyncsLemmas.{Follows-served, HasWholeSync-serves}
use Rattle.jb_host.proofs.laws.served_by_later_syncs.Goals as goal

pub returns : goal.returns
returns c = record { only = Follows-served; each = HasWholeSync-serves }
