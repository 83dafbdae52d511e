-- How a refused commit or compaction is told. Own.
use Rattle.st_file.specs.declared.commit_fault.CommitFault.{CommitFault}
use Rattle.st_file.specs.declared.commit_fault.CommitFault.TheVariants as commits
use Rattle.bd_flusher.specs.declared.fault.FlushFault.{FlushFault}
use Rattle.bd_flusher.specs.declared.fault.FlushFault.TheVariants as faults

-- what a flush answers where a commit or a compaction was refused so
abbrev pub fault_of : CommitFault → FlushFault
fault_of commits.Device = faults.Device
fault_of commits.OutOfMemory = faults.OutOfMemory
fault_of commits.Full = faults.Full
fault_of commits.Dead = faults.Dead
fault_of commits.OldVersion = faults.OldVersion
fault_of commits.GenerationsSpent = faults.OldVersion
