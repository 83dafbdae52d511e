use Rattle.std.proofs.Common.{refl}
use Rattle.st_disk.specs.declared.which.Which.TheVariants.{A, B}
use Rattle.st_memory.proofs.MemoryLaws.{replayed-sync, passes_from_sync}
use Rattle.st_memory.proofs.mem_disk.MemDisk.settle.Goals as goal

pub invariant_of-self-in-A : goal.invariant_of-self-in-A
invariant_of-self-in-A c =
    record { replayed = replayed-sync _ _ _ _ _ A c.args.self.now.replayed refl (cc) (record { bytes_are = cc; least_is = cc; greatest_is = cc }) }

pub invariant_of-self-in-B : goal.invariant_of-self-in-B
invariant_of-self-in-B c =
    record { replayed = replayed-sync _ _ _ _ _ B c.args.self.now.replayed refl (cc) (record { bytes_are = cc; least_is = cc; greatest_is = cc }) }

pub returns-in-A-clause-passes : goal.returns-in-A-clause-passes
returns-in-A-clause-passes c =
    passes_from_sync _ _ _ _ _ c.args.side c.args.self.now.replayed (cc)

pub returns-in-B-clause-passes : goal.returns-in-B-clause-passes
returns-in-B-clause-passes c =
    passes_from_sync _ _ _ _ _ c.args.side c.args.self.now.replayed (cc)
