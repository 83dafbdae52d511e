use Rattle.std.proofs.Common.{refl}
use Rattle.st_disk.specs.declared.which.Which.TheVariants.{A, B}
use Rattle.st_memory.proofs.MemoryLaws.{replayed-cut, passes_from_cut}
use Rattle.st_memory.proofs.mem_disk.MemDisk.shorten.Goals as goal

pub invariant_of-self-in-A : goal.invariant_of-self-in-A
invariant_of-self-in-A c =
    record { replayed = replayed-cut _ _ _ _ _ A c.args.self.now.replayed refl c.args.len (cc) (rw c.in-A.is at c.requires) (record { bytes_are = cc; least_is = cc; greatest_is = cc }) }

pub invariant_of-self-in-B : goal.invariant_of-self-in-B
invariant_of-self-in-B c =
    record { replayed = replayed-cut _ _ _ _ _ B c.args.self.now.replayed refl c.args.len (cc) (rw c.in-B.is at c.requires) (record { bytes_are = cc; least_is = cc; greatest_is = cc }) }

pub returns-in-A-clause-passes : goal.returns-in-A-clause-passes
returns-in-A-clause-passes c =
    passes_from_cut _ _ _ c.args.side c.args.len c.args.self.now.replayed.complete (cc)

pub returns-in-B-clause-passes : goal.returns-in-B-clause-passes
returns-in-B-clause-passes c =
    passes_from_cut _ _ _ c.args.side c.args.len c.args.self.now.replayed.complete (cc)
