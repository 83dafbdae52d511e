use Rattle.std.proofs.Common.{refl}
use Rattle.st_disk.specs.declared.which.Which.TheVariants.{A, B}
use Rattle.st_memory.proofs.MemoryLaws.{replayed-write, passes_from_write}
use Rattle.st_memory.proofs.mem_disk.MemDisk.write.Goals as goal

pub invariant_of-self-in-A : goal.invariant_of-self-in-A
invariant_of-self-in-A c =
    record { replayed = replayed-write _ _ _ _ _ A c.args.self.now.replayed refl _ c.args.at c.args.bytes.now (cc) (cc) (rw c.in-A.is at c.requires) (record { bytes_are = cc; least_is = cc; greatest_is = cc }) }

pub invariant_of-self-in-B : goal.invariant_of-self-in-B
invariant_of-self-in-B c =
    record { replayed = replayed-write _ _ _ _ _ B c.args.self.now.replayed refl _ c.args.at c.args.bytes.now (cc) (cc) (rw c.in-B.is at c.requires) (record { bytes_are = cc; least_is = cc; greatest_is = cc }) }

pub returns-in_ok-make_room-in-A-clause-passes : goal.returns-in_ok-make_room-in-A-clause-passes
returns-in_ok-make_room-in-A-clause-passes c =
    passes_from_write _ _ _ _ c.args.side c.args.at c.args.bytes.now c.args.self.now.replayed.complete (cc) (cc)

pub returns-in_ok-make_room-in-B-clause-passes : goal.returns-in_ok-make_room-in-B-clause-passes
returns-in_ok-make_room-in-B-clause-passes c =
    passes_from_write _ _ _ _ c.args.side c.args.at c.args.bytes.now c.args.self.now.replayed.complete (cc) (cc)
