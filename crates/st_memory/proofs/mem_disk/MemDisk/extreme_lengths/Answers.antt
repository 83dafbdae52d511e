use Rattle.std.proofs.Common.{sym, ◌∙◌, ap}
use Rattle.st_disk.specs.Which.{pick}
use Rattle.st_memory.proofs.MemoryLaws.{memory_least, memory_greatest}
use Rattle.st_memory.proofs.mem_disk.MemDisk.extreme_lengths.Goals as goal

pub returns-in-A-clause-least : goal.returns-in-A-clause-least
returns-in-A-clause-least c =
    let disk = c.args.self.now in ap (λ s. (pick disk.a disk.b s).least) (sym c.in-A.is) ∙ memory_least disk.replayed c.args.side

pub returns-in-A-clause-greatest : goal.returns-in-A-clause-greatest
returns-in-A-clause-greatest c =
    let disk = c.args.self.now in ap (λ s. (pick disk.a disk.b s).greatest) (sym c.in-A.is) ∙ memory_greatest disk.replayed c.args.side

pub returns-in-B-clause-least : goal.returns-in-B-clause-least
returns-in-B-clause-least c =
    let disk = c.args.self.now in ap (λ s. (pick disk.a disk.b s).least) (sym c.in-B.is) ∙ memory_least disk.replayed c.args.side

pub returns-in-B-clause-greatest : goal.returns-in-B-clause-greatest
returns-in-B-clause-greatest c =
    let disk = c.args.self.now in ap (λ s. (pick disk.a disk.b s).greatest) (sym c.in-B.is) ∙ memory_greatest disk.replayed c.args.side
