use Rattle.std.proofs.Common.{◌∙◌, ap}
use Rattle.st_disk.specs.declared.which.Which.TheVariants.{A, B}
use Rattle.st_disk.specs.Crash.{overwritten, settled, with_writes}
use Rattle.st_disk.specs.Moments.{now}
use Rattle.st_memory.specs.MemDisk.{memory_moments}
use Rattle.st_memory.proofs.PowerCutLaws.{settled_both, overwritten-nil}
use Rattle.st_memory.proofs.mem_disk.MemDisk.holding.Goals as goal

pub returns-clause-a : goal.returns-clause-a
returns-clause-a c =
    ap (λ f. f A) c.settle-2.ensures.bytes ∙ c.write-2.ensures.other ∙ ap (λ f. f A) c.settle.ensures.bytes
    ∙ c.in_ok-write.ensures.bytes ∙ ap (λ l. overwritten l 0 c.args.a.now) c.new-disk.ensures.a ∙ overwritten-nil c.args.a.now

pub returns-clause-b : goal.returns-clause-b
returns-clause-b c =
    ap (λ f. f B) c.settle-2.ensures.bytes ∙ c.in_ok-write-2.ensures.bytes
    ∙ ap (λ l. overwritten l 0 c.args.b.now) (ap (λ f. f B) c.settle.ensures.bytes ∙ c.write.ensures.other ∙ c.new-disk.ensures.b) ∙ overwritten-nil c.args.b.now

pub returns-clause-settled : goal.returns-clause-settled
returns-clause-settled c = settled_both (now (memory_moments c.new-disk.result)) _ _ _ _ c.args.a.now c.args.b.now _ _
    c.in_ok-write.ensures.passes.here
    (c.in_ok-settle.ensures.passes.here
    ∙ ap (λ l. with_writes A (settled l) (now (memory_moments c.write.new.self))) (c.in_ok-write.ensures.bytes ∙ ap (λ l. overwritten l 0 c.args.a.now) c.new-disk.ensures.a ∙ overwritten-nil c.args.a.now))
    c.in_ok-write-2.ensures.passes.here
    (c.in_ok-settle-2.ensures.passes.here
    ∙ ap (λ l. with_writes B (settled l) (now (memory_moments c.write-2.new.self)))
    (c.in_ok-write-2.ensures.bytes
    ∙ ap (λ l. overwritten l 0 c.args.b.now) (ap (λ f. f B) c.settle.ensures.bytes ∙ c.write.ensures.other ∙ c.new-disk.ensures.b) ∙ overwritten-nil c.args.b.now))
