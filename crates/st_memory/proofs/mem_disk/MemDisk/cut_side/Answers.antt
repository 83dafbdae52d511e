use Rattle.std.proofs.Common.{◌≡◌, ℕ, ◌∙◌, min, take, length, ap, arith}
use Rattle.st_memory.specs.Memory.{blank, made, replay, side_of}
use Rattle.st_memory.specs.PowerCut.{contents_of}
use Rattle.st_memory.proofs.PowerCutLaws.{power_cut_of}
use Rattle.st_memory.proofs.mem_disk.MemDisk.cut_side.Goals as goal

pub returns : goal.returns
returns c =
    let disk = c.args.self.now in
    let least = c.extreme_lengths-least.result.0 in
    let synced = c.deref-3.result.now in
    let shorter : c.min.result ≡ min least (length synced) = omega (arith, c.min.ensures, c.len.ensures, c.deref-3.ensures.len, ap length c.deref-3.ensures.value) in
    power_cut_of (made disk.calls.items disk.written.items) c.args.side _ _ synced c.deref-4.result.now least _ _ _
    (c.in_ok-replay.ensures ∙ (λ i. contents_of (side_of c.args.side (replay blank (made (c.deref.ensures.value i) (c.deref-2.ensures.value i))))))
    (ap (λ (n : ℕ). take n synced) shorter)
    c.deref-3.ensures.value c.deref-4.ensures.value c.extreme_lengths-least.ensures.least c.requires c.in_ok-bytes.ensures
