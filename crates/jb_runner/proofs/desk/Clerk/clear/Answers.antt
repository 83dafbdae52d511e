use Rattle.std.proofs.Common.{◌≡◌, ap, ◌∙◌}
use Rattle.bd_flusher.specs.declared.site.receipt.Receipt.{Receipt}
use Rattle.jb_runner.proofs.desk.Clerk.clear.Goals as goal

-- the clearance has the receipt that was acknowledged, which notes the record that was submitted
pub returns-in-Ok-Cleared : goal.returns-in-Ok-Cleared
returns-in-Ok-Cleared g c =
    let handed : c.in-Ok-Cleared.clearance.told ≡ c.in_ok-receipt.receipt = rw c.in-Ok-Cleared.field-0-is at c.in-Ok-Cleared.ensures in
    ap (λ (r : Receipt). r.noted) handed ∙ c.in_ok-receipt.ensures.ok.1
