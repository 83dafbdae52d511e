use Rattle.std.proofs.Common.{◌≡◌, ◌+◌, [], ◌∷◌, ◌++◌, length, take, sym, ap, ◌∙◌}
use Rattle.std.proofs.lemmas.List.{take_all, take_more}
use Rattle.jb_closing.proofs.AgreementLemmas.{marks_at_first, beyond_first}
use Rattle.jb_closing.proofs.agreement.marks_by.Goals as goal

pub loop-receipt-init : goal.loop-receipt-init
loop-receipt-init c = record {
  marks = marks_at_first c.args.told.now _ c.in_ok-first.ensures;
  beyond = beyond_first (length c.args.told.now);
}

pub add-requires : goal.add-requires
add-requires c = c.loop-receipt.invariant.marks.each_one

pub loop-receipt-preserved : goal.loop-receipt-preserved
loop-receipt-preserved c =
    let all = c.args.receipts.now in
    let i = c.loop-receipt.receipt-index in
    let more : take i all ++ c.receipt-item.result ∷ [] ≡ take (i + 1) all =
    ap (λ r. take i all ++ r ∷ []) c.receipt-item.is ∙ sym (take_more all i c.receipt-item.result c.loop-receipt-test.true) in
    record {
      marks = rw more at (c.add.ensures.marks (take i all) c.loop-receipt.invariant.marks);
      beyond = rw more at (c.add.ensures.beyond (take i all) c.loop-receipt.invariant.beyond);
    }

pub returns-clause-marks : goal.returns-clause-marks
returns-clause-marks c =
    rw (take_all c.loop-receipt.receipt-index c.args.receipts.now c.loop-receipt-test.false) at c.loop-receipt.invariant.marks

pub returns-clause-beyond : goal.returns-clause-beyond
returns-clause-beyond c =
    rw (take_all c.loop-receipt.receipt-index c.args.receipts.now c.loop-receipt-test.false) at c.loop-receipt.invariant.beyond
