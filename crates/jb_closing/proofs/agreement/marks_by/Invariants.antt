use Rattle.std.proofs.Common.{length, take}
use Rattle.jb_closing.specs.Marking.{AreMarks, IsLeastBeyond}
use Rattle.jb_closing.proofs.agreement.marks_by.Given as goal

-- the marks and the least ticket beyond are those of the receipts so far
abbrev pub invariant-loop-receipt : goal.invariant-loop-receipt
invariant-loop-receipt l = record {
  marks : AreMarks l.told (take l.receipt-index l.receipts) l.marks.marks.items;
  beyond : IsLeastBeyond (length l.told) (take l.receipt-index l.receipts) l.marks.beyond;
}
