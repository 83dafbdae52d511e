use Rattle.std.proofs.Common.{position, sym, ap, ◌∙◌}
use Rattle.jb_closing.specs.Marking.{is_unmarked}
use Rattle.jb_closing.proofs.AgreementLemmas.{found_unmarked, none_unmarked, first_by_mark, by_beyond}
use Rattle.jb_closing.proofs.agreement.first_difference.Goals as goal

pub returns-in-Some : goal.returns-in-Some
returns-in-Some c =
    let m = c.in_ok-marks in
    first_by_mark c.args.told.now c.args.receipts.now m.marks.marks.items c.in-Some.ticket m.ensures.marks
    (found_unmarked m.marks.marks.items c.in-Some.ticket (sym (c.in-Some.ensures ∙ ap (position is_unmarked) c.deref.ensures.value)))

pub returns : goal.returns
returns c =
    let m = c.in_ok-marks in
    by_beyond c.args.told.now c.args.receipts.now m.marks.marks.items m.marks.beyond m.ensures.marks
    (none_unmarked m.marks.marks.items (sym (c.in-None.ensures ∙ ap (position is_unmarked) c.deref.ensures.value))) m.ensures.beyond
