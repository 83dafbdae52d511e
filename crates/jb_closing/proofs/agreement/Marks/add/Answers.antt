use Rattle.std.proofs.Common.{◌≡◌, length, Some, slice_get, refl, sym, ◌∙◌, arith}
use Rattle.std.proofs.lemmas.Option.{slice_get_read}
use Rattle.jb_closing.proofs.AgreementLemmas.{marks-set, marks-beyond}
use Rattle.jb_closing.proofs.agreement.Marks.add.Goals as goal

pub returns-then-ticket-told-clause-marks : goal.returns-then-ticket-told-clause-marks
returns-then-ticket-told-clause-marks c = λ receipts are.
    let told = c.args.told.now in
    let marks = c.args.self.now.marks.items in
    let ticket = c.number-ticket.result in
    let of_it : ticket ≡ c.args.receipt.now.ticket = c.number-ticket.ensures ∙ c.ticket.ensures in
    let there : slice_get told ticket ≡ Some c.index-told-ticket.result =
    slice_get_read told (length told) ticket c.index-told-ticket.result refl c.if-ticket-told.true c.index-told-ticket.is in
    let has : slice_get marks ticket ≡ Some c.index.result.now =
    slice_get_read marks (length told) ticket c.index.result.now (sym c.requires) c.if-ticket-told.true c.index.ensures in
    marks-set told receipts c.args.receipt.now marks c.index.result.now c.marked.result c.index-told-ticket.result c.noted.result.now ticket
    of_it c.noted.ensures there has c.marked.ensures are

pub returns-else-ticket-told-clause-marks : goal.returns-else-ticket-told-clause-marks
returns-else-ticket-told-clause-marks c = λ receipts are.
    let of_it : c.number-ticket.result ≡ c.args.receipt.now.ticket = c.number-ticket.ensures ∙ c.ticket.ensures in
    marks-beyond c.args.told.now receipts c.args.receipt.now c.args.self.now.marks.items are (omega (arith, c.if-ticket-told.false, of_it))
