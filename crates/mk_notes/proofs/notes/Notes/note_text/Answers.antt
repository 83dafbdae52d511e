use Rattle.std.proofs.Common.{◌≡◌, true, not, ap, subst}
use Rattle.mk_notes.proofs.ReferenceLemmas.{none_noted}
use Rattle.mk_notes.proofs.notes.Notes.note_text.Goals as goal

pub returns-then-not-has_dollar-clause-found : goal.returns-then-not-has_dollar-clause-found
returns-then-not-has_dollar-clause-found c =
    none_noted c.args.profile c.args.file.now c.args.line c.args.text.now c.args.self.now.found.items
    (subst (λ b. not b ≡ true) c.has_dollar.ensures (ap not c.if-not-has_dollar.true))
