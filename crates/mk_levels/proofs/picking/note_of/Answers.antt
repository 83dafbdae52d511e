use Rattle.std.proofs.Common.{subst}
use Rattle.st_records.specs.Limits.{IsWithinIn}
use Rattle.st_records.specs.declared.version.Form.TheVariants as forms
use Rattle.mk_levels.proofs.OfferedLemmas.{good_offer}
use Rattle.mk_levels.proofs.picking.note_of.Goals as goal

pub returns-in-Ok-clause-some : goal.returns-in-Ok-clause-some
returns-in-Ok-clause-some c =
    let wanted = c.args.wanted.now in
    let e = c.in-Some.entry.now in
    let offered = c.in-Some.ensures.some in (
      e,
      offered,
      good_offer wanted.own.now wanted.levels.now c.args.target.now e offered (subst (IsWithinIn forms.Marked) c.in_ok-note.ensures c.in-Ok.ensures),
      c.in_ok-note.ensures,
    )
