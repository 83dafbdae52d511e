use Rattle.std.proofs.Common.{◌≡◌, is_some, ap, sym, ◌∙◌}
use Rattle.mk_names.specs.Names.{has_name}
use Rattle.st_records.specs.Parts.{target_of}
use Rattle.jb_closing.proofs.LastLemmas.{places-set, places-same}
use Rattle.jb_closing.proofs.last.set_place.Goals as goal

-- `number_of` was asked with the bytes of the record's target
pub returns-in-Some : goal.returns-in-Some
returns-in-Some c = λ notes long are.
    let name : c.as_slice.result.now ≡ target_of c.args.note.now = c.as_slice.ensures ∙ c.target.ensures in
    rw (← long) (places-set c.args.names.now notes c.args.note.now c.args.places.now.items c.in-Some.node c.requires.distinct
    c.in-Some.ensures.number.0 (c.in-Some.ensures.number.1 ∙ name) are)

pub returns-in_default : goal.returns-in_default
returns-in_default c = λ notes long are.
    let name : c.as_slice.result.now ≡ target_of c.args.note.now = c.as_slice.ensures ∙ c.target.ensures in
    places-same c.args.names.now notes c.args.note.now c.args.places.now.items
    (ap (has_name c.args.names.now) (sym name) ∙ sym c.number_of.ensures.none ∙ ap is_some c.in_default.is) are
