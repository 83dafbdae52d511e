use Rattle.std.proofs.Common.{◌≡◌, length, Some, slice_get, refl}
use Rattle.std.proofs.lemmas.Option.{slice_get_read, slice_get_past}
use Rattle.jb_closing.proofs.ClosingLemmas.{node_done, node_beyond}
use Rattle.jb_closing.proofs.closing.node_ends_done.Goals as goal

pub returns-in-Some : goal.returns-in-Some
returns-in-Some c = λ names are.
    let places = c.args.places.now in
    let place = c.in-Some.place.now in
    let there : slice_get places c.args.node ≡ Some place =
    slice_get_read places (length places) c.args.node place refl (c.in-Some.ensures.lookup.3).0 c.in-Some.ensures.lookup.1 in
    node_done c.args.told.now names places c.args.node place c.ends_done.result there c.ends_done.ensures are

pub returns-in-None : goal.returns-in-None
returns-in-None c = λ names are. (
  (λ yes. cc),
  (λ both. absurd (node_beyond c.args.told.now names c.args.places.now c.args.node
      (slice_get_past c.args.places.now c.args.node c.in-None.ensures.lookup.3) are both)),
)
