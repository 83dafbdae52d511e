use Rattle.std.proofs.Common.{◌≡◌, ℕ, Some, List, [], ◌++◌, ◌+◌, ◌∙◌, ap, drop, slice_get, option_map}
use Rattle.std.proofs.lemmas.Option.{slice_get-map}
use Rattle.std.specs.Prelude.{map as list_map}
use Rattle.std.specs.List.{flat_map}
use Rattle.st_records.specs.declared.record.Entry.{Entry}
use Rattle.st_answers.specs.Stale.{looked_row, stale_row}
use Rattle.st_answers.proofs.Loops.{behind, moved}
use Rattle.st_answers.proofs.stale.stale_targets.Goals as goal

pub loop-place-preserved : goal.loop-place-preserved
loop-place-preserved c = λ look same.
    let named = c.in_ok-named.named in
    let place = c.loop-place.place in
    let entry : List ℕ × Entry = (c.at.result.0.now, c.at.result.1.now) in
    let name_of : List ℕ × Entry → List ℕ = λ e. e.0 in
    let found : slice_get c.args.looks.now place ≡ Some (look entry.0) =
    ap (λ l. slice_get l place) same
    ∙ slice_get-map look (list_map name_of named) place
    ∙ ap (option_map look) (slice_get-map name_of named place ∙ ap (option_map name_of) c.at.ensures) in
    ap (λ t. t ++ flat_map (stale_row look) (drop (place + 1) named))
    (c.in_ok-append_looked.ensures ∙ ap (λ o. c.loop-place.text.items ++ looked_row entry o) (c.look_at.ensures ∙ found))
    ∙ moved (stale_row look) _ [] (drop place named) named (drop (place + 1) named) entry (c.loop-place.invariant look same) (behind named place entry c.at.ensures)
