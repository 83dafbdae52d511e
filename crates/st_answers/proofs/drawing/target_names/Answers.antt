use Rattle.std.proofs.Common.{ℕ, List, [], ◌∷◌, ◌++◌, ◌+◌, ◌∙◌, ap, append_assoc, drop, sym}
use Rattle.std.specs.Prelude.{map as list_map}
use Rattle.st_records.specs.declared.record.Entry.{Entry}
use Rattle.st_answers.proofs.Loops.{behind}
use Rattle.st_answers.proofs.drawing.target_names.Goals as goal

pub loop-place-preserved : goal.loop-place-preserved
loop-place-preserved c =
    let named = c.in_ok-named.named in
    let place = c.loop-place.place in
    let entry : List ℕ × Entry = (c.at.result.0.now, c.at.result.1.now) in
    let name_of : List ℕ × Entry → List ℕ = λ e. e.0 in
    let names = c.loop-place.names in
    ap (λ t. t ++ list_map name_of (drop (place + 1) named)) c.in_ok-push.ensures.ok
    ∙ append_assoc names (entry.0 ∷ []) (list_map name_of (drop (place + 1) named))
    ∙ ap (λ es. names ++ list_map name_of es) (sym (behind named place entry c.at.ensures))
    ∙ c.loop-place.invariant
