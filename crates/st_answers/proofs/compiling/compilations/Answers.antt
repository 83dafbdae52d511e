use Rattle.std.proofs.Common.{ℕ, List, [], ◌++◌, ◌+◌, ◌∙◌, ap, drop}
use Rattle.std.specs.List.{flat_map}
use Rattle.st_records.specs.declared.record.Entry.{Entry}
use Rattle.st_answers.specs.Compilations.{compiled_for}
use Rattle.st_answers.proofs.Loops.{behind, moved}
use Rattle.st_answers.proofs.compiling.compilations.Goals as goal

pub loop-place-preserved : goal.loop-place-preserved
loop-place-preserved c =
    let named = c.args.named.now in
    let place = c.loop-place.place in
    let entry : List ℕ × Entry = (c.at.result.0.now, c.at.result.1.now) in
    ap (λ t. t ++ flat_map (compiled_for c.args.all) (drop (place + 1) named)) c.in_ok-append_for.ensures
    ∙ moved (compiled_for c.args.all) _ [] (drop place named) named (drop (place + 1) named) entry c.loop-place.invariant (behind named place entry c.at.ensures)
