use Rattle.std.proofs.Common.{◌++◌, take}
use Rattle.std.proofs.KnownBytes.{Appends-trans}
use Rattle.dmk_messages.proofs.OutputLemmas.{front_moved}
use Rattle.dmk_messages.proofs.output.write_text.Goals as goal

pub loop-rest-preserved : goal.loop-rest-preserved
loop-rest-preserved g c =
    let (done, split, appended) = c.loop-rest.invariant in
    let rest = c.loop-rest.rest.now in
    let n = c.in_ok-written.written in
    (done ++ take n rest, front_moved _ done rest n split, Appends-trans _ _ _ _ _ appended c.in_ok-written.ensures.some.1)
