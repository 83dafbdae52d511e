use Rattle.std.proofs.Common.{rules}
use Rattle.std.specs.Prelude.{FitsSigned}
use Rattle.std.specs.Int.{w64}
use Rattle.std.proofs.lemmas.Int.{to_z-of_z}
use Rattle.st_marks.proofs.PlaceLemmas.{three_behind}
use Rattle.st_marks.proofs.told.put_stamp.Goals as goal

pub returns : goal.returns
returns c =
    let fits : FitsSigned w64 c.args.stamp.time = search rules in
    let back = to_z-of_z w64 c.args.stamp.time fits in
    three_behind _ _ _ _ _ _ _ (rw back at c.put_time.ensures.items) c.put.ensures.items (rw c.from.ensures at c.put_number.ensures.items)
