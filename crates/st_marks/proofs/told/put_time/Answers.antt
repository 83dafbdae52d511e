use Rattle.std.proofs.Common.{◌≡◌, to_z-of_z}
use Rattle.std.specs.Prelude.{unsigned_abs}
use Rattle.st_marks.proofs.PlaceLemmas.{four_behind}
use Rattle.st_marks.proofs.told.put_time.Goals as goal

pub returns-clause-items : goal.returns-clause-items
returns-clause-items c =
    let back = to_z-of_z c.ranges.time in
    let far : c.unsigned_abs-nanoseconds.result ≡ unsigned_abs c.args.time = rw back at c.unsigned_abs-nanoseconds.ensures.value in
    rw (← far) (four_behind _ _ _ _ _ _ _ _ _ (rw back at c.put_sign.ensures.items) c.put_number.ensures.items c.put.ensures.items (rw c.nine_digits.ensures at c.put-2.ensures.items))
