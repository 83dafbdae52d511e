use Rattle.std.proofs.Common.{◌≡◌, ◌++◌, ◌∙◌, List, ℕ, ap, rules}
use Rattle.std.specs.Prelude.{FitsSigned}
use Rattle.std.specs.Int.{w64}
use Rattle.std.proofs.lemmas.Int.{to_z-of_z}
use Rattle.std.proofs.lemmas.Result.{on_ok_weaker}
use Rattle.st_records.specs.Encoding.{number}
use Rattle.st_marks.specs.Encoding.{time_fields}
use Rattle.st_marks.proofs.PlaceLemmas.{stamp_behind}
use Rattle.st_marks.proofs.encoder.put_stamp.Goals as goal

pub returns-clause-ok : goal.returns-clause-ok
returns-clause-ok c =
    let out : List ℕ = c.args.out.now.items in
    let kinded : List ℕ = c.push.new.self.items in
    let timed : List ℕ = c.extend_from_slice.new.self.items in
    let fits : FitsSigned w64 c.args.stamp.time = search rules in
    let bytes_are : c.to_le_bytes.result ≡ time_fields c.args.stamp.time = c.to_le_bytes.ensures ∙ ap time_fields (to_z-of_z w64 c.args.stamp.time fits) in
    let time_is : timed ≡ kinded ++ time_fields c.args.stamp.time = c.in_ok-extend_from_slice.ensures.items ∙ ap (λ (t : List ℕ). kinded ++ t) bytes_are in
    on_ok_weaker c.put_number.result
    (λ (last : c.put_number.new.out.items ≡ timed ++ number c.args.stamp.size).
    stamp_behind out kinded timed c.put_number.new.out.items c.args.kind (time_fields c.args.stamp.time) (number c.args.stamp.size) c.in_ok-push.ensures.items time_is last)
    c.put_number.ensures.ok
