use Rattle.std.proofs.Common.{◌∙◌, ◌%◌, ◌^◌, ap, arith, take, drop, w8}
use Rattle.std.specs.Prelude.{nat_eq}
use Rattle.std.specs.Simd.Lanes.{mask_l}
use Rattle.std.proofs.lemmas.Simd.{length-chunk, tops_compared}
use Rattle.name_keys.proofs.SameLemmas.{lanes_same, differs}
use Rattle.name_keys.proofs.same.same_at.Goals as goal

pub returns : goal.returns
returns g c =
    let a = c.args.a.now in
    let b = c.args.b.now in
    let i = c.args.place in
    let n = g.row.N in
    let len_a = length-chunk i n a c.requires.a in
    let len_b = length-chunk i n b c.requires.b in
    ap (λ ms. nat_eq (mask_l ms % 2 ^ 64) 0) (tops_compared w8 differs (take n (drop i a)) (take n (drop i b)))
    ∙ lanes_same (take n (drop i a)) (take n (drop i b)) (omega arith) (omega (arith, c.requires.lanes))
