use Rattle.std.proofs.Common.{◌≡◌, ◌/◌, ◌%◌, ◌^◌, bit_xor, sym, ap, ◌∙◌, arith}
use Rattle.std.proofs.lemmas.List.{at_drop_all}
use Rattle.mk_names.specs.Hashing.{stirred_by, hash_of}
use Rattle.mk_names.proofs.hashing.hash_of.Goals as goal

pub returns : goal.returns
unfolding hash_of
returns c =
    let state : c.loop-byte.state ≡ stirred_by 0xcbf2_9ce4_8422_2325 c.args.name.now
    = sym (at_drop_all (stirred_by c.loop-byte.state) c.args.name.now c.loop-byte.byte-index (omega (arith, c.loop-byte-test.false))) ∙ c.loop-byte.invariant in
    ap (λ s. bit_xor (s / 2 ^ 32) (s % 2 ^ 32)) state
