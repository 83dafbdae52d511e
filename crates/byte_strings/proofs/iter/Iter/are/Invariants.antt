use Rattle.std.proofs.Common.{◌≡◌, nat_eq}
use Rattle.std.specs.Cmp.Lexicographic.{pointwise}
use Rattle.byte_strings.proofs.iter.Iter.are.Given as goal

abbrev pub invariant-loop-string : goal.invariant-loop-string
invariant-loop-string l = pointwise (pointwise nat_eq) l.string-iterator l.left ≡ pointwise (pointwise nat_eq) l.fn.self l.fn.others
