use Rattle.std.proofs.Common.{◌≡◌, ◌+◌, ◌≤◌, ◌++◌, length, take, vec_len, vec_capacity}
use Rattle.mk_names.proofs.room.append.Given as goal

abbrev pub invariant-loop-number : goal.invariant-loop-number
invariant-loop-number l = record {
  so_far : l.numbers.items ≡ l.fn.numbers.items ++ take l.number-index l.more;
  count : vec_len l.numbers ≡ vec_len l.fn.numbers + l.number-index;
  room : vec_len l.fn.numbers + length l.more ≤ vec_capacity l.numbers;
}
