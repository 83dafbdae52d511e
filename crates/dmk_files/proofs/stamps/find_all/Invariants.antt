use Rattle.std.proofs.Common.{◌≡◌, take}
use Rattle.std.specs.List.{IsDistinct}
use Rattle.std.specs.Str.{bytes_eq}
use Rattle.mk_names.specs.Names.{all_added}
use Rattle.dmk_files.proofs.stamps.find_all.Given as goal

abbrev pub invariant-loop-number : goal.invariant-loop-number
invariant-loop-number l = record {
  passed : l.found ≡ all_added l.fn.found (take l.number l.listed);
  once : IsDistinct bytes_eq l.fn.found → IsDistinct bytes_eq l.found;
}
