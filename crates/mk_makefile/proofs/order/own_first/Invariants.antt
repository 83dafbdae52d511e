use Rattle.std.proofs.Common.{◌≡◌, length}
use Rattle.std.specs.Vec.Iter.{into_iter_items, into_iter_len}
use Rattle.mk_makefile.specs.Order.{with_forms, by_stem, own_of, built_in_of}
use Rattle.mk_makefile.proofs.order.own_first.Given as goal

abbrev pub invariant-loop-form : goal.invariant-loop-form
invariant-loop-form l = record {
  left : into_iter_len l.form-iterator ≡ length (into_iter_items l.form-iterator);
  own : with_forms l.own.items (own_of l.lines (into_iter_items l.form-iterator)) ≡ by_stem (own_of l.lines l.fn.listed.items);
  built_in : with_forms l.built_in.items (built_in_of l.lines (into_iter_items l.form-iterator)) ≡ by_stem (built_in_of l.lines l.fn.listed.items);
}
