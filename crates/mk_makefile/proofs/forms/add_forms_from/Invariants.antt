use Rattle.std.proofs.Common.{◌≡◌, ◌++◌}
use Rattle.std.specs.List.{flat_map}
use Rattle.mk_makefile.specs.Forms.{pair_forms}
use Rattle.mk_makefile.specs.Table.{recipes_in}
use Rattle.mk_makefile.proofs.forms.add_forms_from.Given as goal

abbrev pub invariant-loop-t : goal.invariant-loop-t
invariant-loop-t l =
    l.forms.items ++ flat_map (pair_forms (recipes_in l.rules) l.s) l.t-iterator
    ≡ l.fn.forms.items ++ flat_map (pair_forms (recipes_in l.rules) l.s) l.suffixes
