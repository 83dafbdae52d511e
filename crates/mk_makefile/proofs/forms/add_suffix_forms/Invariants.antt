use Rattle.std.proofs.Common.{◌≡◌, ◌++◌}
use Rattle.std.specs.List.{flat_map}
use Rattle.mk_makefile.specs.Forms.{forms_from}
use Rattle.mk_makefile.specs.Table.{recipes_in}
use Rattle.mk_makefile.proofs.forms.add_suffix_forms.Given as goal

abbrev pub invariant-loop-s : goal.invariant-loop-s
invariant-loop-s l =
    l.forms.items ++ flat_map (forms_from (recipes_in l.rules) l.suffixes) l.s-iterator
    ≡ l.fn.forms.items ++ flat_map (forms_from (recipes_in l.rules) l.suffixes) l.suffixes
